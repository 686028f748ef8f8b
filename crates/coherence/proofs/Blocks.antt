-- One block as its protocol sees it: the copies and requests of the nodes, the home, and the messages and entries about the
-- block. What happens elsewhere changes nothing of it but clocks, which only go on.
use Rattle.std.proofs.Common.{◌≡◌, ℕ, ◌+◌, ◌/◌, Bool, cond, ◌&&◌, ◌||◌, eqb, ltb, ◌⊎◌, List, [], ◌∷◌, None, filter, Option, refl, ⊎_elim, arith}
use Rattle.home.specs.declared.machine.Home.{Home}
use Rattle.message.specs.Kinds.{same_kind}
use Rattle.message.specs.Laws.{goes_home, comes_from_home}
use Rattle.message.specs.Nodes.{is_device}
use Rattle.message.specs.Requests.{out}
use Rattle.message.specs.declared.kind.Kind.{Kind}
use Rattle.message.specs.declared.kind.Kind.TheVariants.{Done}
use Rattle.message.specs.declared.message.Message.{Message}
use Rattle.ordering.specs.Operations.{is_block}
use Rattle.processor.specs.Lines.{line_at}
use Rattle.processor.specs.declared.line.Line.{Line}
use Rattle.std.proofs.ByRecursion.{all-has, all_has_itself, All-weaker}
use Rattle.std.specs.List.{ContainsAt as Has, AllByRecursion as All}
use Rattle.trail.specs.declared.entry.Entry.{Entry}
use Rattle.coherence.proofs.Classes.{class_of}
use Rattle.coherence.proofs.Counting.{indicator, count, count_none, count_cons}
use Rattle.coherence.specs.Worlds.{World, processor_at, home_at}

-- A message about block b goes to its home or comes from it.
abbrev pub about : ℕ → Message ℕ → Bool
about b m = (goes_home m.kind || comes_from_home m.kind) && eqb m.place b

-- The end that is not the home.
abbrev pub peer : Message ℕ → ℕ
peer m = cond (goes_home m.kind) m.sender m.receiver

-- DONE to a device, which answers Wblk, has a class of its own; DONE to a processor answers WB.
abbrev pub done_to_device : ℕ
done_to_device = 42

abbrev pub token : Message ℕ → ℕ
token m = cond (same_kind m.kind Done && is_device m.receiver) done_to_device (class_of m)

-- An entry on block b is of an operation on memory, on the block or on one of its words.
abbrev pub on : ℕ → Entry → Bool
on b e = eqb e.space 0 && eqb (cond (is_block e.operation) e.place (e.place / 4)) b

pub record Block : Type 0 where
  pub line : ℕ → Line
  pub out : ℕ → Option Kind
  pub clock : ℕ → ℕ
  pub home : Home ℕ
  pub messages : List (Message ℕ)
  pub trail : List Entry

module _ {A B : Type 0} where
  -- the request that a node has out for block b
  abbrev pub request_out : World A B → ℕ → ℕ → Option Kind
  request_out w b n =
      cond (ltb n 4) (out (processor_at w n).requests b)
      (cond (eqb n 4) (out w.first.requests b)
      (cond (eqb n 5) (out w.second.requests b) None))

  abbrev pub block : ℕ → World A B → Block
  block b w = record {
    line = λ q. line_at (processor_at w q).lines b;
    out = request_out w b;
    clock = λ q. (processor_at w q).clock.global;
    home = home_at w b;
    messages = filter (about b) w.messages;
    trail = filter (on b) w.trail;
  }

-- how many messages of class c to or from node q are among ms
abbrev pub hits : ℕ → ℕ → Message ℕ → Bool
hits c q m = eqb (token m) c && eqb (peer m) q

pub pending : List (Message ℕ) → ℕ → ℕ → ℕ
pending ms c q = count (hits c q) ms

-- How the block's messages change: those of `gone` go, those of `come` come.
pub record Posted (before gone come now : List (Message ℕ)) : Type 0 where
  pub counts : (f : Message ℕ → Bool) → count f now + count f gone ≡ count f before + count f come
  pub known : (m : Message ℕ) → Has now m → Has before m ⊎ Has come m
  pub waited : (m : Message ℕ) → Has gone m → Has before m

-- what holds of each holds of each that is had, and the other way round
pub all_from_has : {X : Type 0} (P : X → Type 0) (xs : List X) → ((x : X) → Has xs x → P x) → All P xs
all_from_has P xs each = All-weaker (Has xs) P each xs (all_has_itself xs)

-- What holds of all that waited and of all that come holds of all that wait now,
pub posted_all : (P : Message ℕ → Type 0) (before gone come now : List (Message ℕ)) → Posted before gone come now → All P before → All P come → All P now
posted_all P before gone come now post old new =
    all_from_has P now (λ m has. ⊎_elim (λ h. all-has P before m old h) (λ h. all-has P come m new h) (post.known m has))

-- and what holds of all that waited holds of those that go.
pub posted_gone : (P : Message ℕ → Type 0) (before gone come now : List (Message ℕ)) → Posted before gone come now → All P before → All P gone
posted_gone P before gone come now post old = all_from_has P gone (λ m has. all-has P before m old (post.waited m has))

-- The count of a class at a node, where one message goes and one comes, where one only goes, and where one only comes.
module _ (c q : ℕ) (before now : List (Message ℕ)) where
  pub pending_moved : (m a : Message ℕ) → Posted before (m ∷ []) (a ∷ []) now
      → pending now c q + indicator (eqb (token m) c && eqb (peer m) q) ≡ pending before c q + indicator (eqb (token a) c && eqb (peer a) q)
  unfolding pending
  pending_moved m a post =
      let one = λ (x : Message ℕ). count_cons (hits c q) x [] in
      omega (arith, post.counts (hits c q), one, count_none (hits c q))

  pub pending_gone : (m : Message ℕ) → Posted before (m ∷ []) [] now
      → pending now c q + indicator (eqb (token m) c && eqb (peer m) q) ≡ pending before c q
  unfolding pending
  pending_gone m post =
      let one = λ (x : Message ℕ). count_cons (hits c q) x [] in
      omega (arith, post.counts (hits c q), one, count_none (hits c q))

  pub pending_come : (a : Message ℕ) → Posted before [] (a ∷ []) now
      → pending now c q ≡ pending before c q + indicator (eqb (token a) c && eqb (peer a) q)
  unfolding pending
  pending_come a post =
      let one = λ (x : Message ℕ). count_cons (hits c q) x [] in
      omega (arith, post.counts (hits c q), one, count_none (hits c q))

-- what the count is, for lemmas elsewhere
pub pending_is : (ms : List (Message ℕ)) (c q : ℕ) → pending ms c q ≡ count (hits c q) ms
unfolding pending
pending_is ms c q = refl
