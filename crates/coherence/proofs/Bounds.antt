-- Bounds of one block: where each entry on it stands to the clocks of the home, of those who hold a copy, and of the
-- acknowledgements on their way. So whoever may operate now has a clock above all that conflicts.
use Rattle.std.proofs.lemmas.Bool.Decides.{nat_tests}
use Rattle.std.proofs.Common.{◌≡◌, ℕ, ◌+◌, ◌<◌, ◌≤◌, max, Bool, true, false, ◌||◌, eqb, List, [], sym, ◌∙◌, subst, arith, ap}
use Rattle.home.specs.Directories.{round_of}
use Rattle.home.specs.declared.machine.Home.{Home}
use Rattle.message.specs.declared.message.Message.{Message}
use Rattle.ordering.specs.Operations.{is_write}
use Rattle.processor.specs.declared.line.Line.{Line}
use Rattle.std.proofs.ByRecursion.{All-weaker}
use Rattle.std.proofs.lemmas.Bool.{and_left, both_ways, or_parts}
use Rattle.std.specs.List.{AllByRecursion as All}
use Rattle.trail.specs.declared.entry.Entry.{Entry}
use Rattle.coherence.proofs.Blocks.{Block, Posted, hits, peer, pending, pending_is, posted_all, token}
use Rattle.coherence.proofs.Counting.{count, none_counted}
use Rattle.coherence.proofs.Tokens.{held, owned, shared}
use Rattle.coherence.proofs.TokensKept.{Alike}

-- The greatest number that the home knows of.
abbrev pub bound : Home ℕ → ℕ
bound h = max h.clock.global (round_of h.directory).latest

abbrev pub is_ack : Message ℕ → Bool
is_ack m = eqb (token m) 12 || eqb (token m) 41

-- An acknowledgement is above every write of its sender, and where the sender has no copy now above all that it did.
pub record Above (l : Line) (e : Entry) (m : Message ℕ) : Type 0 where
  pub writes : is_write e.operation ≡ true → e.stamp.global < m.clock
  pub all : held l ≡ 0 → e.stamp.global < m.clock

abbrev pub Acknowledged : (ℕ → Line) → Entry → Message ℕ → Type 0
Acknowledged line e m = is_ack m ≡ true → e.stamp.node ≡ peer m → Above (line (peer m)) e m

pub record Bounded (line : ℕ → Line) (clock : ℕ → ℕ) (h : Home ℕ) (ms : List (Message ℕ)) (e : Entry) : Type 0 where
  pub known : held (line e.stamp.node) + (pending ms 12 e.stamp.node + pending ms 41 e.stamp.node) ≡ 0 → e.stamp.global ≤ bound h
  pub written : is_write e.operation ≡ true → owned (line e.stamp.node) + pending ms 41 e.stamp.node ≡ 0 → e.stamp.global ≤ bound h
  pub owner : (q : ℕ) → owned (line q) ≡ 1 → (e.stamp.node ≡ q → ⊥) → e.stamp.global < clock q
  pub sharer : (q : ℕ) → shared (line q) ≡ 1 → is_write e.operation ≡ true → e.stamp.global < clock q
  pub past : e.stamp.node < 4 → e.stamp.global ≤ clock e.stamp.node
  pub acknowledged : All (Acknowledged line e) ms

abbrev pub Bounds : Block → Type 0
Bounds x = All (Bounded x.line x.clock x.home x.messages) x.trail

-- The new entry e is above every entry that may conflict with it and is another node's.
abbrev pub Fresh : List Entry → Entry → Type 0
Fresh trail e = All (λ f. (is_write f.operation || is_write e.operation) ≡ true → (f.stamp.node ≡ e.stamp.node → ⊥) → f.stamp.global < e.stamp.global) trail

-- No acknowledgement among these.
abbrev pub NoAcks : List (Message ℕ) → Type 0
NoAcks ms = All (λ m. is_ack m ≡ false) ms

none_of : (ms : List (Message ℕ)) (q : ℕ) → NoAcks ms → (count (hits 12 q) ms ≡ 0) × (count (hits 41 q) ms ≡ 0)
none_of ms q none = (
  none_counted (hits 12 q) ms (All-weaker (λ m. is_ack m ≡ false) (λ m. hits 12 q m ≡ false) (λ m h. and_left (eqb (token m) 12) (eqb (peer m) q) (or_parts (eqb (token m) 12) (eqb (token m) 41) h).0) ms none),
  none_counted (hits 41 q) ms (All-weaker (λ m. is_ack m ≡ false) (λ m. hits 41 q m ≡ false) (λ m h. and_left (eqb (token m) 41) (eqb (peer m) q) (or_parts (eqb (token m) 12) (eqb (token m) 41) h).1) ms none),
)

posted_none : (ms : List (Message ℕ)) → Posted ms [] [] ms
posted_none ms = grind (arith, nat_tests)

-- the same messages, as what is posted
pub posted_same : (ms ns : List (Message ℕ)) → ns ≡ ms → Posted ms [] [] ns
posted_same ms ns same = subst (Posted ms [] []) (sym same) (posted_none ms)

pub same_bound : {h k : Home ℕ} → k ≡ h → bound h ≤ bound k
same_bound same = let e = ap bound same in omega arith

-- Where no acknowledgement goes or comes, there are as many as before.
pub unmoved : (before now gone come : List (Message ℕ)) → Posted before gone come now → NoAcks gone → NoAcks come → (q : ℕ)
    → (pending now 12 q ≡ pending before 12 q) × (pending now 41 q ≡ pending before 41 q)
unmoved before now gone come post out new q =
    let g = none_of gone q out in
    let c = none_of come q new in
    let one = post.counts (hits 12 q) in
    let two = post.counts (hits 41 q) in
    let plain : count (hits 12 q) now ≡ count (hits 12 q) before = omega (arith, g.0, c.0) in
    let marked : count (hits 41 q) now ≡ count (hits 41 q) before = omega (arith, g.1, c.1) in
    (pending_is now 12 q ∙ plain ∙ sym (pending_is before 12 q), pending_is now 41 q ∙ marked ∙ sym (pending_is before 41 q))

-- Where no acknowledgement goes or comes, no line gets better or worse, and clocks and bound only go on, the bounds of an entry stay.
module _ (x y : Block) (gone come : List (Message ℕ)) (lines : (q : ℕ) → Alike (y.line q) (x.line q)) (clocks : (q : ℕ) → x.clock q ≤ y.clock q)
    (up : bound x.home ≤ bound y.home) (post : Posted x.messages gone come y.messages) (out : NoAcks gone) (new : NoAcks come) where
  pub bounded_on : (e : Entry) → Bounded x.line x.clock x.home x.messages e → Bounded y.line y.clock y.home y.messages e
  bounded_on e bounds =
      let n = e.stamp.node in
      let c = unmoved x.messages y.messages gone come post out new n in
      let l = lines n in
      record {
        known = λ none. let old = bounds.known (omega (arith, c.0, c.1, l.held)) in omega arith;
        written = λ w none. let old = bounds.written w (omega (arith, c.1, l.owned)) in omega arith;
        owner = λ q is apart. let old = bounds.owner q (sym (lines q).owned ∙ is) apart in let on = clocks q in omega arith;
        sharer = λ q is w. let old = bounds.sharer q (sym (lines q).shared ∙ is) w in let on = clocks q in omega arith;
        past = λ low. let old = bounds.past low in let on = clocks n in omega arith;
        acknowledged = posted_all (Acknowledged y.line e) x.messages gone come y.messages post
            (All-weaker (Acknowledged x.line e) (Acknowledged y.line e)
            (λ m old ack from. let a = old ack from in record { writes = a.writes; all = λ none. a.all (sym (lines (peer m)).held ∙ none) }) x.messages bounds.acknowledged)
            (All-weaker (λ m. is_ack m ≡ false) (Acknowledged y.line e) (λ m no_ack ack from. absurd (both_ways (is_ack m) no_ack ack)) come new);
      }

  pub bounds_on : y.trail ≡ x.trail → Bounds x → Bounds y
  bounds_on same bounds = subst (All (Bounded y.line y.clock y.home y.messages)) (sym same) (All-weaker _ _ bounded_on x.trail bounds)
