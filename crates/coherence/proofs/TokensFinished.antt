-- Tokens after a home that has heard all does what it was asked for and replies.
use Rattle.std.proofs.lemmas.Bool.Decides.{nat_tests}
use Rattle.std.proofs.Common.{◌≡◌, ℕ, ◌+◌, ◌<◌, ◌≤◌, Bool, true, false, cond, ◌&&◌, ◌||◌, eqb, List, [], ◌∷◌, length, None, Option, refl, ap, ◌∙◌, ⊎_elim, arith, length-set}
use Rattle.home.specs.Directories.{round_of}
use Rattle.home.specs.Laws.{has_replied}
use Rattle.home.specs.Reactions.{reply}
use Rattle.home.specs.Sets.{has, with_member}
use Rattle.home.specs.declared.machine.Home.{Home}
use Rattle.home.specs.Sets.{Processors}
use Rattle.home.specs.declared.request.Request.{Request}
use Rattle.message.specs.Kinds.{kind_number, is_request}
use Rattle.message.specs.Nodes.{is_device}
use Rattle.message.specs.declared.kind.Kind.{Kind}
use Rattle.message.specs.declared.message.Message.{Message}
use Rattle.ordering.specs.declared.operation.Words.{Words}
use Rattle.processor.specs.declared.line.Line.{Line}
use Rattle.std.proofs.lemmas.Bool.{cases_lt, eq-eqb, false≢true}
use Rattle.coherence.proofs.Blocks.{Block, peer, pending, posted_all, token}
use Rattle.coherence.proofs.Carrying.{gathers}
use Rattle.coherence.proofs.Counting.{indicator, indicator_most}
use Rattle.coherence.proofs.Moves.{Finishes}
use Rattle.coherence.proofs.FormsKept.{nobody_has}
use Rattle.coherence.proofs.Phases.{unreplied}
use Rattle.coherence.proofs.Shifts.{TimedReply, came, each}
use Rattle.coherence.proofs.Sole.{copies_add, empty_has, none_exclusive}
use Rattle.coherence.proofs.Tokens.{Tokens, AskedFor, Gathered, Held, answering, awaited, exclusive, gathering, holder, lowers, out_is, serving}
use Rattle.coherence.proofs.TokensFreed.{answering_as, by_reply, no_reply, serving_as}
use Rattle.coherence.proofs.TokensHeard.{member_here, member_there}
use Rattle.coherence.proofs.TokensRequests.{by_request}

-- What is replied, and what the requester gets, by the number of the request's kind.
abbrev reply_number : ℕ → ℕ
reply_number n = cond (eqb n 1) 13 (cond (eqb n 2) 14 (cond (eqb n 3) 15 (cond (eqb n 4) 16 (cond (eqb n 5) 17 42))))

abbrev lowering : ℕ → Bool
lowering n = eqb n 1 || eqb n 5

abbrev owning : ℕ → Bool
owning n = eqb n 2 || eqb n 3

abbrev copying : ℕ → Bool
copying n = eqb n 1 || owning n

reply_token : (b : ℕ) (r : Request) (w : Words) (c : ℕ) → is_request r.kind ≡ true
    → (kind_number r.kind ≡ 4 → r.requester < 4) → (kind_number r.kind ≡ 6 → is_device r.requester ≡ true)
    → (token (reply b r w c) ≡ reply_number (kind_number r.kind)) × (peer (reply b r w c) ≡ r.requester)
reply_token b r w c is small device = grind arith

-- the holders with the requester p among them, if it gets a copy
given : (c : Bool) (s : Processors) (p : ℕ) → (c ≡ true → p < 4) → length s.at ≡ 4 → (q : ℕ)
    → (indicator (c && eqb p q) ≤ indicator (has (cond c (with_member s p true) s) q))
    × (indicator (has s q) ≤ indicator (has (cond c (with_member s p true) s) q))
    × (indicator (has (cond c (with_member s p true) s) q) ≤ indicator (has s q) + indicator (c && eqb p q))
given false s p small four q = omega (arith, indicator_most)
given true s p small four q = each p (λ q. (indicator (eqb p q) ≤ indicator (has (with_member s p true) q))
    × (indicator (has s q) ≤ indicator (has (with_member s p true) q))
    × (indicator (has (with_member s p true) q) ≤ indicator (has s q) + indicator (eqb p q)))
    (let here = ap indicator (member_here s p true (small refl) four) in let self = ap indicator (eq-eqb p p refl) in omega (arith, indicator_most))
    (λ q apart. let there = ap indicator (member_there s p true q apart) in let none = ap indicator apart in omega (arith, indicator_most))
    q

given_four : (c : Bool) (s : Processors) (p : ℕ) → length s.at ≡ 4 → length (cond c (with_member s p true) s).at ≡ 4
given_four true s p four = length-set s.at p true ∙ four
given_four false s p four = four

not_both : (p r q : ℕ) → (r ≡ q → ⊥) → indicator (eqb p r) + indicator (eqb p q) ≤ 1
not_both p r q apart = grind arith

-- No node but a processor or a device has a request out.
abbrev pub Near : Block → Type 0
Near x = (q : ℕ) → 6 ≤ q → x.out q ≡ None

-- Who is served, by the number n of the request's kind: processor or device.
abbrev Side : ℕ → ℕ → Option Kind → Home ℕ → List (Message ℕ) → Type 0
Side p n o h ms =
    ((k : ℕ) → serving h k p ≡ indicator (eqb n k && eqb p p)) → indicator (eqb p p) ≡ 1 → AskedFor o h ms p → (6 ≤ p → out_is o 6 ≡ 0)
    → (4 ≤ p → 5 ≤ n) × (p < 4 → n ≤ 4) × (6 ≤ p → n ≤ 5)

sides : (p : ℕ) (o : Option Kind) (h : Home ℕ) (ms : List (Message ℕ)) (k : Kind) → is_request k ≡ true → Side p (kind_number k) o h ms
sides p o h ms = grind (arith, nat_tests)

-- What a node's records come to.
module _ (l : Line) (o : Option Kind) (h h' : Home ℕ) (before now : List (Message ℕ)) (p q : ℕ) where
  pub record Finish (n : ℕ) : Type 0 where
    pub counts : (c : ℕ) → pending now c q ≡ pending before c q + indicator (eqb (reply_number n) c && eqb p q)
    pub serving_then : (k : ℕ) → serving h k q ≡ indicator (eqb n k && eqb p q)
    pub serving_now : (k : ℕ) → serving h' k q ≡ 0
    pub answering_then : answering h q ≡ 0
    pub answering_now : answering h' q ≡ indicator (eqb p q)
    pub gathering_then : gathering h ≡ 1
    pub gathering_now : gathering h' ≡ 0
    pub awaited_then : awaited h q ≡ 0
    pub awaited_now : awaited h' q ≡ 0
    pub lowers_then : lowers h ≡ indicator (lowering n)
    pub lowers_now : lowers h' ≡ indicator (lowering n)
    pub exclusive_then : exclusive h ≡ 0
    pub exclusive_now : exclusive h' ≡ cond (owning n) 1 0
    pub given : indicator (copying n && eqb p q) ≤ holder h' q
    pub kept : holder h q ≤ holder h' q
    pub most : holder h' q ≤ holder h q + indicator (copying n && eqb p q)

  finished_asked : (k : Kind) → is_request k ≡ true → Finish (kind_number k) → AskedFor o h before q → AskedFor o h' now q
  finished_asked = by_request (λ n. Finish n → AskedFor o h before q → AskedFor o h' now q)
      (λ f a. omega (arith, f.counts, f.serving_then, f.serving_now, indicator_most))
      (λ f a. omega (arith, f.counts, f.serving_then, f.serving_now, indicator_most))
      (λ f a. omega (arith, f.counts, f.serving_then, f.serving_now, indicator_most))
      (λ f a. omega (arith, f.counts, f.serving_then, f.serving_now, indicator_most))
      (λ f a. omega (arith, f.counts, f.serving_then, f.serving_now, indicator_most))
      (λ f a. omega (arith, f.counts, f.serving_then, f.serving_now, indicator_most))

  finished_gathered : (k : Kind) → is_request k ≡ true → Finish (kind_number k) → Gathered h before q → Gathered h' now q
  finished_gathered = by_request (λ n. Finish n → Gathered h before q → Gathered h' now q)
      (λ f g. omega (arith, f.counts, f.serving_then, f.serving_now, indicator_most))
      (λ f g. omega (arith, f.counts, f.serving_then, f.serving_now, indicator_most))
      (λ f g. omega (arith, f.counts, f.serving_then, f.serving_now, indicator_most))
      (λ f g. omega (arith, f.counts, f.serving_then, f.serving_now, indicator_most))
      (λ f g. omega (arith, f.counts, f.serving_then, f.serving_now, indicator_most))
      (λ f g. omega (arith, f.counts, f.serving_then, f.serving_now, indicator_most))

  finished_held : (k : Kind) → is_request k ≡ true → Finish (kind_number k) → AskedFor o h before q → Gathered h before q → Held l o h before q → Held l o h' now q
  finished_held = by_request (λ n. Finish n → AskedFor o h before q → Gathered h before q → Held l o h before q → Held l o h' now q)
      (λ f a g k. let reply = a.reply in omega (arith, f.counts, f.serving_then, indicator_most, copies_add l))
      (λ f a g k. let reply = a.reply in omega (arith, f.counts, f.serving_then, indicator_most, copies_add l))
      (λ f a g k. let reply = a.reply in omega (arith, f.counts, f.serving_then, indicator_most, copies_add l))
      (λ f a g k. let reply = a.reply in omega (arith, f.counts, f.serving_then, indicator_most, copies_add l))
      (λ f a g k. let reply = a.reply in omega (arith, f.counts, f.serving_then, indicator_most, copies_add l))
      (λ f a g k. let reply = a.reply in omega (arith, f.counts, f.serving_then, indicator_most, copies_add l))

copied : (n : ℕ) → copying n ≡ true → n ≤ 4
copied n is = grind arith

owned_now : (d e : Bool) → indicator e ≡ 0 → indicator (cond d true e) ≡ cond d 1 0
owned_now true e none = refl
owned_now false e none = none

device_at : (p : ℕ) → 4 ≤ p → p < 6 → is_device p ≡ true
device_at p least most = grind arith

-- The holders after all: with an owner, it is the only one.
some_holder : (x : ℕ) (h : ℕ → ℕ) (p : ℕ) (k : Kind) → is_request k ≡ true → x ≡ cond (owning (kind_number k)) 1 0
    → ((q : ℕ) → indicator (copying (kind_number k) && eqb p q) ≤ h q) → (kind_number k ≤ 4 → p < 4) → x ≤ h 0 + h 1 + h 2 + h 3
some_holder x h p = grind (arith, nat_tests)

module _ (h h' : Home ℕ) (p q r : ℕ) where
  abbrev Lone : ℕ → Type 0
  Lone n =
      exclusive h' ≡ cond (owning n) 1 0 → lowers h ≡ indicator (lowering n)
      → ((k s : ℕ) → serving h k s ≡ indicator (eqb n k && eqb p s))
      → ((s : ℕ) → holder h s ≤ lowers h + serving h 3 s)
      → ((s : ℕ) → holder h' s ≤ holder h s + indicator (copying n && eqb p s))
      → indicator (eqb p q) + indicator (eqb p r) ≤ 1
      → exclusive h' + holder h' q + holder h' r ≤ 2

  one_holder : (k : Kind) → is_request k ≡ true → Lone (kind_number k)
  one_holder = grind (arith, nat_tests)

module _ (b : ℕ) (x y : Block) (t : Tokens x) (near : Near x) (g : Finishes b x y) where
  abbrev request : Request
  request = (round_of x.home.directory).request

  abbrev p : ℕ
  p = request.requester

  abbrev n : ℕ
  n = kind_number request.kind

  phase : (gathers x.home ≡ true) × (has_replied x.home ≡ false)
  phase = (g.gathering, unreplied x.home g.gathering)

  serving_then : (q k : ℕ) → serving x.home k q ≡ indicator (eqb n k && eqb p q)
  serving_then q k = serving_as x.home true phase.0 q k

  gathering_then : gathering x.home ≡ 1
  gathering_then = ap indicator phase.0

  side : (4 ≤ p → 5 ≤ n) × (p < 4 → n ≤ 4) × (6 ≤ p → n ≤ 5)
  side = sides p (x.out p) x.home x.messages request.kind g.request (serving_then p) (ap indicator (eq-eqb p p refl)) (t.asked p)
      (λ far. ap (λ o. out_is o 6) (near p far))

  small : n ≤ 4 → p < 4
  small low = ⊎_elim (λ is. is) (λ far. absurd (omega (arith, side.0 far))) (cases_lt p 4)

  device : n ≡ 6 → is_device p ≡ true
  device is = ⊎_elim (λ near. absurd (omega (arith, side.1 near)))
      (λ far. ⊎_elim (device_at p far) (λ past. absurd (omega (arith, side.2 past))) (cases_lt p 6)) (cases_lt p 4)

  abbrev back : Message ℕ
  back = reply b request y.home.words y.home.clock.global

  told : (token back ≡ reply_number n) × (peer back ≡ p)
  told = reply_token b request y.home.words y.home.clock.global g.request (λ is. small (omega arith)) device

  none_awaited : (q : ℕ) → awaited x.home q ≡ 0
  none_awaited q = ap indicator (empty_has (round_of x.home.directory).awaited t.awaited_four g.heard q)

  none_owned : exclusive x.home ≡ 0
  none_owned = none_exclusive x t g.heard gathering_then

  exclusive_now : exclusive y.home ≡ cond (owning n) 1 0
  exclusive_now = ap exclusive g.home ∙ owned_now (owning n) x.home.directory.exclusive none_owned

  holders_now : (q : ℕ) → (indicator (copying n && eqb p q) ≤ holder y.home q) × (holder x.home q ≤ holder y.home q)
      × (holder y.home q ≤ holder x.home q + indicator (copying n && eqb p q))
  holders_now q =
      let now = ap (λ h. holder h q) g.home in
      let facts = given (copying n) x.home.directory.holders p copies t.holders_four q in
      omega arith
    where
      copies : copying n ≡ true → p < 4
      copies is = small (copied n is)

  finish : (q : ℕ) → Finish (x.line q) (x.out q) x.home y.home x.messages y.messages p q n
  finish q = record {
    counts = came x.messages y.messages back (reply_number n) p told.0 told.1 g.messages q;
    serving_then = serving_then q;
    serving_now = λ k. ap (λ h. serving h k q) g.home;
    answering_then = answering_as x.home false phase.1 q;
    answering_now = ap (λ h. answering h q) g.home;
    gathering_then = gathering_then;
    gathering_now = ap gathering g.home;
    awaited_then = none_awaited q;
    awaited_now = ap (λ h. awaited h q) g.home ∙ ap indicator (nobody_has q);
    lowers_then = refl;
    lowers_now = ap lowers g.home;
    exclusive_then = none_owned;
    exclusive_now = exclusive_now;
    given = (holders_now q).0;
    kept = (holders_now q).1;
    most = (holders_now q).2;
  }

  -- no reply waited
  none_replied : (q : ℕ) → pending x.messages 13 q + pending x.messages 14 q + pending x.messages 15 q + pending x.messages 16 q + pending x.messages 17 q + pending x.messages 42 q ≡ 0
  none_replied q =
      let reply = (t.asked q).reply in
      let none = answering_as x.home false phase.1 q in
      omega arith

  all_asked : (q : ℕ) → holder x.home q ≤ lowers x.home + serving x.home 3 q
  all_asked q =
      let all = (t.gathered q).all_asked in
      let then = gathering_then in
      let none = none_awaited q in
      omega arith

  pub finished_tokens : Tokens y
  finished_tokens = record {
    asked = λ q. rw (g.outs q) (finished_asked (x.line q) (x.out q) x.home y.home x.messages y.messages p q request.kind g.request (finish q) (t.asked q));
    gathered = λ q. finished_gathered (x.line q) (x.out q) x.home y.home x.messages y.messages p q request.kind g.request (finish q) (t.gathered q);
    copies = λ q. rw (g.lines q, g.outs q)
        (finished_held (x.line q) (x.out q) x.home y.home x.messages y.messages p q request.kind g.request (finish q) (t.asked q) (t.gathered q) (t.copies q));
    one = λ q r apart. one_holder x.home y.home p q r request.kind g.request exclusive_now refl (λ k s. serving_then s k) all_asked
        (λ s. (holders_now s).2) (not_both p q r apart);
    some = some_holder (exclusive y.home) (holder y.home) p request.kind g.request exclusive_now (λ q. (holders_now q).0) small;
    owner_asked = rw g.home (omega (arith, indicator_most));
    holders_four = rw g.home (given_four (copying n) x.home.directory.holders p t.holders_four);
    awaited_four = rw g.home refl;
    asks = rw g.home (λ is. absurd (false≢true is));
    clocks = posted_all (TimedReply y.home) x.messages [] (back ∷ []) y.messages g.messages
        (no_reply y.home x.messages (λ c q. by_reply (λ c. pending x.messages c q) (none_replied q) c))
        ((λ _. refl), tt);
  }
