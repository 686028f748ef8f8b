-- Tokens after a home gets TAKEN, when no reply is on its way any more.
use Rattle.std.proofs.lemmas.Bool.Decides.{nat_tests}
use Rattle.std.proofs.Common.{◌≡◌, ℕ, ◌+◌, ◌≤◌, Bool, true, false, ◌&&◌, eqb, List, sym, refl, ap, ◌∙◌, ⊎_elim, arith}
use Rattle.home.specs.Directories.{round_of}
use Rattle.home.specs.Laws.{has_replied}
use Rattle.home.specs.Reactions.{awaits_taken}
use Rattle.home.specs.declared.machine.Home.{Home}
use Rattle.message.specs.Kinds.{kind_number}
use Rattle.message.specs.declared.message.Message.{Message}
use Rattle.std.proofs.lemmas.Bool.{and_from, false≢true, both_ways, cases_lt, eq-eqb, eqb-true}
use Rattle.std.proofs.ByRecursion.{all-has}
use Rattle.std.specs.List.{ContainsAt as Has, AllByRecursion as All}
use Rattle.coherence.proofs.Blocks.{Block, all_from_has, hits, pending_is, peer, pending, token}
use Rattle.coherence.proofs.Carrying.{gathers}
use Rattle.coherence.proofs.Counting as tallied
use Rattle.coherence.proofs.Counting.{indicator, indicator_most, none_passes}
use Rattle.coherence.proofs.FormsKept.{nobody_has}
use Rattle.coherence.proofs.Moves.{Frees}
use Rattle.coherence.proofs.Shifts.{TimedReply, went}
use Rattle.coherence.proofs.Tokens.{Tokens, AskedFor, Gathered, Held, answering, awaited, exclusive, gathering, holder, is_reply, lowers, serving}

-- what waits is counted
pub has_counted : (ms : List (Message ℕ)) (m : Message ℕ) → Has ms m → 1 ≤ pending ms (token m) (peer m)
has_counted ms m is = ⊎_elim (λ some. some) (λ none. absurd (never (omega (arith, pending_is ms (token m) (peer m))))) (cases_lt 0 (pending ms (token m) (peer m)))
  where
    never : tallied.count (hits (token m) (peer m)) ms ≡ 0 → ⊥
    never none = both_ways (hits (token m) (peer m) m)
        (all-has (λ x. hits (token m) (peer m) x ≡ false) ms m (none_passes (hits (token m) (peer m)) ms none) is)
        (and_from _ _ (eq-eqb (token m) (token m) refl) (eq-eqb (peer m) (peer m) refl))

-- where no reply waits by class, none waits
pub no_reply : (h : Home ℕ) (ms : List (Message ℕ)) → ((c q : ℕ) → is_reply c ≡ true → pending ms c q ≡ 0) → All (TimedReply h) ms
no_reply h ms none = all_from_has (TimedReply h) ms (λ m is reply. absurd (omega (arith, has_counted ms m is, none (token m) (peer m) reply)))

-- a reply is of one of six classes
pub by_reply : (f : ℕ → ℕ) → f 13 + f 14 + f 15 + f 16 + f 17 + f 42 ≡ 0 → (c : ℕ) → is_reply c ≡ true → f c ≡ 0
by_reply f none c is = grind (arith, nat_tests)

-- a home that awaits TAKEN of n has replied to n
replying : (h : Home ℕ) (n : ℕ) → awaits_taken h.directory n ≡ true → (has_replied h ≡ true) × (gathers h ≡ false) × (eqb (round_of h.directory).request.requester n ≡ true)
replying h n is = grind arith

-- what a home serves, by whether it gathers, and whom it answers
pub serving_as : (h : Home ℕ) (g : Bool) → gathers h ≡ g → (q k : ℕ)
    → serving h k q ≡ indicator (g && (eqb (kind_number (round_of h.directory).request.kind) k && eqb (round_of h.directory).request.requester q))
serving_as h g is q k = ap (λ t. indicator (t && (eqb (kind_number (round_of h.directory).request.kind) k && eqb (round_of h.directory).request.requester q))) is

pub answering_as : (h : Home ℕ) (g : Bool) → has_replied h ≡ g → (q : ℕ) → answering h q ≡ indicator (g && eqb (round_of h.directory).request.requester q)
answering_as h g is q = ap (λ t. indicator (t && eqb (round_of h.directory).request.requester q)) is

module _ (b : ℕ) (x y : Block) (t : Tokens x) (n : ℕ) (m : Message ℕ) (g : Frees b x y n m) where
  served : (has_replied x.home ≡ true) × (gathers x.home ≡ false) × (eqb (round_of x.home.directory).request.requester n ≡ true)
  served = replying x.home n g.awaited

  idle_then : gathering x.home ≡ 0
  idle_then = ap indicator served.1

  module _ (q : ℕ) where
    serving_then : (k : ℕ) → serving x.home k q ≡ 0
    serving_then k = serving_as x.home false served.1 q k

    serving_now : (k : ℕ) → serving y.home k q ≡ 0
    serving_now k = ap (λ h. serving h k q) g.home

    answering_then : answering x.home q ≡ indicator (eqb n q)
    answering_then = answering_as x.home true served.0 q ∙ ap (λ r. indicator (eqb r q)) (eqb-true _ n served.2)

    count : (c : ℕ) → pending y.messages c q + indicator (eqb 20 c && eqb n q) ≡ pending x.messages c q
    count = went x.messages y.messages m 20 n g.class g.end g.messages q

    asked_freed : AskedFor (y.out q) y.home y.messages q
    asked_freed =
        let o = t.asked q in
        let answering_now : answering y.home q ≡ 0 = ap (λ h. answering h q) g.home in
        let first = count 20 in
        rw (g.outs q) (omega (arith, count, serving_then, serving_now, answering_then))

    gathered_freed : Gathered y.home y.messages q
    gathered_freed =
        let o = t.gathered q in
        let gathering_now : gathering y.home ≡ gathering x.home = ap gathering g.home ∙ sym (ap indicator served.1) in
        let holder_now : holder y.home q ≡ holder x.home q = ap (λ h. holder h q) g.home in
        let awaited_now : awaited y.home q ≡ 0 = ap (λ h. awaited h q) g.home ∙ ap indicator (nobody_has q) in
        let exclusive_now : exclusive y.home ≡ exclusive x.home = ap exclusive g.home in
        let lowers_now : lowers y.home ≡ 1 = ap lowers g.home in
        omega (arith, count, serving_then, serving_now, idle_then)

    held_freed : Held (y.line q) (y.out q) y.home y.messages q
    held_freed =
        let o = t.copies q in
        let a = t.gathered q in
        let holder_now : holder y.home q ≡ holder x.home q = ap (λ h. holder h q) g.home in
        let exclusive_now : exclusive y.home ≡ exclusive x.home = ap exclusive g.home in
        let lowers_now : lowers y.home ≡ 1 = ap lowers g.home in
        rw (g.lines q, g.outs q) (omega (arith, count, idle_then))

  pub freed : Tokens y
  freed = record {
    asked = asked_freed;
    gathered = gathered_freed;
    copies = held_freed;
    one = rw g.home t.one;
    some = rw g.home t.some;
    owner_asked = rw g.home (omega (arith, indicator_most x.home.directory.exclusive));
    holders_four = rw g.home t.holders_four;
    awaited_four = rw g.home refl;
    asks = rw g.home (λ is. absurd (false≢true is));
    clocks = no_reply y.home y.messages (λ c q. by_reply (λ c. pending y.messages c q) (none q) c);
  }
    where
      none : (q : ℕ) → pending y.messages 13 q + pending y.messages 14 q + pending y.messages 15 q + pending y.messages 16 q + pending y.messages 17 q + pending y.messages 42 q ≡ 0
      none q =
          let reply = (asked_freed q).reply in
          let answering_now : answering y.home q ≡ 0 = ap (λ h. answering h q) g.home in
          omega arith
