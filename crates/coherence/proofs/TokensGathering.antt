-- Tokens after a free home takes a request and asks its holders, or has nobody to ask.
use Rattle.std.proofs.Common.{◌≡◌, ℕ, ◌+◌, ◌<◌, ◌≤◌, Bool, true, false, cond, ◌&&◌, eqb, ◌⊎◌, [], ◌∷◌, length, sym, refl, ap, ◌∙◌, inl, inr, arith}
use Rattle.home.specs.Directories.{view}
use Rattle.home.specs.Laws.{has_replied}
use Rattle.home.specs.Reactions.{asks}
use Rattle.home.specs.Requests.{asks_by, asks_down}
use Rattle.home.specs.Sets.{nobody, has, is_empty}
use Rattle.home.specs.declared.directory.Directory.{Directory}
use Rattle.home.specs.declared.directory.Phase.TheVariants.{Free}
use Rattle.home.specs.declared.machine.Home.{Home}
use Rattle.home.specs.Sets.{Processors}
use Rattle.message.specs.Kinds.{kind_number, is_request}
use Rattle.message.specs.Reactions.{sent}
use Rattle.message.specs.declared.kind.Kind.{Kind}
use Rattle.message.specs.declared.kind.Kind.TheVariants as kind
use Rattle.message.specs.declared.message.Message.{Message}
use Rattle.std.proofs.lemmas.Bool.{leb-true, ne_eqb}
use Rattle.std.specs.List.{AllByRecursion as All}
use Rattle.coherence.proofs.Blocks.{Block, hits, pending, pending_is, posted_all}
use Rattle.coherence.proofs.Carrying.{gathers}
use Rattle.coherence.proofs.Counting.{indicator, indicator_most, count, count_none, count_cons}
use Rattle.coherence.proofs.Moves.{AsksHolders}
use Rattle.coherence.proofs.FormsKept.{nobody_has}
use Rattle.coherence.proofs.Phases.{idle}
use Rattle.coherence.proofs.Plans.{AskedOf, Seen, asked_of, asked_four}
use Rattle.coherence.proofs.Shifts.{TimedReply}
use Rattle.coherence.proofs.Sole.{empty_has}
use Rattle.coherence.proofs.TokensFreed.{answering_as, serving_as}
use Rattle.coherence.proofs.Tally.{asks_all}
use Rattle.coherence.proofs.Tokens.{Tokens, AskedFor, Gathered, Held, answering, awaited, exclusive, gathering, holder, lowers, serving}

-- How many come of what is asked: INV (10) or DOWN (11) to each of the set.
asked_count : (d : Bool) (b : ℕ) (s : Processors) → length s.at ≡ 4 → (c q : ℕ)
    → count (hits c q) (sent (asks (cond d kind.Down kind.Inv) b s)) ≡ indicator (eqb (cond d 11 10) c && has s q)
asked_count true b s four c q = asks_all kind.Down b s (hits c q) (eqb 11 c) q (λ p. refl) four
asked_count false b s four c q = asks_all kind.Inv b s (hits c q) (eqb 10 c) q (λ p. refl) four

-- none of it is a reply
asked_silent : (h : Home ℕ) (d : Bool) (b : ℕ) (s : Processors) → All (TimedReply h) (sent (asks (cond d kind.Down kind.Inv) b s))
asked_silent h true b s = grind arith
asked_silent h false b s = grind arith

seen : (d : Directory) (q : ℕ) → d.phase ≡ Free → length d.holders.at ≡ 4
    → indicator d.exclusive ≤ indicator (has d.holders 0) + indicator (has d.holders 1) + indicator (has d.holders 2) + indicator (has d.holders 3)
    → Seen (view d) d.holders d.exclusive q
seen d q free four some = grind (arith, empty_has d.holders four)

question : (d : Bool) → (10 ≤ cond d 11 10) × (cond d 11 10 ≤ 11)
question true = omega arith
question false = omega arith

-- DOWN or INV, and not both
by_question : (d e : Bool) → (indicator (eqb (cond d 11 10) 10 && e) + indicator (eqb (cond d 11 10) 11 && e) ≡ indicator e)
    × (indicator (eqb (cond d 11 10) 10 && e) + indicator d ≤ 1) × (indicator (eqb (cond d 11 10) 11 && e) ≤ indicator d)
by_question true e = omega (arith, indicator_most)
by_question false e = omega (arith, indicator_most)

-- a request's number is none past 6
past : (k : Kind) → is_request k ≡ true → (c : ℕ) (e : Bool) → 6 < c → indicator (eqb (kind_number k) c && e) ≡ 0
past k is c e far = ap (λ t. indicator (t && e)) (ne_eqb (kind_number k) c (λ same. omega (arith, leb-true (kind_number k) 6 is)))

module _ (b : ℕ) (x y : Block) (t : Tokens x) (m : Message ℕ) (planned asked : Processors) (g : AsksHolders b x y m planned asked) where
  abbrev down : Bool
  down = asks_down m.kind

  planned_four : length planned.at ≡ 4
  planned_four = asked_four m.kind (view x.home.directory) x.home.directory.holders planned m.sender g.planned t.holders_four

  same_set : (asked ≡ planned) ⊎ ((asked ≡ nobody) × (is_empty planned ≡ true)) → (length asked.at ≡ 4) × ((q : ℕ) → has asked q ≡ has planned q)
  same_set (inl same) = (ap (λ s. length s.at) same ∙ planned_four, λ q. ap (λ s. has s q) same)
  same_set (inr none) = (
    ap (λ s. length s.at) none.0,
    λ q. ap (λ s. has s q) none.0 ∙ nobody_has q ∙ sym (empty_has planned planned_four none.1 q),
  )

  asked_is_four : length asked.at ≡ 4
  asked_is_four = (same_set g.asked).0

  free : (gathers x.home ≡ false) × (has_replied x.home ≡ false)
  free = idle x.home g.free

  module _ (q : ℕ) where
    facts : AskedOf m.kind x.home.directory.holders asked x.home.directory.exclusive m.sender q
    facts =
        let same = ap indicator ((same_set g.asked).1 q) in
        let of = asked_of m.kind (view x.home.directory) x.home.directory.holders planned x.home.directory.exclusive m.sender q g.planned
        (seen x.home.directory q g.free t.holders_four t.some) in
        omega arith

    counts : (c : ℕ) → pending y.messages c q + indicator (eqb (kind_number m.kind) c && eqb m.sender q)
        ≡ pending x.messages c q + indicator (eqb (cond down 11 10) c && has asked q)
    counts c =
        let one = count_cons (hits c q) m [] in
        let known : indicator (hits c q m) ≡ indicator (eqb (kind_number m.kind) c && eqb m.sender q) = rw (g.class, g.end) refl in
        omega (arith, g.messages.counts (hits c q), count_none (hits c q), pending_is x.messages c q, pending_is y.messages c q, asked_count down b asked asked_is_four c q)

    serving_then : (k : ℕ) → serving x.home k q ≡ 0
    serving_then k = serving_as x.home false free.0 q k

    answering_then : answering x.home q ≡ 0
    answering_then = answering_as x.home false free.1 q

    gathering_then : gathering x.home ≡ 0
    gathering_then = ap indicator free.0

    serving_now : (k : ℕ) → serving y.home k q ≡ indicator (eqb (kind_number m.kind) k && eqb m.sender q)
    serving_now k = ap (λ h. serving h k q) g.home

    awaited_now : awaited y.home q ≡ indicator (has asked q)
    awaited_now = ap (λ h. awaited h q) g.home

    holder_now : holder y.home q ≡ holder x.home q
    holder_now = ap (λ h. holder h q) g.home

    exclusive_now : exclusive y.home ≡ exclusive x.home
    exclusive_now = ap exclusive g.home

    lowers_now : lowers y.home ≡ indicator down
    lowers_now = ap lowers g.home

    -- the request goes, questions come to those asked, and the rest stays
    other : (c : ℕ) → (cond down 11 10 ≡ c → ⊥) → indicator (eqb (cond down 11 10) c && has asked q) ≡ 0
    other c apart = ap (λ e. indicator (e && has asked q)) (ne_eqb (cond down 11 10) c apart)

    falls : (c : ℕ) → c < 10 → pending y.messages c q + indicator (eqb (kind_number m.kind) c && eqb m.sender q) ≡ pending x.messages c q
    falls c near = let none = other c (λ same. omega (arith, question down)) in omega (arith, counts c)

    stays : (c : ℕ) → 11 < c → pending y.messages c q ≡ pending x.messages c q
    stays c far =
        let none = past m.kind g.request c (eqb m.sender q) (omega arith) in
        let unasked = other c (λ same. omega (arith, question down)) in
        omega (arith, counts c)

    come : (pending y.messages 10 q ≡ pending x.messages 10 q + indicator (eqb (cond down 11 10) 10 && has asked q))
        × (pending y.messages 11 q ≡ pending x.messages 11 q + indicator (eqb (cond down 11 10) 11 && has asked q))
    come =
        let tenth = past m.kind g.request 10 (eqb m.sender q) (omega arith) in
        let eleventh = past m.kind g.request 11 (eqb m.sender q) (omega arith) in
        omega (arith, counts 10, counts 11)

    asked_gathering : AskedFor (y.out q) y.home y.messages q
    asked_gathering =
        let o = t.asked q in
        let then = answering_then in
        let now : answering y.home q ≡ 0 = ap (λ h. answering h q) g.home in
        rw (g.outs q) (omega (arith, falls, stays, serving_now, serving_then))

    gathered_gathering : Gathered y.home y.messages q
    gathered_gathering =
        let o = t.gathered q in
        let f = facts in
        let then = gathering_then in
        let now : gathering y.home ≡ 1 = ap gathering g.home in
        let await = awaited_now in
        let holder = holder_now in
        let exclusive = exclusive_now in
        let low = lowers_now in
        let acks = stays 12 (omega arith) in
        let marked = stays 41 (omega arith) in
        let asked_by : (indicator (eqb (cond down 11 10) 10 && has asked q) + indicator (eqb (cond down 11 10) 11 && has asked q) ≡ indicator (has asked q))
        × (indicator (eqb (cond down 11 10) 10 && has asked q) + indicator down ≤ 1)
        × (indicator (eqb (cond down 11 10) 11 && has asked q) ≤ indicator down) = by_question down (has asked q) in
        omega (arith, come, serving_now, indicator_most)

    held_gathering : Held (y.line q) (y.out q) y.home y.messages q
    held_gathering =
        let o = t.copies q in
        let w = (t.gathered q).waits in
        let v = (t.gathered q).busy in
        let then = gathering_then in
        let holder = holder_now in
        let exclusive = exclusive_now in
        let low = lowers_now in
        rw (g.lines q, g.outs q) (omega (arith, stays, indicator_most))

  pub gathering_tokens : Tokens y
  gathering_tokens =
      let zeroth = (facts 0).owner_asked in
      let first = (facts 1).owner_asked in
      let second = (facts 2).owner_asked in
      let third = (facts 3).owner_asked in
      let await = awaited_now in
      let same = exclusive_now 0 in
      let most = indicator_most x.home.directory.exclusive in
      let some = t.some in
      record {
        asked = asked_gathering;
        gathered = gathered_gathering;
        copies = held_gathering;
        one = rw g.home t.one;
        some = rw g.home t.some;
        owner_asked = rw g.home (omega arith);
        holders_four = rw g.home t.holders_four;
        awaited_four = rw g.home asked_is_four;
        asks = rw g.home (λ _. g.request);
        clocks = rw g.home (posted_all (TimedReply x.home) x.messages (m ∷ []) (sent (asks (asks_by m.kind) b asked)) y.messages g.messages t.clocks
            (asked_silent x.home down b asked));
      }
