-- What each reaction of a home does to the balance of numbered operations: a block request goes back, is done at once or
-- is served while the home gathers; and what is served is done when the last is heard.
use Rattle.std.proofs.Common.{◌≡◌, ℕ, ◌+◌, Bool, true, false, ◌&&◌, eqb, ltb, IfSome, Some, None, Option, refl, ap, subst, arith}
use Rattle.home.specs.Directories.{round_of, awaits, view}
use Rattle.home.specs.Plans.{plan}
use Rattle.home.specs.Reactions.{asked, acknowledged, after_hearing, awaits_taken, began, clock_after, entry_for, finished, heard_home, nack, planned, received, refused, reply, taken, words_after}
use Rattle.home.specs.Requests.{request_of}
use Rattle.home.specs.Sets.{is_empty}
use Rattle.home.specs.declared.machine.Home.{Home}
use Rattle.home.specs.declared.plan.Plan.{Plan}
use Rattle.home.specs.declared.plan.Plan.TheVariants.{Refuse, Ask}
use Rattle.home.specs.Sets.{Processors}
use Rattle.home.specs.declared.request.Request.{Request}
use Rattle.message.specs.Kinds.{is_request, same_kind}
use Rattle.message.specs.Reactions.{sent, quiet}
use Rattle.message.specs.declared.kind.Kind.{Kind}
use Rattle.message.specs.declared.kind.Kind.TheVariants.{Ack, Taken}
use Rattle.message.specs.declared.message.Message.{Message}
use Rattle.message.specs.declared.reaction.Reaction.{Reaction}
use Rattle.ordering.specs.declared.clock.Clock.{Clock}
use Rattle.ordering.specs.declared.operation.Words.{Words}
use Rattle.std.proofs.lemmas.Bool.{cond_both}
use Rattle.std.proofs.lemmas.Bool.Decides.{nat_tests}
use Rattle.coherence.proofs.Carrying.{carries, done_as, gathers, is_block_request, serves}
use Rattle.coherence.proofs.Counting.{indicator, count, count_none}
use Rattle.coherence.proofs.FormsKept.{PlanGood, plan_good}
use Rattle.coherence.proofs.Phases.{gathers_no_more, gathers_so}
use Rattle.coherence.proofs.Posting.{hit, NoQuestion, NoReply, count_one, questions_uncounted}

-- A request is refused or taken, and taken by a home that gathers for nobody.
busy_asks_nobody : (h : Home ℕ) (k : Kind) (p : ℕ) (s : Processors) → plan k (view h.directory) h.directory.holders p ≡ Some (Ask s) → gathers h ≡ false
busy_asks_nobody h k p s is = grind (arith, nat_tests)

pub by_request : (P : Reaction (Home ℕ) → Type 0) (h : Home ℕ) (b : ℕ) (m : Message ℕ)
    → (same_kind m.kind Ack ≡ true → IfSome (acknowledged h b m) P)
    → (same_kind m.kind Taken ≡ true → IfSome (taken h m.sender) P)
    → (is_request m.kind ≡ true → P (refused h b (request_of m)))
    → (is_request m.kind ≡ true → gathers h ≡ false → (s : Processors) → P (asked h b (request_of m) s))
    → IfSome (received h b m) P
by_request P h b m acks takes refuses asks =
    cond_both (ltb b 16) _ None Q
    (λ _. cond_both (same_kind m.kind Ack) _ _ Q acks
    (λ _. cond_both (same_kind m.kind Taken) _ _ Q takes (λ _. go (plan m.kind (view h.directory) h.directory.holders m.sender) refl)))
    (λ _. tt)
  where
    Q : Option (Reaction (Home ℕ)) → Type 0
    Q o = IfSome o P

    go : (x : Option Plan) → plan m.kind (view h.directory) h.directory.holders m.sender ≡ x → IfSome (planned h b (request_of m) x) P
    go None e = tt
    go (Some Refuse) e = refuses (subst (PlanGood m.kind h.directory.holders) e (plan_good m.kind (view h.directory) h.directory.holders m.sender))
    go (Some (Ask s)) e =
        asks (subst (PlanGood m.kind h.directory.holders) e (plan_good m.kind (view h.directory) h.directory.holders m.sender)).0
        (busy_asks_nobody h m.kind m.sender s e) s

module _ (n q b : ℕ) where
  -- what a request carries
  abbrev pub asks_as : Request → Bool
  asks_as r = is_block_request r.kind && (eqb r.requester n && eqb r.sequence q)

  abbrev Counts : Home ℕ → Message ℕ → Reaction (Home ℕ) → Type 0
  Counts h m r =
      hit (done_as n q) r.entry + (count (carries n q) (sent r.sent) + indicator (serves n q r.next))
      ≡ indicator (carries n q m) + indicator (serves n q h)

  pub no_question : NoQuestion (carries n q) b
  no_question k p = grind (arith, nat_tests)

  pub no_reply : NoReply (carries n q) b
  no_reply r w c = grind (arith, nat_tests)

  done_for : (r : Request) (w : Words) (c : Clock ℕ) → hit (done_as n q) (entry_for b r w c) ≡ indicator (asks_as r)
  done_for r w c = grind (arith, nat_tests)

  pub carried_back : (r : Request) → carries n q (nack b r) ≡ asks_as r
  carried_back r = grind (arith, nat_tests)

  pub carried_as : (m : Message ℕ) → is_request m.kind ≡ true → carries n q m ≡ asks_as (request_of m)
  carried_as m is = grind (arith, nat_tests)

  ack_carries : (m : Message ℕ) → same_kind m.kind Ack ≡ true → carries n q m ≡ false
  ack_carries m is = grind (arith, nat_tests)

  taken_carries : (m : Message ℕ) → same_kind m.kind Taken ≡ true → carries n q m ≡ false
  taken_carries m is = grind (arith, nat_tests)

  finished_number : (k : Home ℕ)
      → hit (done_as n q) (finished k b).entry + (count (carries n q) (sent (finished k b).sent) + indicator (serves n q (finished k b).next)) ≡ indicator (asks_as (round_of k.directory).request)
  finished_number k =
      let r = (round_of k.directory).request in
      let done = done_for r (words_after k.words r) (clock_after k.clock (round_of k.directory)) in
      let one = count_one (carries n q) b (reply b r (words_after k.words r) (clock_after k.clock (round_of k.directory)).global) in
      let none = ap indicator (no_reply r (words_after k.words r) (clock_after k.clock (round_of k.directory)).global) in
      omega arith

  pub serves_as : (h : Home ℕ) → gathers h ≡ true → serves n q h ≡ asks_as (round_of h.directory).request
  serves_as h is = rw is refl

  serves_none : (h : Home ℕ) → gathers h ≡ false → serves n q h ≡ false
  serves_none h is = rw is refl

  ack_number : (h : Home ℕ) (m : Message ℕ) → same_kind m.kind Ack ≡ true → IfSome (acknowledged h b m) (Counts h m)
  ack_number h m is =
      let k = heard_home h m in
      let none = ap indicator (ack_carries m is) in
      cond_both (awaits h.directory m.sender) (Some (after_hearing k b)) None (λ (o : Option (Reaction (Home ℕ))). IfSome o (Counts h m))
      (λ waits.
      let served = ap indicator (serves_as h (gathers_so h m.sender waits)) in
      cond_both (is_empty (round_of k.directory).awaited) (finished k b) (quiet k) (Counts h m)
      (λ _. let last = finished_number k in omega arith)
      (λ _. let still = ap indicator (serves_as k refl) in let nothing = count_none (carries n q) in omega arith))
      (λ _. tt)

  taken_number : (h : Home ℕ) (m : Message ℕ) → same_kind m.kind Taken ≡ true → IfSome (taken h m.sender) (Counts h m)
  taken_number h m is =
      cond_both (awaits_taken h.directory m.sender) _ None (λ (o : Option (Reaction (Home ℕ))). IfSome o (Counts h m))
      (λ waits.
      let none = ap indicator (taken_carries m is) in
      let nothing = count_none (carries n q) in
      let idle = ap indicator (serves_none h (gathers_no_more h m.sender waits)) in
      omega arith)
      (λ _. tt)

  refused_number : (h : Home ℕ) (m : Message ℕ) → is_request m.kind ≡ true → Counts h m (refused h b (request_of m))
  refused_number h m is =
      let one = count_one (carries n q) b (nack b (request_of m)) in
      let back = ap indicator (carried_back (request_of m)) in
      let came = ap indicator (carried_as m is) in
      omega arith

  asked_number : (h : Home ℕ) (m : Message ℕ) → is_request m.kind ≡ true → gathers h ≡ false → (s : Processors) → Counts h m (asked h b (request_of m) s)
  asked_number h m is idle s =
      let came = ap indicator (carried_as m is) in
      let none = ap indicator (serves_none h idle) in
      cond_both (is_empty s) (finished (began h (request_of m)) b) _ (Counts h m)
      (λ _. let done = finished_number (began h (request_of m)) in omega arith)
      (λ _. let nothing = questions_uncounted (carries n q) b no_question m.kind s in omega arith)

  pub home_number : (h : Home ℕ) (m : Message ℕ) → IfSome (received h b m) (Counts h m)
  home_number h m = by_request (Counts h m) h b m (ack_number h m) (taken_number h m) (refused_number h m) (asked_number h m)
