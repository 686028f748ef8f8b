-- What a call issues: an operation that its party may issue, and an LDio only while its slot is free.
use Rattle.std.proofs.Common.{◌≡◌, ℕ, ◌+◌, ◌<◌, ◌≤◌, true, false, eqb, Some, None, sym, refl, ap, ◌∙◌, subst, arith}
use Rattle.bridge.specs.Inputs as bridge
use Rattle.bridge.specs.declared.state.Bridge.{Bridge}
use Rattle.device.specs.Meaning.{Meaning}
use Rattle.device.specs.declared.meaning.Wish.{Wish}
use Rattle.message.specs.Nodes.{device_node}
use Rattle.message.specs.declared.reaction.Reaction.{Reaction}
use Rattle.ordering.specs.Operations.{is}
use Rattle.ordering.specs.declared.operation.Operation.TheVariants as operation
use Rattle.ordering.specs.declared.order.Access.{Access}
use Rattle.processor.specs.Inputs as processor
use Rattle.processor.specs.Slots.{slot_at}
use Rattle.processor.specs.declared.slot.Slot.TheVariants.{Free}
use Rattle.processor.specs.declared.state.Processor.{Processor}
use Rattle.std.proofs.lemmas.Bool.{and_parts, eqb-true, lt-ltb, both_ways}
use Rattle.std.proofs.lemmas.Bool.Decides.{nat_tests}
use Rattle.std.proofs.lemmas.Option.{same_Some}
use Rattle.coherence.proofs.Arising.{came}
use Rattle.coherence.proofs.Meeting.{Asks, Meets, at_call, at_first_wish, at_second_wish, to_processor, to_home, to_first, to_second}
use Rattle.coherence.proofs.Orderly.{processor_issues, device_issues, is_fitting}
use Rattle.coherence.specs.Histories.{Issued, issues, own, access, is_ldio, wish_access, wished}
use Rattle.coherence.specs.Steps.{Effect}
use Rattle.coherence.specs.Worlds.{World, processor_at}
use Rattle.coherence.specs.declared.call.Call.{Call}
use Rattle.coherence.specs.declared.call.Call.TheVariants.{Load, Store, LdIo, StIo, Act, Deliver}

wish_fits : {S : Type 0} (m : Meaning S) (b : Bridge S ℕ) (d ps : ℕ) (r : Reaction (Bridge S ℕ)) → bridge.reaction m d b (bridge.Act ps) ≡ Some r
    → (x : Wish) → m.wish b.device ≡ Some x → device_issues (device_node d) (wish_access d x) ≡ true
wish_fits m b d ps r h x wish = grind (arith, nat_tests)

takes_free_slot : (s : Processor ℕ) (n d k : ℕ) (r : Reaction (Processor ℕ)) → processor.reaction s n (processor.Ldio d k) ≡ Some r → slot_at s.slots d ≡ Free
takes_free_slot s n d k r h = grind (arith, nat_tests)

device_word : (d : ℕ) → d < 2 → processor_issues (access operation.LdIo (1 + d) 0) ≡ true
device_word d two = grind (arith, nat_tests)

no_slot : (n p d : ℕ) (x : Issued) → x.party ≡ n → 4 ≤ n → p < 4 → is_ldio p d x ≡ true → ⊥
no_slot n p d x by large small ldio = let q = eqb-true x.party p (and_parts (eqb x.party p) _ ldio).0 in omega arith

module _ {A B : Type 0} (ma : Meaning A) (mb : Meaning B) (w : World A B) where
  pub record IssuesWell (c : Call) : Type 0 where
    pub fits : (x : Issued) → issues ma mb c w ≡ Some x → is_fitting x ≡ true
    pub free : (x : Issued) → issues ma mb c w ≡ Some x → (p d : ℕ) → p < 4 → d < 2 → is_ldio p d x ≡ true → slot_at (processor_at w p).slots d ≡ Free

  -- nothing is issued
  nothing : (c : Call) → issues ma mb c w ≡ None → IssuesWell c
  nothing c none = grind (arith, nat_tests)

  -- a processor's own operation
  fits_own : (p : ℕ) → p < 4 → (a : Access) → processor_issues a ≡ true → is_fitting (own ma mb w p a) ≡ true
  fits_own p small a fits = rw (lt-ltb p 4 small) fits

  as_issued : (c : Call) (y : Issued) → issues ma mb c w ≡ Some y → is_fitting y ≡ true → ((p d : ℕ) → p < 4 → d < 2 → is_ldio p d y ≡ true → slot_at (processor_at w p).slots d ≡ Free) → IssuesWell c
  as_issued c y issue fits free = record {
    fits = λ x new. subst (λ (z : Issued). is_fitting z ≡ true) (same_Some y x (sym issue ∙ new)) fits;
    free = λ x new p d small two ldio. free p d small two (subst (λ (z : Issued). is_ldio p d z ≡ true) (sym (same_Some y x (sym issue ∙ new))) ldio);
  }

  no_ldio : (q : ℕ) (a : Access) → is operation.LdIo a.operation ≡ false → (p d : ℕ) → p < 4 → d < 2 → is_ldio p d (own ma mb w q a) ≡ true → slot_at (processor_at w p).slots d ≡ Free
  no_ldio q a other p d small two ldio =
      absurd (both_ways (is operation.LdIo a.operation) other (and_parts (is operation.LdIo a.operation) _ (and_parts (eqb q p) _ ldio).1).0)

  by_call : (c : Call) (p : ℕ) (i : processor.Input) (r : Reaction (Processor ℕ)) → p < 4 → Asks c p i → processor.reaction (processor_at w p) p i ≡ Some r → IssuesWell c
  by_call (Load q n) p i r small asks h = as_issued (Load q n) (own ma mb w q (access operation.Ld 0 n)) refl (fits_own q (omega (arith, asks.0)) (access operation.Ld 0 n) refl) (no_ldio q (access operation.Ld 0 n) refl)
  by_call (Store q n v) p i r small asks h = as_issued (Store q n v) (own ma mb w q (access operation.St 0 n)) refl (fits_own q (omega (arith, asks.0)) (access operation.St 0 n) refl) (no_ldio q (access operation.St 0 n) refl)
  by_call (LdIo q d n) p i r small asks h =
      as_issued (LdIo q d n) (own ma mb w q (access operation.LdIo (1 + d) n)) refl (fits_own q (omega (arith, asks.0)) (access operation.LdIo (1 + d) n) (device_word d asks.2))
      (λ o e low two ldio.
      let a = and_parts (eqb q o) _ ldio in
      let from = eqb-true q o a.0 in
      let to = eqb-true (1 + d) (1 + e) a.1 in
      let same : d ≡ e = omega arith in
      let free : slot_at (processor_at w p).slots d ≡ Free = takes_free_slot (processor_at w p) p d n r (subst (λ (j : processor.Input). processor.reaction (processor_at w p) p j ≡ Some r) asks.1 h) in
      subst (λ (k : ℕ). slot_at (processor_at w o).slots k ≡ Free) same (subst (λ (k : ℕ). slot_at (processor_at w k).slots d ≡ Free) (asks.0 ∙ from) free))
  by_call (StIo q d n v) p i r small asks h =
      as_issued (StIo q d n v) (own ma mb w q (access operation.StIo (1 + d) n)) refl (fits_own q (omega (arith, asks.0)) (access operation.StIo (1 + d) n) (device_word d asks.2)) (no_ldio q (access operation.StIo (1 + d) n) refl)
  by_call (Act d) p i r small asks h = nothing_asked asks
    where
      nothing_asked : ⊥ → IssuesWell (Act d)
      nothing_asked x = absurd x
  by_call c p i r small asks h = nothing c refl

  by_wish : {S : Type 0} (m : Meaning S) (b : Bridge S ℕ) (d : ℕ) (c : Call) (r : Reaction (Bridge S ℕ)) → issues ma mb c w ≡ wished ma mb d b.sequence (m.wish b.device)
      → ((x : Wish) → is_fitting (record { party = device_node d; sequence = b.sequence; access = wish_access d x }) ≡ device_issues (device_node d) (wish_access d x))
      → bridge.reaction m d b (bridge.Act w.count) ≡ Some r → IssuesWell c
  by_wish m b d c r issue device h = record {
    fits = λ x new.
        let k = came (λ (y : Wish). record { party = device_node d; sequence = b.sequence; access = wish_access d y }) (m.wish b.device) x (sym issue ∙ new) in
        subst (λ (z : Issued). is_fitting z ≡ true) (sym k.2) (device k.0 ∙ wish_fits m b d w.count r h k.0 k.1);
    free = λ x new p e small two ldio.
        let k = came (λ (y : Wish). record { party = device_node d; sequence = b.sequence; access = wish_access d y }) (m.wish b.device) x (sym issue ∙ new) in
        absurd (no_slot (device_node d) p e x (ap (λ (z : Issued). z.party) k.2) (omega arith) small ldio);
  }

  pub issues_well : w.count ≤ 4 → (c : Call) (e : Effect A B) → Meets ma mb w c e → IssuesWell c
  issues_well few c e (at_call p small i r asks own_call ok rest h same) = by_call c p i r (omega arith) asks h
  issues_well few c e (at_first_wish r act h same) = subst IssuesWell (sym act) (by_wish ma w.first 0 (Act 0) r refl (λ x. refl) h)
  issues_well few c e (at_second_wish r act h same) = subst IssuesWell (sym act) (by_wish mb w.second 1 (Act 1) r refl (λ x. refl) h)
  issues_well few c e (to_processor p small m r goes h same) = subst IssuesWell (sym goes.call) (nothing (Deliver goes.at) refl)
  issues_well few c e (to_home b small m r goes h same) = subst IssuesWell (sym goes.call) (nothing (Deliver goes.at) refl)
  issues_well few c e (to_first m r goes h same) = subst IssuesWell (sym goes.call) (nothing (Deliver goes.at) refl)
  issues_well few c e (to_second m r goes h same) = subst IssuesWell (sym goes.call) (nothing (Deliver goes.at) refl)
