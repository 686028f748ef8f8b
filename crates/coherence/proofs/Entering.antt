-- The entry that an effect adds: on memory it is above all that conflicts with it and has the current words, and so it is in a
-- device's space; so in trail order stamps rise between conflicting entries, and reads are current.
use Rattle.std.proofs.Common.{◌≡◌, ℕ, ◌/◌, ◌<◌, true, false, eqb, Some, None, sym, refl, ap, ◌∙◌, subst, arith}
use Rattle.bridge.proofs.Clocks as bridge
use Rattle.bridge.specs.Inputs as bridge_input
use Rattle.device.specs.Meaning.{Meaning}
use Rattle.home.specs.Reactions.{received}
use Rattle.message.specs.declared.message.Message.{Message}
use Rattle.message.specs.declared.reaction.Reaction.{Reaction}
use Rattle.ordering.specs.Operations.{is, is_block}
use Rattle.ordering.specs.Stamps.{below}
use Rattle.ordering.specs.declared.stamp.Stamp.{Stamp}
use Rattle.processor.specs.Inputs as processor
use Rattle.processor.specs.Laws.{EachReaction}
use Rattle.std.proofs.lemmas.Bool.{and_from, eq-eqb}
use Rattle.std.proofs.lemmas.Bool.Decides.{nat_tests}
use Rattle.trail.specs.Addresses.{covers}
use Rattle.trail.specs.declared.address.Address.{Address}
use Rattle.trail.specs.declared.entry.Entry.{Entry}
use Rattle.coherence.proofs.Blocks.{on}
use Rattle.coherence.proofs.HomeClocks.{HomeTimely, home_timely}
use Rattle.coherence.proofs.Meeting.{Asks, Meets, at_call, at_first_wish, at_second_wish, to_processor, to_home, to_first, to_second}
use Rattle.coherence.proofs.Timing.{came_so}
use Rattle.coherence.specs.Steps.{Effect}
use Rattle.coherence.specs.Worlds.{World, home_at, processor_at}
use Rattle.coherence.specs.declared.call.Call.{Call}
use Rattle.coherence.specs.declared.call.Call.TheVariants as call

-- by the global number alone
pub below_by_global : (s t : Stamp) → s.global < t.global → below s t ≡ true
below_by_global s t up = grind (arith, nat_tests)

-- the block of an address that an entry on the block covers
pub covered_block : (b : ℕ) (e : Entry) (a : Address) → on b e ≡ true → covers e a ≡ true → (a.space ≡ 0) × (a.word / 4 ≡ b)
covered_block b e a here cover = grind (arith, nat_tests)

-- A processor's own operation is on the word that the call names.
abbrev Small : processor.Input → Type 0
Small (processor.Load n) = n < 64
Small (processor.Store n v) = n < 64
Small _ = Unit {0}

own_word : (s : _) (n : ℕ) (i : processor.Input) (r : Reaction _) → processor.reaction s n i ≡ Some r → (e : Entry) → r.entry ≡ Some e → Small i → processor.message_of i ≡ None
    → (e.place < 64) × (is_block e.operation ≡ false)
own_word s n i r h e k small own = (grind (arith, nat_tests), grind (arith, nat_tests))

asked_small : (c : Call) (p : ℕ) (i : processor.Input) → Asks c p i → Small i
asked_small (call.Load q n) p i asks = subst Small (sym asks.1) asks.2
asked_small (call.Store q n v) p i asks = subst Small (sym asks.1) asks.2
asked_small (call.Request q b k) p i asks = subst Small (sym asks.3) tt
asked_small (call.Act d) p i asks = absurd asks
asked_small (call.Deliver n) p i asks = absurd asks
asked_small _ p i asks = subst Small (sym asks.1) tt

interrupts_only : EachReaction (λ s n i r. (m : Message ℕ) → processor.message_of i ≡ Some m → (e : Entry) → r.entry ≡ Some e → e.space ≡ 3)
interrupts_only s n i r h m is e k = grind (arith, nat_tests)

module _ {A B : Type 0} (ma : Meaning A) (mb : Meaning B) (w : World A B) where
  -- What is done on memory is on one of the sixteen blocks.
  pub on_memory : (c : Call) (e : Effect A B) → Meets ma mb w c e → (x : Entry) → e.entry ≡ Some x → x.space ≡ 0 → (b : ℕ) × (b < 16) × (on b x ≡ true)
  on_memory c e (at_call p small i r asks own ok rest h is) x k memory =
      let z = own_word (processor_at w p) p i r h x (sym (ap (λ (y : Effect A B). y.entry) is) ∙ k) (asked_small c p i asks) own in
      let low = z.0 in
      (x.place / 4, omega arith, and_from (eqb x.space 0) _ (eq-eqb x.space 0 memory) (rw z.1 (eq-eqb (x.place / 4) (x.place / 4) refl)))
  on_memory c e (at_first_wish r act h is) x k memory =
      absurd (let s : x.space ≡ 1 = ((bridge.entries_are_stamped ma).stamps w.first 0 (bridge_input.Act w.count) r h x (sym (ap (λ (y : Effect A B). y.entry) is) ∙ k)).1 in omega arith)
  on_memory c e (at_second_wish r act h is) x k memory =
      absurd (let s : x.space ≡ 2 = ((bridge.entries_are_stamped mb).stamps w.second 1 (bridge_input.Act w.count) r h x (sym (ap (λ (y : Effect A B). y.entry) is) ∙ k)).1 in omega arith)
  on_memory c e (to_processor p small m r way h is) x k memory =
      absurd (let s = interrupts_only (processor_at w p) p (processor.Receive m) r h m refl x (sym (ap (λ (y : Effect A B). y.entry) is) ∙ k) in omega arith)
  on_memory c e (to_home b small m r way h is) x k memory =
      let t = came_so (received (home_at w b) b m) (HomeTimely (home_at w b).clock b) r h (home_timely (home_at w b) b m) in
      let own = t.enters x (sym (ap (λ (y : Effect A B). y.entry) is) ∙ k) in
      (b, small, and_from (eqb x.space 0) _ (eq-eqb x.space 0 memory) (rw own.block (eq-eqb x.place b own.place)))
  on_memory c e (to_first m r way h is) x k memory =
      absurd (let s : x.space ≡ 1 = ((bridge.entries_are_stamped ma).stamps w.first 0 (bridge_input.Receive m) r h x (sym (ap (λ (y : Effect A B). y.entry) is) ∙ k)).1 in omega arith)
  on_memory c e (to_second m r way h is) x k memory =
      absurd (let s : x.space ≡ 2 = ((bridge.entries_are_stamped mb).stamps w.second 1 (bridge_input.Receive m) r h x (sym (ap (λ (y : Effect A B). y.entry) is) ∙ k)).1 in omega arith)
