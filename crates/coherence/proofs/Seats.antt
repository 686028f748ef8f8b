-- Where operations are done: a processor's on memory at itself, those on a device's words at the device's node, an
-- interrupt at its processor, a block operation at the block's home. So entries of one device are in one node's order.
use Rattle.std.proofs.Common.{◌≡◌, ℕ, ◌+◌, true, false, cond, ◌||◌, Some, None, Option, sym, refl, ap, ◌∙◌, arith}
use Rattle.bridge.proofs.Clocks as bridge
use Rattle.bridge.proofs.Writing as bridge_writing
use Rattle.device.specs.Meaning.{Meaning, Laws}
use Rattle.home.specs.Reactions.{received}
use Rattle.ordering.specs.Operations.{is, is_block}
use Rattle.ordering.specs.Stamps.{below}
use Rattle.ordering.specs.declared.operation.Operation.{Operation}
use Rattle.ordering.specs.declared.operation.Operation.TheVariants.{LdIo, StIo, Int}
use Rattle.ordering.specs.declared.stamp.Stamp.{Stamp}
use Rattle.message.specs.declared.message.Message.{Message}
use Rattle.processor.specs.Inputs.{message_of}
use Rattle.processor.specs.Laws.{EachReaction}
use Rattle.processor.proofs.Stamping as processor
use Rattle.std.proofs.lemmas.Bool.{cond_both, both_ways}
use Rattle.std.proofs.lemmas.Bool.Decides.{nat_tests}
use Rattle.trail.specs.declared.entry.Entry.{Entry}
use Rattle.coherence.proofs.Arising.{Arises, at_processor, at_home, at_first, at_second}
use Rattle.coherence.proofs.Clocks.{Timely}
use Rattle.coherence.proofs.Dating.{Dated}
use Rattle.coherence.proofs.HomeClocks.{HomeTimely, home_timely}
use Rattle.coherence.proofs.Timing.{came_so}
use Rattle.coherence.specs.Steps.{Effect}
use Rattle.coherence.specs.Worlds.{World, processor_at, home_at}

abbrev pub seat : Entry → ℕ
seat e =
    cond (is LdIo e.operation || is StIo e.operation) (3 + e.space)
    (cond (is Int e.operation) e.place
    (cond (is_block e.operation) (16 + e.place) e.party))

abbrev pub Seated : Entry → Type 0
Seated e = e.stamp.node ≡ seat e

-- what a processor does
pub no_device_words : EachReaction (λ s n i r. (e : Entry) → r.entry ≡ Some e → (is LdIo e.operation || is StIo e.operation) ≡ false)
no_device_words s n i r h e k = grind (arith, nat_tests)

no_blocks : EachReaction (λ s n i r. (e : Entry) → r.entry ≡ Some e → is_block e.operation ≡ false)
no_blocks s n i r h e k = grind (arith, nat_tests)

interrupts : EachReaction (λ s n i r. (e : Entry) → r.entry ≡ Some e → is Int e.operation ≡ true → e.place ≡ n)
interrupts s n i r h e k o = grind (arith, nat_tests)

only_interrupts_come : EachReaction (λ s n i r. (e : Entry) → r.entry ≡ Some e → (m : Message ℕ) → message_of i ≡ Some m → is Int e.operation ≡ true)
only_interrupts_come s n i r h e k m o = grind (arith, nat_tests)

owns : EachReaction (λ s n i r. (e : Entry) → r.entry ≡ Some e → is Int e.operation ≡ false → e.party ≡ n)
owns s n i r h e k no_int = go (message_of i) refl
  where
    go : (o : Option (Message ℕ)) → message_of i ≡ o → e.party ≡ n
    go None call = ((processor.entries_are_stamped).own s n i r h e k call).0
    go (Some m) came = absurd (both_ways (is Int e.operation) no_int (only_interrupts_come s n i r h e k m came))

processor_seats : EachReaction (λ s n i r. (e : Entry) → r.entry ≡ Some e → Seated e)
processor_seats s n i r h e k =
    let at : e.stamp.node ≡ n = ap (λ (x : Stamp). x.node) ((processor.entries_are_stamped).stamps s n i r h e k) in
    rw (no_device_words s n i r h e k, no_blocks s n i r h e k)
    (cond_both (is Int e.operation) e.place e.party (λ (m : ℕ). e.stamp.node ≡ m)
    (λ o. at ∙ sym (interrupts s n i r h e k o)) (λ o. at ∙ sym (owns s n i r h e k o)))

-- an operation that is neither on a device's word nor an interrupt, at a home
pub block_seat : (o : Operation) → is_block o ≡ true → ((is LdIo o || is StIo o) ≡ false) × (is Int o ≡ false)
block_seat o h = (grind (arith, nat_tests), grind (arith, nat_tests))

module _ {A B : Type 0} (ma : Meaning A) (mb : Meaning B) (la : Laws ma) (lb : Laws mb) (w : World A B) where
  pub seats : (e : Effect A B) → Arises ma mb w e → (x : Entry) → e.entry ≡ Some x → Seated x
  seats e (at_processor p small i r h is) x k = processor_seats (processor_at w p) p i r h x (sym (ap (λ (y : Effect A B). y.entry) is) ∙ k)
  seats e (at_home b small m r h is) x k =
      let t = came_so (received (home_at w b) b m) (HomeTimely (home_at w b).clock b) r h (home_timely (home_at w b) b m) in
      let j : r.entry ≡ Some x = sym (ap (λ (y : Effect A B). y.entry) is) ∙ k in
      let n = t.enters x j in
      let o = block_seat x.operation n.block in
      let at : x.stamp.node ≡ 16 + b = ap (λ (y : Stamp). y.node) (t.stamps x j) in
      rw (o.0, o.1, n.block) (at ∙ ap (λ (m : ℕ). 16 + m) (sym n.place))
  seats e (at_first i r h is) x k =
      let j : r.entry ≡ Some x = sym (ap (λ (y : Effect A B). y.entry) is) ∙ k in
      let s = (bridge.entries_are_stamped ma).stamps w.first 0 i r h x j in
      let o = ((bridge_writing.only_stores_write ma la).places w.first 0 i r h x j).0 in
      let at : x.stamp.node ≡ 4 = ap (λ (y : Stamp). y.node) s.0 in
      rw o (let one : x.space ≡ 1 = s.1 in omega arith)
  seats e (at_second i r h is) x k =
      let j : r.entry ≡ Some x = sym (ap (λ (y : Effect A B). y.entry) is) ∙ k in
      let s = (bridge.entries_are_stamped mb).stamps w.second 1 i r h x j in
      let o = ((bridge_writing.only_stores_write mb lb).places w.second 1 i r h x j).0 in
      let at : x.stamp.node ≡ 5 = ap (λ (y : Stamp). y.node) s.0 in
      rw o (let two : x.space ≡ 2 = s.1 in omega arith)

module _ {A B : Type 0} (w : World A B) (e : Effect A B) (t : Timely w e) where
  -- what a node did before is below what it does now
  pub rises_at_node : (x : Entry) → e.entry ≡ Some x → (f : Entry) → Dated w f → f.stamp.node ≡ x.stamp.node → below f.stamp x.stamp ≡ true
  rises_at_node x is f past same = grind (arith, nat_tests)
