-- Where operations go: loads, stores and block operations to memory, LDio and STio to a device's words, INT to processors.
-- And every entry of a run is done at its seat.
use Rattle.std.proofs.Common.{◌≡◌, ℕ, Bool, true, false, cond, ◌||◌, eqb, ◌⊎◌, [], ◌++◌, Some, None, Option, sym, refl, ap, ◌∙◌, arith}
use Rattle.bridge.proofs.Clocks as bridge
use Rattle.bridge.proofs.Writing as bridge_writing
use Rattle.device.specs.Meaning.{Meaning, Laws}
use Rattle.home.specs.Reactions.{received}
use Rattle.ordering.specs.Operations.{is, is_write}
use Rattle.ordering.specs.declared.operation.Operation.{Operation}
use Rattle.ordering.specs.declared.operation.Operation.TheVariants.{LdIo, StIo, Int}
use Rattle.processor.specs.Laws.{EachReaction}
use Rattle.std.proofs.ByRecursion.{All-append, All-push}
use Rattle.std.proofs.lemmas.Bool.{cond_both, eq-eqb, or_left, or_right}
use Rattle.std.proofs.lemmas.Bool.Decides.{nat_tests}
use Rattle.std.specs.Option.{option_to_list}
use Rattle.std.specs.List.{AllByRecursion as All}
use Rattle.trail.specs.declared.entry.Entry.{Entry}
use Rattle.coherence.proofs.Arising.{Arises, at_processor, at_home, at_first, at_second}
use Rattle.coherence.proofs.HomeClocks.{HomeTimely, home_timely}
use Rattle.coherence.proofs.Seats.{Seated, block_seat, no_device_words, seats}
use Rattle.coherence.proofs.Timing.{came_so}
use Rattle.coherence.specs.Steps.{Effect}
use Rattle.coherence.specs.Worlds.{World, processor_at, home_at}

abbrev pub goes_where : Operation → ℕ → Bool
goes_where o s = cond (is LdIo o || is StIo o) (eqb s 1 || eqb s 2) (cond (is Int o) (eqb s 3) (eqb s 0))

abbrev pub Spaced : Entry → Type 0
Spaced e = goes_where e.operation e.space ≡ true

-- done at its seat, in its space
pub record Placed (e : Entry) : Type 0 where
  pub seated : Seated e
  pub spaced : Spaced e

interrupts : EachReaction (λ s n i r. (e : Entry) → r.entry ≡ Some e → is Int e.operation ≡ true → e.space ≡ 3)
interrupts s n i r h e k o = grind (arith, nat_tests)

others : EachReaction (λ s n i r. (e : Entry) → r.entry ≡ Some e → is Int e.operation ≡ false → e.space ≡ 0)
others s n i r h e k o = grind (arith, nat_tests)

processor_spaced : EachReaction (λ s n i r. (e : Entry) → r.entry ≡ Some e → Spaced e)
processor_spaced s n i r h e k =
    rw (no_device_words s n i r h e k)
    (cond_both (is Int e.operation) (eqb e.space 3) (eqb e.space 0) (λ (t : Bool). t ≡ true)
    (λ o. eq-eqb e.space 3 (interrupts s n i r h e k o)) (λ o. eq-eqb e.space 0 (others s n i r h e k o)))

module _ {A B : Type 0} (ma : Meaning A) (mb : Meaning B) (la : Laws ma) (lb : Laws mb) (w : World A B) where
  spaces : (e : Effect A B) → Arises ma mb w e → (x : Entry) → e.entry ≡ Some x → Spaced x
  spaces e (at_processor p small i r h is) x k = processor_spaced (processor_at w p) p i r h x (sym (ap (λ (y : Effect A B). y.entry) is) ∙ k)
  spaces e (at_home b small m r h is) x k =
      let t = came_so (received (home_at w b) b m) (HomeTimely (home_at w b).clock b) r h (home_timely (home_at w b) b m) in
      let j : r.entry ≡ Some x = sym (ap (λ (y : Effect A B). y.entry) is) ∙ k in
      let n = t.enters x j in
      let o = block_seat x.operation n.block in
      rw (o.0, o.1) (eq-eqb x.space 0 n.space)
  spaces e (at_first i r h is) x k =
      let j : r.entry ≡ Some x = sym (ap (λ (y : Effect A B). y.entry) is) ∙ k in
      let s = (bridge.entries_are_stamped ma).stamps w.first 0 i r h x j in
      rw ((bridge_writing.only_stores_write ma la).places w.first 0 i r h x j).0 (or_left (eqb x.space 1) _ (eq-eqb x.space 1 s.1))
  spaces e (at_second i r h is) x k =
      let j : r.entry ≡ Some x = sym (ap (λ (y : Effect A B). y.entry) is) ∙ k in
      let s = (bridge.entries_are_stamped mb).stamps w.second 1 i r h x j in
      rw ((bridge_writing.only_stores_write mb lb).places w.second 1 i r h x j).0 (or_right (eqb x.space 1) (eqb x.space 2) (eq-eqb x.space 2 s.1))

  pub placed : (e : Effect A B) → Arises ma mb w e → (x : Entry) → e.entry ≡ Some x → Placed x
  placed e a x k = record { seated = seats ma mb la lb w e a x k; spaced = spaces e a x k }

  pub placed_kept : (e : Effect A B) → Arises ma mb w e → All Placed w.trail → All Placed (w.trail ++ option_to_list e.entry)
  placed_kept e a all = go e.entry refl
    where
      go : (o : Option Entry) → e.entry ≡ o → All Placed (w.trail ++ option_to_list o)
      go None is = All-append Placed w.trail [] all tt
      go (Some x) is = All-push Placed w.trail x all (placed e a x is)

-- Two entries of one space, one of them a write, are both on memory or both done at one device's node.
pub same_space : (e f : Entry) → Placed e → Placed f → e.space ≡ f.space → (is_write e.operation || is_write f.operation) ≡ true
    → ((e.space ≡ 0) × (f.space ≡ 0)) ⊎ (e.stamp.node ≡ f.stamp.node)
same_space e f p q same write = grind (arith, nat_tests)
