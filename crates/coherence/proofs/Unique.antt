-- What follows from the balance of numbered operations: no two entries have one party and number.
use Rattle.std.proofs.Common.{◌≡◌, ℕ, zero, suc, ◌≤◌, Bool, true, eqb, ltb, List, [], ◌∷◌, Some, sym, refl, ap, arith}
use Rattle.std.proofs.lemmas.Bool.{and_from, eq-eqb}
use Rattle.std.proofs.lemmas.Option.{none-some, same_Some}
use Rattle.std.specs.List.{slice_get}
use Rattle.trail.specs.declared.entry.Entry.{Entry}
use Rattle.coherence.proofs.Carrying.{Balanced, done_as, next_number}
use Rattle.coherence.proofs.Counting.{indicator, count, count_cons, count_nth, indicator_most}
use Rattle.coherence.specs.Worlds.{World}

module _ {X : Type 0} (p : X → Bool) where
  -- where at most one passes, two places that pass are one
  pub only_place : (xs : List X) → count p xs ≤ 1 → (i j : ℕ) (x y : X) → slice_get xs i ≡ Some x → slice_get xs j ≡ Some y → p x ≡ true → p y ≡ true → i ≡ j
  only_place [] most i j x y at there one two = absurd (none-some x at)
  only_place (z ∷ xs) most zero zero x y at there one two = refl
  only_place (z ∷ xs) most zero (suc j) x y at there one two =
      let here = ap (λ u. indicator (p u)) (same_Some z x at) in
      let first = ap indicator one in
      let later = count_nth p xs j y there in
      let second = ap indicator two in
      absurd (omega (arith, count_cons p z xs))
  only_place (z ∷ xs) most (suc i) zero x y at there one two =
      let here = ap (λ u. indicator (p u)) (same_Some z y there) in
      let first = ap indicator two in
      let later = count_nth p xs i x at in
      let second = ap indicator one in
      absurd (omega (arith, count_cons p z xs))
  only_place (z ∷ xs) most (suc i) (suc j) x y at there one two =
      ap suc (only_place xs (omega (arith, count_cons p z xs)) i j x y at there one two)

numbered_as : (e : Entry) → done_as e.party e.sequence e ≡ true
numbered_as e = and_from (eqb e.party e.party) (eqb e.sequence e.sequence) (eq-eqb e.party e.party refl) (eq-eqb e.sequence e.sequence refl)

module _ {A B : Type 0} (w : World A B) (balanced : Balanced w) where
  pub unique_numbers : (i j : ℕ) (e f : Entry) → slice_get w.trail i ≡ Some e → slice_get w.trail j ≡ Some f → e.party ≡ f.party → e.sequence ≡ f.sequence → i ≡ j
  unique_numbers i j e f at there party sequence =
      let whole = balanced e.party e.sequence in
      let most = indicator_most (ltb e.sequence (next_number w e.party)) in
      only_place (done_as e.party e.sequence) w.trail (omega arith) i j e f at there (numbered_as e)
      (and_from _ _ (eq-eqb f.party e.party (sym party)) (eq-eqb f.sequence e.sequence (sym sequence)))
