-- The part up to the first mark, by the place of that mark.
use Rattle.std.proofs.Common.{◌≡◌, ℕ, ◌+◌, ◌==◌, true, false, not, cond, List, [], ◌∷◌, length, take, Some, Option, refl, ap, arith, add-one}
use Rattle.std.proofs.Math.Numerals.{one-add}
use Rattle.std.proofs.lemmas.Bool.Decides.{nat_tests}
use Rattle.std.proofs.lemmas.List.Sums.{prefix_len-le-length}
use Rattle.std.specs.List.{position, position_or_len}
use Rattle.std.specs.Option.{unwrap_or}
use Rattle.text.specs.Parts.{before, after, left}

abbrev end : ℕ → List ℕ → ℕ
end c xs = position_or_len (λ x. x == c) xs

before_is : (c : ℕ) (xs : List ℕ) → take (end c xs) xs ≡ before c xs
before_is c [] = refl
before_is c (x ∷ xs) =
    elim (x == c) as (λ b. take (cond (not b) (1 + end c xs) 0) (x ∷ xs) ≡ cond b [] (x ∷ before c xs)) [
      | true ↦ refl
      | false ↦ rw (one-add (end c xs)) (ap (λ (l : List ℕ). x ∷ l) (before_is c xs))
    ]

-- one place further on in one more element
left-cons : (x : ℕ) (xs : List ℕ) (n : ℕ) → left (x ∷ xs) (n + 1) ≡ left xs n
left-cons x xs n = rw add-one (grind (arith, nat_tests))

after_is : (c : ℕ) (xs : List ℕ) → left xs (end c xs + 1) ≡ after c xs
after_is c [] = grind (arith, nat_tests)
after_is c (x ∷ xs) =
    let l = left-cons x xs in
    elim (x == c) as (λ b. left (x ∷ xs) (cond (not b) (1 + end c xs) 0 + 1) ≡ cond b (Some xs) (after c xs)) [
      | true ↦ grind (arith, nat_tests)
      | false ↦ rw (l (1 + end c xs), one-add (end c xs), ← add-one (end c xs)) (after_is c xs)
    ]

module _ (c : ℕ) (xs : List ℕ) (o : Option ℕ) (e : ℕ) (found : o ≡ position (λ x. x == c) xs) (reached : e ≡ unwrap_or o (length xs)) where
  end_is : e ≡ end c xs
  end_is = let h = prefix_len-le-length (λ x. not (x == c)) xs in grind (arith, nat_tests)

  pub part_is : take e xs ≡ before c xs
  part_is = rw end_is (before_is c xs)

  pub rest_is : left xs (e + 1) ≡ after c xs
  rest_is = rw end_is (after_is c xs)
