-- How many elements of a list pass a test.
use Rattle.std.proofs.Common.{◌≡◌, ℕ, ◌+◌, ◌<◌, ◌≤◌, add-one, Bool, true, false, List, [], ◌∷◌, ◌++◌, length, get_or, set, take, drop, Some, refl, ap, arith}
use Rattle.list.specs.Contents.{removed}
use Rattle.std.proofs.ByRecursion.{All-append, All-take, All-drop}
use Rattle.std.proofs.lemmas.List.Sums.{sum_by-cons, sum_by-append, sum_by_push, sum_by-set, sum_by-remove, get_or-le-sum_by}
use Rattle.std.proofs.lemmas.Option.{get_or_from_slice_get, slice_get_within}
use Rattle.std.specs.List.{AllByRecursion as All, slice_get, sum_by}

-- a test as a number
abbrev pub indicator : Bool → ℕ
indicator true = 1
indicator false = 0

pub indicator_most : (b : Bool) → indicator b ≤ 1
indicator_most true = omega arith
indicator_most false = omega arith

pub sure : (b : Bool) → 1 ≤ indicator b → b ≡ true
sure true one = refl
sure false one = absurd (omega arith)

pub not_sure : (b : Bool) → indicator b ≡ 0 → b ≡ false
not_sure true none = absurd (omega arith)
not_sure false none = refl

module _ {X : Type 0} where
  -- What holds of each element holds of each that is left once place i is taken out.
  pub all_removed : (P : X → Type 0) (xs : List X) (i : ℕ) → All P xs → All P (removed xs i)
  all_removed P xs i all = All-append P (take i xs) (drop (i + 1) xs) (All-take P i xs all) (All-drop P (i + 1) xs all)

module _ {X : Type 0} (p : X → Bool) where
  abbrev passes : X → ℕ
  passes x = indicator (p x)

  pub count : List X → ℕ
  count xs = sum_by passes xs

  pub count_none : count [] ≡ 0
  unfolding count
  count_none = refl

  pub count_cons : (x : X) (xs : List X) → count (x ∷ xs) ≡ indicator (p x) + count xs
  unfolding count
  count_cons x xs = sum_by-cons passes x xs

  pub count_append : (xs ys : List X) → count (xs ++ ys) ≡ count xs + count ys
  unfolding count
  count_append xs ys = sum_by-append passes xs ys

  pub count_push : (xs : List X) (y : X) → count (xs ++ y ∷ []) ≡ count xs + indicator (p y)
  unfolding count
  count_push xs y = sum_by_push passes xs y

  pub count_set : (xs : List X) (i : ℕ) (x d : X) → i < length xs → count (set xs i x) + indicator (p (get_or xs i d)) ≡ count xs + indicator (p x)
  unfolding count
  count_set xs i x d within = sum_by-set passes xs i x d within

  pub count_removed : (xs : List X) (i : ℕ) (d : X) → i < length xs → count (removed xs i) + indicator (p (get_or xs i d)) ≡ count xs
  unfolding count
  count_removed xs i d within = rw (add-one i) (sum_by-remove passes xs i d within)

  -- whatever stands at a place is counted
  pub count_nth : (xs : List X) (i : ℕ) (x : X) → slice_get xs i ≡ Some x → indicator (p x) ≤ count xs
  unfolding count
  count_nth xs i x at =
      let same = ap passes (get_or_from_slice_get xs i x x at) in
      omega (arith, get_or-le-sum_by passes xs i x (slice_get_within xs i x at))

  -- nothing is counted exactly where no element passes
  pub none_passes : (xs : List X) → count xs ≡ 0 → All (λ x. p x ≡ false) xs
  none_passes [] none = tt
  none_passes (x ∷ xs) none =
      let whole = count_cons x xs in
      (not_sure (p x) (omega arith), none_passes xs (omega arith))

  pub none_counted : (xs : List X) → All (λ x. p x ≡ false) xs → count xs ≡ 0
  none_counted [] all = count_none
  none_counted (x ∷ xs) all = let here = ap indicator all.0 in let rest = none_counted xs all.1 in omega (arith, count_cons x xs)
