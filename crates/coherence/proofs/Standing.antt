-- What stands in a list, at some place: in one that grew, in one that lost an element, and where a test counts something.
use Rattle.std.proofs.Common.{◌≡◌, ℕ, zero, suc, ◌+◌, ◌<◌, ◌≤◌, Bool, true, false, ◌⊎◌, List, [], ◌∷◌, ◌++◌, take, drop, is_some, Some, None, Option, sym, refl, ap, ◌∙◌, subst, inl, inr, ⊎_elim, arith}
use Rattle.list.specs.Contents.{removed}
use Rattle.std.proofs.ByRecursion.{All-append, All-take, All-drop}
use Rattle.std.proofs.lemmas.List.{take-append-drop}
use Rattle.std.proofs.lemmas.Bool.{cases_order}
use Rattle.std.proofs.lemmas.Option.{none-some, same_Some}
use Rattle.std.specs.Option.{option_to_list}
use Rattle.std.specs.List.{AllByRecursion as All, slice_get}
use Rattle.coherence.proofs.Arising.{never}
use Rattle.coherence.proofs.Counting.{indicator, count, count_none, count_cons}
use Rattle.coherence.proofs.Rising.{Pairs, all_nth, pairs_nth}
use Rattle.coherence.specs.Promise.{Stands}

module _ {X : Type 0} where
  pub none_stands : (x : X) → Stands [] x → ⊥
  none_stands x s = none-some x s.1

  pub stands_first : (x : X) (xs : List X) → Stands (x ∷ xs) x
  stands_first x xs = (0, refl)

  pub stands_later : (y x : X) (xs : List X) → Stands xs x → Stands (y ∷ xs) x
  stands_later y x xs s = (suc s.0, s.1)

  -- in a list that grew
  pub stands_on : (xs ys : List X) (x : X) → Stands xs x → Stands (xs ++ ys) x
  stands_on [] ys x s = absurd (none_stands x s)
  stands_on (y ∷ xs) ys x (zero, is) = (0, is)
  stands_on (y ∷ xs) ys x (suc i, is) = stands_later y x (xs ++ ys) (stands_on xs ys x (i, is))

  pub stands_new : (xs ys : List X) (x : X) → Stands ys x → Stands (xs ++ ys) x
  stands_new [] ys x s = s
  stands_new (y ∷ xs) ys x s = stands_later y x (xs ++ ys) (stands_new xs ys x s)

  pub stands_either : (xs ys : List X) (x : X) → Stands (xs ++ ys) x → Stands xs x ⊎ Stands ys x
  stands_either [] ys x s = inr s
  stands_either (y ∷ xs) ys x (zero, is) = inl (0, is)
  stands_either (y ∷ xs) ys x (suc i, is) = ⊎_elim (λ s. inl (stands_later y x xs s)) inr (stands_either xs ys x (i, is))

  pub stands_only : (o : Option X) (x : X) → Stands (option_to_list o) x → o ≡ Some x
  stands_only None x s = absurd (none_stands x s)
  stands_only (Some y) x (zero, is) = is
  stands_only (Some y) x (suc i, is) = absurd (none-some x is)

  pub stands_some : (o : Option X) (x : X) → o ≡ Some x → Stands (option_to_list o) x
  stands_some o x is = subst (λ (p : Option X). Stands (option_to_list p) x) (sym is) (stands_first x [])

  pub some_there : (o : Option X) → is_some o ≡ true → (x : X) × (o ≡ Some x)
  some_there None some = never cc
  some_there (Some x) some = (x, refl)

  pub stands_all : (P : X → Type 0) (xs : List X) (x : X) → All P xs → Stands xs x → P x
  stands_all P xs x all s = all_nth P xs s.0 x all s.1

  -- in a list that lost an element
  pub stands_take : (n : ℕ) (xs : List X) (x : X) → Stands (take n xs) x → Stands xs x
  stands_take n xs x s = subst (λ (l : List X). Stands l x) (take-append-drop n xs) (stands_on (take n xs) (drop n xs) x s)

  pub stands_drop : (n : ℕ) (xs : List X) (x : X) → Stands (drop n xs) x → Stands xs x
  stands_drop n xs x s = subst (λ (l : List X). Stands l x) (take-append-drop n xs) (stands_new (take n xs) (drop n xs) x s)

  pub stands_removed : (xs : List X) (i : ℕ) (x : X) → Stands (removed xs i) x → Stands xs x
  stands_removed xs i x s =
      ⊎_elim (stands_take i xs x) (stands_drop (i + 1) xs x) (stands_either (take i xs) (drop (i + 1) xs) x s)

  -- what a test counts stands there
  pub counted_stands : (p : X → Bool) (xs : List X) → 1 ≤ count p xs → (x : X) × Stands xs x × (p x ≡ true)
  counted_stands p [] some = absurd (omega (arith, count_none p))
  counted_stands p (x ∷ xs) some = go (p x) refl (λ more. counted_stands p xs more)
    where
      go : (b : Bool) → p x ≡ b → (1 ≤ count p xs → (y : X) × Stands xs y × (p y ≡ true)) → (y : X) × Stands (x ∷ xs) y × (p y ≡ true)
      go true is rest = (x, stands_first x xs, is)
      go false is rest =
          let none = ap indicator is in
          let n = rest (omega (arith, count_cons p x xs)) in
          (n.0, stands_later x n.0 xs n.1, n.2)

  -- two that stand in a list where every two are in a relation
  pub pairs_stand : (R : X → X → Type 0) (xs ys : List X) (x y : X) → Pairs R (xs ++ ys) → Stands xs x → Stands ys y → R x y
  pairs_stand R [] ys x y pairs s t = absurd (none_stands x s)
  pairs_stand R (z ∷ xs) ys x y pairs (zero, is) t =
      subst (λ (w : X). R w y) (same_Some z x is) (stands_all (R z) (xs ++ ys) y pairs.0 (stands_new xs ys y t))
  pairs_stand R (z ∷ xs) ys x y pairs (suc i, is) t = pairs_stand R xs ys x y pairs.1 (i, is) t

  pub pairs_order : (R : X → X → Type 0) (xs : List X) (x y : X) → Pairs R xs → (s : Stands xs x) → (t : Stands xs y)
      → (x ≡ y) ⊎ (R x y ⊎ R y x)
  pairs_order R xs x y pairs (i, is) (j, it) = go (cases_order i j)
    where
      go : (i ≡ j) ⊎ ((i < j) ⊎ (j < i)) → (x ≡ y) ⊎ (R x y ⊎ R y x)
      go (inl same) = inl (same_Some x y (sym is ∙ subst (λ (k : ℕ). slice_get xs k ≡ Some y) (sym same) it))
      go (inr (inl l)) = inr (inl (pairs_nth R xs i j x y pairs is it l))
      go (inr (inr l)) = inr (inr (pairs_nth R xs j i y x pairs it is l))

  pairs_drop : (R : X → X → Type 0) (j : ℕ) (xs : List X) → Pairs R xs → Pairs R (drop j xs)
  pairs_drop R zero xs pairs = pairs
  pairs_drop R (suc j) [] pairs = tt
  pairs_drop R (suc j) (x ∷ xs) pairs = pairs_drop R j xs pairs.1

  pairs_apart : (R : X → X → Type 0) (i j : ℕ) (xs : List X) → i ≤ j → Pairs R xs → Pairs R (take i xs ++ drop j xs)
  pairs_apart R zero j xs le pairs = pairs_drop R j xs pairs
  pairs_apart R (suc i) zero xs le pairs = absurd (omega arith)
  pairs_apart R (suc i) (suc j) [] le pairs = tt
  pairs_apart R (suc i) (suc j) (x ∷ xs) le pairs =
      (All-append (R x) (take i xs) (drop j xs) (All-take (R x) i xs pairs.0) (All-drop (R x) j xs pairs.0), pairs_apart R i j xs (omega arith) pairs.1)

  pub pairs_removed : (R : X → X → Type 0) (xs : List X) (i : ℕ) → Pairs R xs → Pairs R (removed xs i)
  pairs_removed R xs i pairs = pairs_apart R i (i + 1) xs (omega arith) pairs
