-- A trail in the order in which its entries were added: stamps rise between entries that conflict, and no two are equal.
use Rattle.std.proofs.Common.{◌≡◌, ℕ, zero, suc, ◌<◌, Bool, true, ◌&&◌, ◌||◌, ◌≢◌, ◌⊎◌, List, [], ◌∷◌, ◌++◌, Some, sym, refl, ap, ◌∙◌, subst, inl, inr, le_of_suc-le-suc, not-suc-le-zero}
use Rattle.ordering.specs.Operations.{is_write}
use Rattle.ordering.specs.Stamps.{below}
use Rattle.std.proofs.ByRecursion.{All-get_or, All-push}
use Rattle.std.proofs.lemmas.Bool.{and_parts, cases_order, or_left, or_right}
use Rattle.std.proofs.lemmas.Option.{none-some, same_Some, get_or_from_slice_get, slice_get_within}
use Rattle.std.specs.List.{AllByRecursion as All, slice_get}
use Rattle.trail.specs.Addresses.{covers}
use Rattle.trail.specs.declared.address.Address.{Address}
use Rattle.trail.specs.declared.entry.Entry.{Entry}

module _ {X : Type 0} where
  pub same_place : (xs : List X) (i j : ℕ) (x y : X) → slice_get xs i ≡ Some x → slice_get xs j ≡ Some y → i ≡ j → x ≡ y
  same_place xs i j x y h k e = same_Some x y (sym h ∙ ap (slice_get xs) e ∙ k)

  -- what holds of each element, by places
  pub all_nth : (P : X → Type 0) (xs : List X) (i : ℕ) (x : X) → All P xs → slice_get xs i ≡ Some x → P x
  all_nth P xs i x all h = subst P (get_or_from_slice_get xs i x x h) (All-get_or P xs i x (slice_get_within xs i x h) all)

  pub all_from_nth : (P : X → Type 0) (xs : List X) → ((i : ℕ) (x : X) → slice_get xs i ≡ Some x → P x) → All P xs
  all_from_nth P [] each = tt
  all_from_nth P (x ∷ xs) each = (each 0 x refl, all_from_nth P xs (λ i. each (suc i)))

  -- what holds of every two elements, the earlier first
  abbrev pub Pairs : (X → X → Type 0) → List X → Type 0
  Pairs R [] = Unit {0}
  Pairs R (x ∷ xs) = All (R x) xs × Pairs R xs

  pub pairs_push : (R : X → X → Type 0) (xs : List X) (y : X) → Pairs R xs → All (λ x. R x y) xs → Pairs R (xs ++ y ∷ [])
  pairs_push R [] y pairs new = (tt, tt)
  pairs_push R (x ∷ xs) y pairs new = (All-push (R x) xs y pairs.0 new.0, pairs_push R xs y pairs.1 new.1)

  pub pairs_nth : (R : X → X → Type 0) (xs : List X) (i j : ℕ) (x y : X) → Pairs R xs
      → slice_get xs i ≡ Some x → slice_get xs j ≡ Some y → i < j → R x y
  pairs_nth R [] i j x y pairs h k l = absurd (none-some x h)
  pairs_nth R (z ∷ xs) i zero x y pairs h k l = absurd (not-suc-le-zero l)
  pairs_nth R (z ∷ xs) zero (suc j) x y pairs h k l =
      subst (λ (w : X). R w y) (same_Some z x h) (all_nth (R z) xs j y pairs.0 k)
  pairs_nth R (z ∷ xs) (suc i) (suc j) x y pairs h k l = pairs_nth R xs i j x y pairs.1 h k (le_of_suc-le-suc l)

-- Two entries conflict where they share an address and one of them writes.
pub record Conflicting (e f : Entry) : Type 0 where
  pub shared : Address
  pub early : covers e shared ≡ true
  pub late : covers f shared ≡ true
  pub written : (is_write e.operation || is_write f.operation) ≡ true

abbrev pub Rises : Entry → Entry → Type 0
Rises e f = Conflicting e f → below e.stamp f.stamp ≡ true

abbrev pub Rising : List Entry → Type 0
Rising = Pairs Rises

pub rising_push : (trail : List Entry) (e : Entry) → Rising trail → All (λ f. Rises f e) trail → Rising (trail ++ e ∷ [])
rising_push = pairs_push Rises

pub rising_at : (trail : List Entry) (i j : ℕ) (e f : Entry) → Rising trail
    → slice_get trail i ≡ Some e → slice_get trail j ≡ Some f → i < j → Conflicting e f → below e.stamp f.stamp ≡ true
rising_at = pairs_nth Rises

-- a write conflicts with whatever shares an address with it
abbrev pub writes_to : Address → Entry → Bool
writes_to a e = is_write e.operation && covers e a

pub write_first : (e f : Entry) (a : Address) → writes_to a e ≡ true → covers f a ≡ true → Conflicting e f
write_first e f a w c =
    let parts = and_parts (is_write e.operation) (covers e a) w in
    record { shared = a; early = parts.1; late = c; written = or_left (is_write e.operation) (is_write f.operation) parts.0 }

pub write_second : (e f : Entry) (a : Address) → covers e a ≡ true → writes_to a f ≡ true → Conflicting e f
write_second e f a c w =
    let parts = and_parts (is_write f.operation) (covers f a) w in
    record { shared = a; early = c; late = parts.1; written = or_right (is_write e.operation) (is_write f.operation) parts.0 }

-- No two entries have one stamp.
abbrev pub Differ : Entry → Entry → Type 0
Differ e f = e.stamp ≢ f.stamp

abbrev pub Apart : List Entry → Type 0
Apart = Pairs Differ

pub apart_push : (trail : List Entry) (e : Entry) → Apart trail → All (λ f. Differ f e) trail → Apart (trail ++ e ∷ [])
apart_push = pairs_push Differ

pub unique_stamps : (trail : List Entry) → Apart trail
    → (i j : ℕ) (e f : Entry) → slice_get trail i ≡ Some e → slice_get trail j ≡ Some f → e.stamp ≡ f.stamp → i ≡ j
unique_stamps trail apart i j e f h k same = go (cases_order i j)
  where
    go : (i ≡ j) ⊎ ((i < j) ⊎ (j < i)) → i ≡ j
    go (inl here) = here
    go (inr (inl l)) = absurd (pairs_nth Differ trail i j e f apart h k l same)
    go (inr (inr l)) = absurd (pairs_nth Differ trail j i f e apart k h l (sym same))
