-- What is written in decimal digits is read as the number that it was.
use Rattle.std.proofs.Common.{◌≡◌, ℕ, ◌+◌, ◌*◌, ◌/◌, ◌%◌, ◌<◌, ◌≤◌, ◌==◌, ◌^◌, false, List, [], ◌∷◌, ◌++◌, length, Some, None, refl, ap, ◌∙◌, arith}
use Rattle.std.proofs.lemmas.Bool.Decides.{nat_tests}
use Rattle.std.proofs.lemmas.Fmt.{decimal_by_steps, decimal_nonempty}
use Rattle.std.specs.Prelude.{decimal}
use Rattle.text.specs.Numbers.{with_digit, parse_number, spelled, Tabless, NumbersAreReadBack}

one_more : (m x : ℕ) → m * 10 + x ≤ 4294967295 → x < 10 → with_digit m (48 + x) ≡ Some (m * 10 + x)
one_more m x fits small = grind (arith, nat_tests)

one : (m d : ℕ) → spelled m (d ∷ []) ≡ with_digit m d
one m d = elim (with_digit m d) as (λ o. elim o [ None ↦ None | Some b ↦ Some b ] ≡ o) [ None ↦ refl | Some b ↦ refl ]

push : (ds : List ℕ) (a m d k : ℕ) → spelled a ds ≡ Some m → with_digit m d ≡ Some k → spelled a (ds ++ d ∷ []) ≡ Some k
push [] a m d k is digit = let same : a ≡ m = cc in rw same (one m d ∙ digit)
push (x ∷ xs) a m d k is digit =
    elim (with_digit a x) as (λ o. elim o [ None ↦ None | Some b ↦ spelled b xs ] ≡ Some m → elim o [ None ↦ None | Some b ↦ spelled b (xs ++ d ∷ []) ] ≡ Some k) [
      | None ↦ λ none. cc
      | Some b ↦ λ is. push xs b m d k is digit
    ] is

tabless_push : (ds : List ℕ) (d : ℕ) → Tabless ds → d == 9 ≡ false → Tabless (ds ++ d ∷ [])
tabless_push [] d all last = (last, tt)
tabless_push (x ∷ xs) d all last = (all.0, tabless_push xs d all.1 last)

record Read (m : ℕ) (ds : List ℕ) : Type 0 where
  value : m < 4294967296 → spelled 0 ds ≡ Some m
  tabless : Tabless ds

shown : (m : ℕ) → m / 10 * 10 + m % 10 ≡ m
shown m = omega arith

read : (n : ℕ) → n < 2 ^ 64 → Read n (decimal n)
read = decimal_by_steps Read
    (λ m l. record { value = λ fits. one 0 (48 + m) ∙ one_more 0 m (omega arith) l ∙ ap (λ (n : ℕ). Some n) (omega arith); tabless = (grind (arith, nat_tests), tt) })
    (λ m ds l h. record {
      value = λ fits. push ds 0 (m / 10) (48 + m % 10) m (h.value (omega arith)) (one_more (m / 10) (m % 10) (omega arith) (omega arith) ∙ ap (λ (n : ℕ). Some n) (shown m));
      tabless = tabless_push ds (48 + m % 10) h.tabless (grind (arith, nat_tests));
    })

spelt : (ds : List ℕ) → 0 < length ds → parse_number ds ≡ spelled 0 ds
spelt [] some = absurd (omega arith)
spelt (x ∷ xs) some = refl

pub numbers_read : NumbersAreReadBack
numbers_read = record {
  value = λ n h. let wide : n < 2 ^ 64 = omega arith in spelt (decimal n) (decimal_nonempty n wide) ∙ (read n wide).value (omega arith);
  tabless = λ n h. (read n (omega arith)).tabless;
}
