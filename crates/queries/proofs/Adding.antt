-- Adding one entry's values to the control sum of those before it.
use Rattle.std.proofs.Common.{◌≡◌, ℕ, ◌+◌, ◌%◌, ◌^◌, ◌<◌, List, length, get_or, take, sum_by, sym, ap, ◌∙◌}
use native.Mathlib.Nat.{mod-add-mod}
use Rattle.std.proofs.lemmas.List.Sums.{sum_by_more}
use Rattle.queries.specs.Sums.{words_sum, control_sum}
use Rattle.trail.specs.declared.entry.Entry.{Entry}

abbrev values_sum : Entry → ℕ
values_sum e = words_sum e.values

pub control_sum_more : (trail : List Entry) (n : ℕ) (d : Entry) → n < length trail
    → (control_sum (take n trail) + words_sum (get_or trail n d).values) % 2 ^ 32 ≡ control_sum (take (n + 1) trail)
control_sum_more trail n d h =
    mod-add-mod (sum_by values_sum (take n trail)) (2 ^ 32) (values_sum (get_or trail n d))
    ∙ sym (ap (λ (k : ℕ). k % 2 ^ 32) (sum_by_more values_sum trail n d h))
