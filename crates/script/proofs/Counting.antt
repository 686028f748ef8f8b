-- A text has no more lines than bytes.
use Rattle.std.proofs.Common.{ℕ, suc, ◌+◌, ◌≤◌, ◌==◌, true, false, cond, List, [], ◌∷◌, length, arith}
use Rattle.text.specs.Parts.{begun, lines_of}

one_more : (x : ℕ) (ls : List (List ℕ)) → length (begun x ls) ≤ length ls + 1
one_more x [] = omega arith
one_more x (l ∷ ls) = omega arith

pub few_lines : (xs : List ℕ) → length (lines_of xs) ≤ length xs
few_lines [] = omega arith
few_lines (x ∷ xs) =
    let few = few_lines xs in
    let more = one_more x (lines_of xs) in
    elim (x == 10) as (λ b. length (cond b ([] ∷ lines_of xs) (begun x (lines_of xs))) ≤ suc (length xs)) [
      | true ↦ omega arith
      | false ↦ omega arith
    ]
