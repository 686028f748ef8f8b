-- One line more is written: what was written and what is left are all of it still.
use Rattle.std.proofs.Common.{◌≡◌, ℕ, ◌+◌, ◌<◌, List, ◌∷◌, ◌++◌, length, drop, get_or, sym, ap, ◌∙◌, append_assoc, add-one, drop-cons}
use Rattle.trail.specs.declared.entry.Entry.{Entry}
use Rattle.script.specs.Outcomes.{newline, outcome_line}
use Rattle.script.specs.declared.outcome.Outcome.{Outcome}
use Rattle.console.specs.Report.{outcome_lines, row_line, rows_from}

regrouped : (done line rest : List ℕ) → (done ++ (line ++ newline)) ++ rest ≡ done ++ (line ++ (newline ++ rest))
regrouped done line rest = append_assoc done (line ++ newline) rest ∙ ap (λ (t : List ℕ). done ++ t) (append_assoc line newline rest)

pub outcome_written : (os : List Outcome) (i : ℕ) (d : Outcome) (done all : List ℕ) → i < length os → done ++ outcome_lines (drop i os) ≡ all
    → (done ++ (outcome_line (get_or os i d) ++ newline)) ++ outcome_lines (drop (i + 1) os) ≡ all
outcome_written os i d done all inside so_far =
    let next : drop i os ≡ get_or os i d ∷ drop (i + 1) os = rw (add-one, drop-cons os i d) in
    regrouped done (outcome_line (get_or os i d)) (outcome_lines (drop (i + 1) os)) ∙ sym (ap (λ (ls : List Outcome). done ++ outcome_lines ls) next) ∙ so_far

pub row_written : (es : List Entry) (i : ℕ) (d : Entry) (done all : List ℕ) → i < length es → done ++ rows_from i (drop i es) ≡ all
    → (done ++ (row_line i (get_or es i d) ++ newline)) ++ rows_from (i + 1) (drop (i + 1) es) ≡ all
row_written es i d done all inside so_far =
    let next : drop i es ≡ get_or es i d ∷ drop (i + 1) es = rw (add-one, drop-cons es i d) in
    regrouped done (row_line i (get_or es i d)) (rows_from (i + 1) (drop (i + 1) es)) ∙ sym (ap (λ (ls : List Entry). done ++ rows_from i ls) next) ∙ so_far
