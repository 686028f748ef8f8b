-- The report of a run of a script: an outcome a line, then an entry a line, and last the control sum.
use Rattle.std.specs.Prelude.{ℕ, ◌+◌, List, [], ◌∷◌, ◌++◌, codes, decimal, slice_index}
use Rattle.ordering.specs.Operations.{name_of}
use Rattle.queries.specs.Sums.{control_sum}
use Rattle.script.specs.Outcomes.{tab, newline, outcome_line}
use Rattle.script.specs.declared.outcome.Outcome.{Outcome}
use Rattle.trail.specs.declared.entry.Entry.{Entry}

-- Number, party, sequence number, operation, space, place, first value, global, local, node.
abbrev pub row_line : ℕ → Entry → List ℕ
row_line n e =
    decimal n ++ (tab ++ (decimal e.party ++ (tab ++ (decimal e.sequence ++ (tab ++ (name_of e.operation ++ (tab
    ++ (decimal e.space ++ (tab ++ (decimal e.place ++ (tab ++ (decimal (slice_index e.values.at 0) ++ (tab
    ++ (decimal e.stamp.global ++ (tab ++ (decimal e.stamp.local ++ (tab ++ decimal e.stamp.node)))))))))))))))))

abbrev pub outcome_lines : List Outcome → List ℕ
outcome_lines [] = []
outcome_lines (o ∷ os) = outcome_line o ++ (newline ++ outcome_lines os)

abbrev pub rows_from : ℕ → List Entry → List ℕ
rows_from n [] = []
rows_from n (e ∷ es) = row_line n e ++ (newline ++ rows_from (n + 1) es)

abbrev pub sum_line : List Entry → List ℕ
sum_line trail = codes "sum\t" ++ decimal (control_sum trail)

abbrev pub report : List Outcome → List Entry → List ℕ
report os trail = outcome_lines os ++ (rows_from 0 trail ++ (sum_line trail ++ newline))
