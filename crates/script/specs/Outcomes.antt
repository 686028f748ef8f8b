-- The outcome of a line, as a line of text.
use Rattle.std.specs.Prelude.{ℕ, List, ◌++◌, Some, None, Ok, Err, codes, decimal}
use Rattle.script.specs.Faults.{fault_number, fault_place}
use Rattle.script.specs.declared.outcome.Outcome.{Outcome}

abbrev pub tab : List ℕ
tab = codes "\t"

abbrev pub newline : List ℕ
newline = codes "\n"

-- `ok` and the value, if there is one; or `no`, the fault's number and its place.
abbrev pub outcome_line : Outcome → List ℕ
outcome_line o =
    elim o.result [
      | Ok a ↦ elim a [ None ↦ codes "ok" | Some v ↦ codes "ok\t" ++ decimal v ]
      | Err f ↦ codes "no\t" ++ (decimal (fault_number f) ++ (tab ++ decimal (fault_place f)))
    ]
