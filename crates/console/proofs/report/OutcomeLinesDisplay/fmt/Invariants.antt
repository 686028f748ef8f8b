use Rattle.std.proofs.Common.{◌≡◌, ℕ, List, ◌++◌, drop}
use Rattle.std.specs.Fmt.{HasWritten, IsPlainFormatter}
use Rattle.console.specs.Report.{outcome_lines}
use Rattle.console.proofs.report.OutcomeLinesDisplay.fmt.Given as goal

-- what is written, and the lines of the outcomes that are left
abbrev pub invariant-loop-outcome : goal.invariant-loop-outcome
invariant-loop-outcome g l =
    IsPlainFormatter l.initial.f → (done : List ℕ) × HasWritten g.W.Write.write_str_gives l.initial.f done l.f
    × (done ++ outcome_lines (drop l.outcome-index l.outcome-items) ≡ outcome_lines l.fn.self.0.now)
