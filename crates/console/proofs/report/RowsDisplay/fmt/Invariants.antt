use Rattle.std.proofs.Common.{◌≡◌, ℕ, List, ◌++◌, drop}
use Rattle.std.specs.Fmt.{HasWritten, IsPlainFormatter}
use Rattle.console.specs.Report.{rows_from}
use Rattle.console.proofs.report.RowsDisplay.fmt.Given as goal

-- what is written, and the rows of the entries that are left
abbrev pub invariant-loop-number : goal.invariant-loop-number
invariant-loop-number g l =
    IsPlainFormatter l.initial.f → (done : List ℕ) × HasWritten g.W.Write.write_str_gives l.initial.f done l.f
    × (done ++ rows_from l.number (drop l.number l.entry-items) ≡ rows_from 0 l.fn.self.0.now)
