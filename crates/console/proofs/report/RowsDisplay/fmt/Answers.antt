use Rattle.std.proofs.Common.{◌++◌, get_or, rules}
use Rattle.std.proofs.Output.{has_written_append}
use Rattle.trail.specs.Addresses.{no_entry}
use Rattle.script.specs.Outcomes.{newline}
use Rattle.console.proofs.Writing.{row_written}
use Rattle.console.specs.Report.{row_line}
use Rattle.console.proofs.report.RowsDisplay.fmt.Goals as goal

pub loop-number-preserved : goal.loop-number-preserved
loop-number-preserved g c = λ plain.
    let so_far = c.loop-number.invariant plain in
    let es = c.args.self.now.0.now in
    let i = c.loop-number.number in (
      so_far.0 ++ (row_line i (get_or es i no_entry) ++ newline),
      has_written_append _ _ _ _ _ _ so_far.1 (search rules),
      row_written es i no_entry so_far.0 _ (search rules) so_far.2,
    )
