use Rattle.std.proofs.Common.{◌++◌, get_or, rules, Ok, None}
use Rattle.std.proofs.Output.{has_written_append}
use Rattle.script.specs.Outcomes.{newline, outcome_line}
use Rattle.console.proofs.Writing.{outcome_written}
use Rattle.console.proofs.report.OutcomeLinesDisplay.fmt.Goals as goal

pub loop-outcome-preserved : goal.loop-outcome-preserved
loop-outcome-preserved g c = λ plain.
    let so_far = c.loop-outcome.invariant plain in
    let os = c.args.self.now.0.now in
    let i = c.loop-outcome.outcome-index in (
      so_far.0 ++ (outcome_line (get_or os i (record { result = Ok None })) ++ newline),
      has_written_append _ _ _ _ _ _ so_far.1 (search rules),
      outcome_written os i (record { result = Ok None }) so_far.0 _ (search rules) so_far.2,
    )
