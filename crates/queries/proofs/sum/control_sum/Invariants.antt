use Rattle.std.proofs.Common.{◌≡◌, ◌^◌, ◌<◌, take}
use Rattle.queries.specs.Sums.{control_sum}
use Rattle.queries.proofs.sum.control_sum.Given as goal

abbrev pub invariant-loop-entry : goal.invariant-loop-entry
invariant-loop-entry l = (l.sum ≡ control_sum (take l.entry-index l.trail)) × (l.sum < 2 ^ 32)
