use Rattle.std.proofs.Common.{◌≡◌, drop}
use Rattle.queries.specs.Search.{later, latest}
use Rattle.queries.proofs.source.latest.Given as goal

abbrev pub invariant-loop-number : goal.invariant-loop-number
invariant-loop-number l =
    later l.best (latest l.address l.reader l.number (drop l.number l.trail)) ≡ latest l.address l.reader 0 l.trail
