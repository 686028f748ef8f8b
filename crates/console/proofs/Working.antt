-- The worked scripts, by computing.
use Rattle.std.proofs.Common.{refl}
use Rattle.std.specs.Fmt.{digits}
use Rattle.console.specs.WorkedScripts.{WorkedScripts}

pub worked : WorkedScripts
unfolding digits
worked = record {
  listing = refl;
  empty = refl;
  odd_lines = refl;
}
