use Rattle.std.proofs.Common.{◌≡◌, drop}
use Rattle.text.specs.Numbers.{parse_number, spelled}
use Rattle.text.proofs.bytes.parse_number.Given as goal

abbrev pub invariant-loop-byte : goal.invariant-loop-byte
invariant-loop-byte l = (parse_number l.field ≡ spelled l.number (drop l.byte-index l.field))
