use Rattle.std.proofs.Common.{rules}
use Rattle.text.proofs.Marks.{part_is, rest_is}
use Rattle.text.proofs.parts.end_of_part.Goals as goal

pub returns-clause-part : goal.returns-clause-part
returns-clause-part c = search (rules, part_is)

pub returns-clause-rest : goal.returns-clause-rest
returns-clause-rest c = search (rules, rest_is)
