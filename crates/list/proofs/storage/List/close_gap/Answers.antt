use Rattle.std.proofs.Common.{rules}
use Rattle.list.proofs.Gap.{gap_closed}
use Rattle.list.proofs.storage.List.close_gap.Goals as goal

pub returns : goal.returns
returns g c = search (rules, gap_closed)
