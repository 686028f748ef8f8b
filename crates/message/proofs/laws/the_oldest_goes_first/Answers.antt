use Rattle.message.proofs.Oldest.{oldest_goes_first, others_go}
use Rattle.message.proofs.laws.the_oldest_goes_first.Goals as goal

pub returns : goal.returns
returns c = record { waits = oldest_goes_first; goes = others_go }
