use Rattle.std.proofs.Common.{arith}
use Rattle.std.proofs.lemmas.Bool.Decides.{nat_tests}
use Rattle.message.proofs.Tables.{put_read}
use Rattle.processor.proofs.laws.nack_only_ends.Goals as goal

pub returns : goal.returns
returns c s n m r h k = grind (arith, nat_tests, put_read)
