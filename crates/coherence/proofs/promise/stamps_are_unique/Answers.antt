use Rattle.coherence.proofs.Running.{stamps_are_unique}
use Rattle.coherence.proofs.promise.stamps_are_unique.Goals as goal

pub returns : goal.returns
returns g c = stamps_are_unique g.A.Device.meaning g.B.Device.meaning
