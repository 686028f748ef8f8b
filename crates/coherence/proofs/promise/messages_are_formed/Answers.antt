use Rattle.coherence.proofs.Forms.{messages_are_formed}
use Rattle.coherence.proofs.promise.messages_are_formed.Goals as goal

pub returns : goal.returns
returns g c = messages_are_formed g.A.Device.meaning g.B.Device.meaning g.met.A.Device.lawful g.met.B.Device.lawful
