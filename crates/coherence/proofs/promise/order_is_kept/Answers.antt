use Rattle.coherence.proofs.OrderPromise.{order_promise}
use Rattle.coherence.proofs.promise.order_is_kept.Goals as goal

pub returns : goal.returns
returns g c = order_promise g.A.Device.meaning g.B.Device.meaning g.met.A.Device.lawful g.met.B.Device.lawful
