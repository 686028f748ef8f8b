use Rattle.bridge.proofs.Asking.{refused_requests_go_out_again}
use Rattle.bridge.proofs.laws.refused_requests_go_out_again.Goals as goal

pub returns : goal.returns
returns g c = refused_requests_go_out_again g.D.Device.meaning
