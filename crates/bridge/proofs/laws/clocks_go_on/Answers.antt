use Rattle.bridge.proofs.Clocks.{clocks_go_on}
use Rattle.bridge.proofs.laws.clocks_go_on.Goals as goal

pub returns : goal.returns
returns g c = clocks_go_on g.D.Device.meaning
