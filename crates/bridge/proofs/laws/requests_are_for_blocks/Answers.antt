use Rattle.bridge.proofs.Asking.{requests_are_for_blocks}
use Rattle.bridge.proofs.laws.requests_are_for_blocks.Goals as goal

pub returns : goal.returns
returns g c = requests_are_for_blocks g.D.Device.meaning
