use Rattle.bridge.proofs.Clocks.{entries_are_stamped}
use Rattle.bridge.proofs.laws.entries_are_stamped.Goals as goal

pub returns : goal.returns
returns g c = entries_are_stamped g.D.Device.meaning
