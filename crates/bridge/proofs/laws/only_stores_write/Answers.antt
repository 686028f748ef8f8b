use Rattle.bridge.proofs.Writing.{only_stores_write}
use Rattle.bridge.proofs.laws.only_stores_write.Goals as goal

pub returns : goal.returns
returns g c = only_stores_write g.D.Device.meaning g.met.D.Device.lawful
