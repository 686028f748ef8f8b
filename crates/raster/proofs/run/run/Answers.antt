use Rattle.raster.proofs.Turns.{ran}
use Rattle.raster.proofs.run.run.Goals as goal

pub returns : goal.returns
returns g c = ran _ _ g.met.A.Device.lawful g.met.B.Device.lawful _ _ _ _ _ _ c.make-board.ensures c.call_all.ensures
