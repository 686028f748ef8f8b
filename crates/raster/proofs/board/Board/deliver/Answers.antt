use Rattle.raster.proofs.Going.{did}
use Rattle.raster.proofs.board.Board.deliver.Goals as goal

pub returns : goal.returns
returns g c = did _ _ g.met.A.Device.lawful g.met.B.Device.lawful _ _ _ _ _ _ _ _ c.deliver_step.ensures
