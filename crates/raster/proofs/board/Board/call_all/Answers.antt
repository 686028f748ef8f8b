use Rattle.std.proofs.Common.{rules}
use Rattle.raster.proofs.Turns.{turned, none_called}
use Rattle.raster.proofs.board.Board.call_all.Goals as goal

pub loop-place-init : goal.loop-place-init
loop-place-init g c = none_called _ _ _ _

pub loop-place-preserved : goal.loop-place-preserved
loop-place-preserved g c =
    let more = turned g.A.Device.meaning g.B.Device.meaning _ _ c.loop-place.place _ _ _ _ _ c.loop-place-test.true c.loop-place.invariant c.call-answer.ensures.step in
    search rules
