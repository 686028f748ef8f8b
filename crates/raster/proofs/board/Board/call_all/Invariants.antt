use Rattle.std.proofs.Common.{take}
use Rattle.raster.proofs.board.Board.call_all.Given as goal
use Rattle.raster.specs.Boards.{world}
use Rattle.raster.specs.Runs.{CallsComeTo}

abbrev pub invariant-loop-place : goal.invariant-loop-place
invariant-loop-place g l =
    CallsComeTo g.A.Device.meaning g.B.Device.meaning (world g.A.Device.state g.B.Device.state l.initial.self l.initial.messages l.initial.trail)
    (take l.place l.calls) l.initial.answers l.answers (world g.A.Device.state g.B.Device.state l.self l.messages l.trail)
