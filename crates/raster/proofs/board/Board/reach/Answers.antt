use Rattle.std.proofs.Common.{rules}
use Rattle.bridge.specs.Reactions.{receive}
use Rattle.bridge.specs.States.{view}
use Rattle.raster.proofs.Lifting.{first_rule, second_rule}
use Rattle.raster.proofs.board.Board.reach.Goals as goal
use Rattle.raster.specs.Answers.{done_answer}
use Rattle.raster.specs.Boards.{world}
use Rattle.raster.specs.Lists.{lists}

pub returns-in-Device-eq0 : goal.returns-in-Device-eq0
returns-in-Device-eq0 g c =
    let ma = g.A.Device.meaning in
    let w = world g.A.Device.state g.B.Device.state c.args.self.now c.args.messages.now c.args.trail.now in
    let at = c.reach_at in
    let done = first_rule ma g.B.Device.meaning w c.args.place (receive ma 0 w.first c.in_ok-message.message)
    (done_answer at.result, view g.A.Device.state at.new.bridge, lists at.new.messages at.new.trail) at.ensures in
    search rules

pub returns-in-Device : goal.returns-in-Device
returns-in-Device g c =
    let mb = g.B.Device.meaning in
    let w = world g.A.Device.state g.B.Device.state c.args.self.now c.args.messages.now c.args.trail.now in
    let at = c.reach_at-in-Device in
    let done = second_rule g.A.Device.meaning mb w c.args.place (receive mb 1 w.second c.in_ok-message.message)
    (done_answer at.result, view g.B.Device.state at.new.bridge, lists at.new.messages at.new.trail) at.ensures in
    search rules
