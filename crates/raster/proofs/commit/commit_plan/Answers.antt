use Rattle.std.proofs.Common.{rules}
use Rattle.bridge.specs.States.{view}
use Rattle.raster.proofs.Planning.{refuses, has_room, commits}
use Rattle.raster.proofs.commit.commit_plan.Goals as goal
use Rattle.raster.specs.Lists.{lists}

pub returns-in_err-plan : goal.returns-in_err-plan
returns-in_err-plan g c =
    let refused =
    refuses g.D.Device.meaning c.args.number (view g.D.Device.state c.args.bridge.now) c.args.plan c.args.taken
    (lists c.args.messages.now c.args.trail.now) c.fitting.result c.in_err-plan.field-0.0 c.in_err-plan.was c.fitting.ensures in
    search rules

pub post-requires : goal.post-requires
post-requires g c =
    let room_left =
    has_room g.D.Device.meaning c.args.number (view g.D.Device.state c.args.bridge.now) c.args.plan c.args.taken
    (lists c.args.messages.now c.args.trail.now) c.fitting.result c.in_ok-plan.plan c.in_ok-plan.was c.fitting.ensures in
    search rules

pub returns : goal.returns
returns g c =
    let committed =
    commits g.D.Device.meaning c.args.number (view g.D.Device.state c.args.bridge.now) c.args.plan c.args.taken
    (lists c.args.messages.now c.args.trail.now) c.fitting.result c.in_ok-plan.plan c.in_ok-plan.was c.fitting.ensures in
    search rules
