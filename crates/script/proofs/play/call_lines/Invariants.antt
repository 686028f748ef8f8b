use Rattle.std.proofs.Common.{◌≡◌}
use Rattle.list.specs.Contents.{contents, room}
use Rattle.raster.specs.Boards.{world}
use Rattle.raster.specs.Runs.{world_after}
use Rattle.script.specs.Lines.{to_read}
use Rattle.script.specs.Scripts.{calls_of, outcomes_of, noted}
use Rattle.script.proofs.play.call_lines.Given as goal

-- what is still to come leads from here to where all lines lead from the start
abbrev pub invariant-loop-line : goal.invariant-loop-line
invariant-loop-line g l =
    let ma = g.A.Device.meaning in
    let mb = g.B.Device.meaning in
    let now = world g.A.Device.state g.B.Device.state l.board l.messages l.trail in
    let start = world g.A.Device.state g.B.Device.state l.initial.board l.initial.messages l.initial.trail in
    (world_after ma mb now (calls_of (to_read l.line-iterator)) ≡ world_after ma mb start (calls_of (to_read l.initial.line-iterator)))
    × (noted (room l.outcomes) (contents l.outcomes) (outcomes_of ma mb now (to_read l.line-iterator))
    ≡ noted (room l.initial.outcomes) (contents l.initial.outcomes) (outcomes_of ma mb start (to_read l.initial.line-iterator)))
