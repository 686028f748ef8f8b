use Rattle.std.proofs.Common.{◌≡◌, ◌∙◌, ap}
use Rattle.coherence.proofs.OrderPromise.{order_promise}
use Rattle.coherence.specs.Makings.{make}
use Rattle.list.specs.Contents.{contents, room}
use Rattle.raster.proofs.Turns.{run_world}
use Rattle.raster.specs.Boards.{world, making}
use Rattle.script.specs.Lines.{script_lines, to_read}
use Rattle.script.specs.Scripts.{asked, calls_of, first_line, later, script_making}
use Rattle.script.proofs.Playing.{all_noted, made_as}
use Rattle.script.proofs.play.play.Goals as goal

pub returns : goal.returns
returns g c =
    let ma = g.A.Device.meaning in
    let mb = g.B.Device.meaning in
    let lines = script_lines c.args.script.now in
    let k = script_making lines c.args.words.now (g.A.Device.state c.args.first) (g.B.Device.state c.args.second) c.args.messages.now c.args.trail.now in
    let calls = calls_of (later lines) in
    let w = world g.A.Device.state g.B.Device.state c.make-board.result c.make-board.new.messages c.make-board.new.trail in
    let first : c.first_line-opening.result ≡ first_line lines = c.first_line-opening.ensures.opening ∙ ap first_line c.new-lines.ensures in
    let rest : to_read c.first_line-opening.new.lines ≡ later lines = c.first_line-opening.ensures.rest ∙ ap later c.new-lines.ensures in
    let begun : w ≡ make ma mb k =
    made_as ma mb
    (λ o. making o.processors o.clock c.args.words.now (g.A.Device.state c.args.first) (g.B.Device.state c.args.second) c.args.messages.now c.args.trail.now)
    c.asked-processors.result (asked (first_line lines)) w c.make-board.ensures (c.asked-processors.ensures ∙ ap asked first)
    in
    record {
      world = rw (run_world ma mb k calls, ← begun, ← rest) c.call_lines.ensures.world;
      outcomes =
          all_noted ma mb w (make ma mb k) begun lines (to_read c.first_line-opening.new.lines) rest c.first_line-opening.result first
          (room c.args.outcomes.now) (room c.note_first.new.outcomes) (contents c.args.outcomes.now) (contents c.note_first.new.outcomes) (contents c.call_lines.new.outcomes)
          c.note_first.ensures.room c.note_first.ensures.contents c.call_lines.ensures.outcomes;
      promise = order_promise ma mb g.met.A.Device.lawful g.met.B.Device.lawful k calls;
    }
