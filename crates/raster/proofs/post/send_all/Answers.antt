use Rattle.std.proofs.Common.{◌≡◌, ◌≤◌, ◌++◌, ◌∙◌, length, arith, rules}
use Rattle.list.specs.Contents.{contents, room}
use Rattle.message.specs.Reactions.{gathered}
use Rattle.raster.proofs.Posting.{sends_one, sends_none}
use Rattle.raster.proofs.post.send_all.Goals as goal
use Rattle.raster.proofs.post.send_all.Goals.{in-Some, in_default}
use Rattle.std.proofs.lemmas.List.{length-append}

pub loop-message-preserved : goal.loop-message-preserved
loop-message-preserved c =
    let os = c.args.outbox.at in
    let i = c.loop-message.message-index in
    let cap = room c.loop-message.messages in
    let all = contents c.args.messages.now ++ gathered os in
    let four : length os ≡ 4 = search rules in
    let long = length-append (contents c.args.messages.now) (gathered os) in
    let fits : length all ≤ cap = omega arith in
    let step = c.loop-message.invariant.0 in
    elim c.match-message.branch [
      | in-Some w ↦
          let sent = sends_one (contents c.loop-message.messages) all os i cap (omega arith) fits step w.in-Some.message w.in-Some.is in
          let new = w.messages-is ∙ w.push.ensures.held in
          (rw new sent, rw new c.loop-message.invariant.1)
      | in_default w ↦
          let kept = sends_none (contents c.loop-message.messages) all os i cap (omega arith) fits step w.in_default.is in
          (cc, cc)
    ]
