use Rattle.std.proofs.Common.{◌≡◌, ◌++◌, drop}
use Rattle.list.specs.Contents.{contents, room}
use Rattle.message.specs.Reactions.{gathered}
use Rattle.raster.proofs.post.send_all.Given as goal

abbrev pub invariant-loop-message : goal.invariant-loop-message
invariant-loop-message l =
    (contents l.messages ++ gathered (drop l.message-index l.message-items) ≡ contents l.initial.messages ++ gathered l.message-items)
    × (room l.messages ≡ room l.initial.messages)
