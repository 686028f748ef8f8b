use Rattle.std.proofs.Common.{◌≡◌, drop}
use Rattle.message.specs.Pairs.{first_alike}
use Rattle.message.proofs.pair.first_alike.Given as goal

abbrev pub invariant-loop-place : goal.invariant-loop-place
invariant-loop-place l = first_alike l.message l.messages 0 ≡ first_alike l.message (drop l.place l.messages) l.place
