use Rattle.std.proofs.Common.{◌≡◌, refl, lit<}
use Rattle.coherence.specs.declared.call.Call.TheVariants.{GiveUp}
use Rattle.lamp.proofs.Shifting.{accepted, as_called, next, next_two}
use Rattle.lamp.proofs.shift.second_gives_up.Goals as goal
use Rattle.lamp.specs.Shifts.{reached}

pub give_up-requires : goal.give_up-requires
unfolding reached
give_up-requires c =
    let same : GiveUp c.args.ticket.processor c.args.ticket.device ≡ GiveUp 1 0 = cc in
    accepted 10 _ _ _ same c.requires.world refl

pub returns : goal.returns
returns c =
    let same : GiveUp c.args.ticket.processor c.args.ticket.device ≡ GiveUp 1 0 = cc in
    let w11 = next 10 _ _ _ c.requires.world (as_called 10 _ _ _ _ same c.give_up.ensures) (lit< tt) in
    next_two 11 _ _ _ _ _ (lit< tt) w11 c.deliver.ensures.step c.deliver-2.ensures.step
