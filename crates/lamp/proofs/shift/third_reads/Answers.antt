use Rattle.std.proofs.Common.{◌≡◌, Some, Ok, refl, lit<}
use Rattle.coherence.specs.declared.call.Call.TheVariants.{Collect}
use Rattle.lamp.proofs.Shifting.{accepted, answer, as_called, next, next_two}
use Rattle.lamp.proofs.shift.third_reads.Goals as goal
use Rattle.lamp.specs.Shifts.{reached}

pub collect-requires : goal.collect-requires
unfolding reached
collect-requires c =
    let w15 = next_two 13 _ _ _ _ _ (lit< tt) c.requires.world c.deliver.ensures.step c.deliver-2.ensures.step in
    let same : Collect c.args.ticket.processor c.args.ticket.device ≡ Collect 2 1 = cc in
    accepted 15 _ _ _ same w15 refl

pub returns : goal.returns
unfolding reached
returns c =
    let w15 = next_two 13 _ _ _ _ _ (lit< tt) c.requires.world c.deliver.ensures.step c.deliver-2.ensures.step in
    let same : Collect c.args.ticket.processor c.args.ticket.device ≡ Collect 2 1 = cc in
    let made = as_called 15 _ _ _ _ same c.collect.ensures in
    let read : Ok (Some c.collect.result) ≡ Ok (Some 23) = answer 15 _ _ _ w15 made in
    record {
      world = next 15 _ _ _ w15 made (lit< tt);
      answers = cc;
    }
