use Rattle.std.proofs.Common.{◌≡◌, Some, Ok, Err, refl, lit<}
use Rattle.coherence.specs.declared.call.Call.TheVariants.{Collect}
use Rattle.raster.specs.declared.ticket.Ticket.{Ticket}
use Rattle.lamp.proofs.Shifting.{accepted, answer, as_called, next, next_two}
use Rattle.lamp.proofs.shift.first_reads.Goals as goal
use Rattle.lamp.specs.Shifts.{reached, too_early}

-- Whoever has the ticket back collects what it was for.
collects : (s t : Ticket) → s ≡ t → (t.processor ≡ 0) × (t.device ≡ 0) → Collect s.processor s.device ≡ Collect 0 0
collects s t same is = cc

pub collect_in_vain-early-requires : goal.collect_in_vain-early-requires
unfolding reached
collect_in_vain-early-requires c =
    let w7 = next_two 5 _ _ _ _ _ (lit< tt) c.requires.world c.deliver.ensures.step c.deliver-2.ensures.step in
    accepted 7 _ _ _ (collects _ _ refl c.requires.ticket) w7 refl

pub collect-requires : goal.collect-requires
unfolding reached
collect-requires c =
    let w7 = next_two 5 _ _ _ _ _ (lit< tt) c.requires.world c.deliver.ensures.step c.deliver-2.ensures.step in
    let made = as_called 7 _ _ _ _ (collects _ _ refl c.requires.ticket) c.collect_in_vain-early.ensures.step in
    let w9 = next_two 7 _ _ _ _ _ (lit< tt) w7 made c.deliver-3.ensures.step in
    accepted 9 _ _ _ (collects _ _ c.collect_in_vain-early.ensures.ticket c.requires.ticket) w9 refl

pub returns : goal.returns
unfolding reached
returns c =
    let w7 = next_two 5 _ _ _ _ _ (lit< tt) c.requires.world c.deliver.ensures.step c.deliver-2.ensures.step in
    let made = as_called 7 _ _ _ _ (collects _ _ refl c.requires.ticket) c.collect_in_vain-early.ensures.step in
    let early : Err c.collect_in_vain-early.result.0 ≡ Err (too_early 0) = answer 7 _ _ _ w7 made in
    let w9 = next_two 7 _ _ _ _ _ (lit< tt) w7 made c.deliver-3.ensures.step in
    let back = collects _ _ c.collect_in_vain-early.ensures.ticket c.requires.ticket in
    let got = as_called 9 _ _ _ _ back c.collect.ensures in
    let read : Ok (Some c.collect.result) ≡ Ok (Some 7) = answer 9 _ _ _ w9 got in
    record {
      world = next 9 _ _ _ w9 got (lit< tt);
      answers = (cc, cc);
    }
