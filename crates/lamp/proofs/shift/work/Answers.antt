use Rattle.std.proofs.Common.{◌≡◌, Err, refl, lit<}
use Rattle.lamp.proofs.Shifting.{accepted, answer, next, next_two}
use Rattle.lamp.proofs.shift.work.Goals as goal
use Rattle.lamp.specs.Shifts.{reached, slot_taken}

pub ask-first-requires : goal.ask-first-requires
unfolding reached
ask-first-requires c = accepted 1 _ _ _ refl (next 0 _ _ _ c.requires c.stio.ensures.step (lit< tt)) refl

pub ask-second-requires : goal.ask-second-requires
unfolding reached
ask-second-requires c =
    let w2 = next_two 0 _ _ _ _ _ (lit< tt) c.requires c.stio.ensures.step c.ask-first.ensures.step in
    accepted 2 _ _ _ refl w2 refl

pub ask-third-requires : goal.ask-third-requires
unfolding reached
ask-third-requires c =
    let w2 = next_two 0 _ _ _ _ _ (lit< tt) c.requires c.stio.ensures.step c.ask-first.ensures.step in
    accepted 3 _ _ _ refl (next 2 _ _ _ w2 c.ask-second.ensures.step (lit< tt)) refl

pub ask_in_vain-again-requires : goal.ask_in_vain-again-requires
unfolding reached
ask_in_vain-again-requires c =
    let w2 = next_two 0 _ _ _ _ _ (lit< tt) c.requires c.stio.ensures.step c.ask-first.ensures.step in
    let w4 = next_two 2 _ _ _ _ _ (lit< tt) w2 c.ask-second.ensures.step c.ask-third.ensures.step in
    accepted 4 _ _ _ refl w4 refl

pub first_reads-early-requires-clause-world : goal.first_reads-early-requires-clause-world
first_reads-early-requires-clause-world c =
    let w2 = next_two 0 _ _ _ _ _ (lit< tt) c.requires c.stio.ensures.step c.ask-first.ensures.step in
    let w4 = next_two 2 _ _ _ _ _ (lit< tt) w2 c.ask-second.ensures.step c.ask-third.ensures.step in
    next 4 _ _ _ w4 c.ask_in_vain-again.ensures (lit< tt)

pub returns-clause-answers : goal.returns-clause-answers
unfolding reached
returns-clause-answers c =
    let w2 = next_two 0 _ _ _ _ _ (lit< tt) c.requires c.stio.ensures.step c.ask-first.ensures.step in
    let w4 = next_two 2 _ _ _ _ _ (lit< tt) w2 c.ask-second.ensures.step c.ask-third.ensures.step in
    let is : Err c.ask_in_vain-again.result ≡ Err (slot_taken 0) = answer 4 _ _ _ w4 c.ask_in_vain-again.ensures in
    let again : c.ask_in_vain-again.result ≡ slot_taken 0 = cc in
    let early = c.first_reads-early.ensures.answers in
    rw (again, early.0, early.1, c.third_reads-third.ensures.answers) refl
