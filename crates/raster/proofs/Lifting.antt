-- What is committed at one node is what is committed in the world.
use Rattle.std.proofs.Common.{◌≡◌, ℕ, Ok, Err, Some, None, Option, Result, refl, ap, ◌∙◌}
use Rattle.bridge.specs.declared.state.Bridge.{Bridge}
use Rattle.bridge.specs.declared.fault.DeviceFault.{DeviceFault}
use Rattle.coherence.specs.Steps.{Answer, committed, fits, by_first, by_second, wished, ruled, settled}
use Rattle.coherence.specs.declared.call.Call.TheVariants.{Act, Deliver}
use Rattle.coherence.specs.declared.fault.Fault.{Fault}
use Rattle.device.specs.Meaning.{Meaning}
use Rattle.coherence.specs.Worlds.{World, with_first, with_second}
use Rattle.message.specs.declared.reaction.Reaction.{Reaction}
use Rattle.std.specs.Option.{option_map}
use Rattle.raster.specs.Commits.{bridge_committed, by_wish, by_rule}
use Rattle.raster.specs.Lists.{Lists, left}

-- A world's lists, and a world with other ones.
abbrev world_lists : {A B : Type 0} → World A B → Lists
world_lists w = record { messages = w.messages; trail = w.trail; message_room = w.message_room; trail_room = w.trail_room }

abbrev with_both : {A B : Type 0} → World A B → Lists → World A B
with_both w l = record w { messages = l.messages; trail = l.trail; message_room = l.message_room; trail_room = l.trail_room }

-- A function of what is done, or of the fault.
through : {X Y : Type 0} (F : X → Y) (t : Result (Unit {0}) Fault) (done : X) (undone : Fault → X)
    → F (elim t [ Ok u ↦ done | Err f ↦ undone f ]) ≡ elim t [ Ok u ↦ F done | Err f ↦ F (undone f) ]
through F (Ok u) done undone = refl
through F (Err f) done undone = refl

module _ {A B : Type 0} (w : World A B) (taken : Option ℕ) where
  abbrev at_first : Answer × Bridge A ℕ × Lists → Answer × World A B
  at_first o = (o.0, with_both (with_first w o.1) o.2)

  abbrev at_second : Answer × Bridge B ℕ × Lists → Answer × World A B
  at_second o = (o.0, with_both (with_second w o.1) o.2)

  first_lifts : (x : Reaction (Bridge A ℕ))
      → at_first (bridge_committed 0 w.first (Ok x) taken (world_lists w)) ≡ committed w (left w.messages taken) (by_first w x)
  first_lifts x = through at_first (fits w (left w.messages taken) (by_first w x)) _ _

  second_lifts : (x : Reaction (Bridge B ℕ))
      → at_second (bridge_committed 1 w.second (Ok x) taken (world_lists w)) ≡ committed w (left w.messages taken) (by_second w x)
  second_lifts x = through at_second (fits w (left w.messages taken) (by_second w x)) _ _

-- So what is done at one bridge is what a step does: at its device's wish, and at a message.
module _ {A B : Type 0} (ma : Meaning A) (mb : Meaning B) (w : World A B) where
  pub first_wish : (d : ℕ) (r : Result (Reaction (Bridge A ℕ)) DeviceFault) (o : Answer × Bridge A ℕ × Lists)
      → o ≡ bridge_committed 0 w.first (by_wish r) None (world_lists w) → at_first w None o ≡ settled ma mb (Act d) w (wished (by_first w) r)
  first_wish d (Ok x) o is = ap (at_first w None) is ∙ first_lifts w None x
  first_wish d (Err f) o is = ap (at_first w None) is

  pub second_wish : (d : ℕ) (r : Result (Reaction (Bridge B ℕ)) DeviceFault) (o : Answer × Bridge B ℕ × Lists)
      → o ≡ bridge_committed 1 w.second (by_wish r) None (world_lists w) → at_second w None o ≡ settled ma mb (Act d) w (wished (by_second w) r)
  second_wish d (Ok x) o is = ap (at_second w None) is ∙ second_lifts w None x
  second_wish d (Err f) o is = ap (at_second w None) is

  pub first_rule : (i : ℕ) (r : Option (Reaction (Bridge A ℕ))) (o : Answer × Bridge A ℕ × Lists)
      → o ≡ bridge_committed 0 w.first (by_rule i r) (Some i) (world_lists w)
      → at_first w (Some i) o ≡ settled ma mb (Deliver i) w (ruled ma mb w i (option_map (by_first w) r))
  first_rule i (Some x) o is = ap (at_first w (Some i)) is ∙ first_lifts w (Some i) x
  first_rule i None o is = ap (at_first w (Some i)) is

  pub second_rule : (i : ℕ) (r : Option (Reaction (Bridge B ℕ))) (o : Answer × Bridge B ℕ × Lists)
      → o ≡ bridge_committed 1 w.second (by_rule i r) (Some i) (world_lists w)
      → at_second w (Some i) o ≡ settled ma mb (Deliver i) w (ruled ma mb w i (option_map (by_second w) r))
  second_rule i (Some x) o is = ap (at_second w (Some i)) is ∙ second_lifts w (Some i) x
  second_rule i None o is = ap (at_second w (Some i)) is
