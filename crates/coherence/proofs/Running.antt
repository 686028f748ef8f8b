-- What a run keeps: it holds at the making, and every call keeps it.
use Rattle.std.proofs.Common.{arith}
use Rattle.std.proofs.lemmas.Bool.Decides.{nat_tests}
use Rattle.std.proofs.Common.{◌≡◌, ℕ, List, [], ◌∷◌, Ok, Err, sym, refl, ◌∙◌, subst, length-set}
use Rattle.device.specs.Meaning.{Meaning}
use Rattle.message.specs.declared.message.Message.{Message}
use Rattle.std.specs.List.{AllByRecursion as All}
use Rattle.coherence.proofs.Arising.{Arises, at_processor, at_home, at_first, at_second}
use Rattle.coherence.proofs.Meeting.{meets, meets_arises}
use Rattle.coherence.proofs.Clocks.{Shape}
use Rattle.coherence.proofs.Dating.{Dated, dates, differs}
use Rattle.coherence.proofs.Rising.{Apart, unique_stamps}
use Rattle.coherence.proofs.Stepping.{after, steps}
use Rattle.coherence.proofs.Timing.{timely}
use Rattle.coherence.specs.Histories.{History, answered, called_on, after_calls, began, run}
use Rattle.coherence.specs.Makings.{Making, make}
use Rattle.coherence.specs.Promise.{OwnStamps}
use Rattle.coherence.specs.Steps.{Answer, Effect, waiting, step}
use Rattle.coherence.specs.Worlds.{World}
use Rattle.coherence.specs.declared.call.Call.{Call}

module _ {A B : Type 0} (ma : Meaning A) (mb : Meaning B) where
  -- a history's world is the one that the step led to, accepted or not
  pub answered_world : (c : Call) (h : History A B) (r : Answer) (w : World A B) → (answered ma mb c h r w).world ≡ w
  answered_world c h (Ok v) w = refl
  answered_world c h (Err f) w = refl

  pub over_calls : (P : World A B → Type 0) → ((c : Call) (w : World A B) → P w → P (step ma mb c w).1)
      → (h : History A B) (calls : List Call) → P h.world → P (after_calls ma mb h calls).world
  over_calls P keeps h [] p = p
  over_calls P keeps h (c ∷ cs) p =
      let o = step ma mb c h.world in
      over_calls P keeps (called_on ma mb c h) cs (subst P (sym (answered_world c h o.0 o.1)) (keeps c h.world p))

  -- nodes stay where they are
  pub shape_kept : (w : World A B) (ms : List (Message ℕ)) (e : Effect A B) → Shape w → Arises ma mb w e → Shape (after w ms e)
  shape_kept w ms e s (at_processor p small i r h is) =
      subst (λ (x : Effect A B). Shape (after w ms x)) (sym is) (record { processors = length-set w.processors p r.next ∙ s.processors; homes = s.homes; few = s.few })
  shape_kept w ms e s (at_home b small m r h is) =
      subst (λ (x : Effect A B). Shape (after w ms x)) (sym is) (record { processors = s.processors; homes = length-set w.homes b r.next ∙ s.homes; few = s.few })
  shape_kept w ms e s (at_first i r h is) =
      subst (λ (x : Effect A B). Shape (after w ms x)) (sym is) (record { processors = s.processors; homes = s.homes; few = s.few })
  shape_kept w ms e s (at_second i r h is) =
      subst (λ (x : Effect A B). Shape (after w ms x)) (sym is) (record { processors = s.processors; homes = s.homes; few = s.few })

  pub shape_made : (k : Making A B) → Shape (make ma mb k)
  shape_made k = grind (arith, nat_tests)

  -- Four processors and sixteen homes, a trail in the past of their clocks, and no stamp twice.
  pub record Timed (w : World A B) : Type 0 where
    pub shape : Shape w
    pub dated : All (Dated w) w.trail
    pub apart : Apart w.trail

  pub timed_kept : (c : Call) (w : World A B) → Timed w → Timed (step ma mb c w).1
  timed_kept c w t = steps ma mb Timed c w t (λ e fit is within.
      let a = meets_arises ma mb w (t.shape.few fit) c e (meets ma mb w c e is) in
      let time = timely w t.shape ma mb e a in
      record {
        shape = shape_kept w (waiting ma mb c w) e t.shape a;
        dated = dates w e time e.entry refl t.dated;
        apart = differs w e time e.entry refl t.dated t.apart;
      })

  pub timed_made : (k : Making A B) → Timed (make ma mb k)
  timed_made k = record { shape = shape_made k; dated = tt; apart = tt }

  pub timed : (k : Making A B) (calls : List Call) → Timed (run ma mb k calls).world
  timed k calls = over_calls Timed timed_kept (began ma mb k) calls (timed_made k)

  pub stamps_are_unique : (k : Making A B) (calls : List Call) → OwnStamps (run ma mb k calls).world.trail
  stamps_are_unique k calls = unique_stamps (run ma mb k calls).world.trail (timed k calls).apart
