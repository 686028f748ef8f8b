-- What every step keeps: a refused call leaves the world, and an accepted one commits an effect whole.
use Rattle.std.proofs.Common.{arith}
use Rattle.std.proofs.lemmas.Bool.Decides.{nat_tests}
use Rattle.std.proofs.Common.{◌≡◌, ℕ, true, List, ◌++◌, Ok, Err, Result, refl}
use Rattle.device.specs.Meaning.{Meaning}
use Rattle.message.specs.Reactions.{sent}
use Rattle.message.specs.declared.message.Message.{Message}
use Rattle.std.specs.Option.{option_to_list}
use Rattle.coherence.proofs.Arising.{passed_check}
use Rattle.coherence.specs.Steps.{Effect, Answer, check, committed, effect, waiting, settled, step}
use Rattle.coherence.specs.Worlds.{World, with_lists}
use Rattle.coherence.specs.declared.call.Call.{Call}
use Rattle.coherence.specs.declared.fault.BoardFault.TheVariants.{NotFit}
use Rattle.coherence.specs.declared.fault.Fault.{Fault}
use Rattle.coherence.specs.declared.fault.Fault.TheVariants.{Board}

module _ {A B : Type 0} where
  -- the world once an effect is committed, w being the world before and ms what still waits
  abbrev pub after : World A B → List (Message ℕ) → Effect A B → World A B
  after w ms e = with_lists e.next (ms ++ sent e.sent) (w.trail ++ option_to_list e.entry)

  -- what holds of every refusal, and of the effect's answer and world where its numbers are within their end
  commits : (P : Answer × World A B → Type 0) (w : World A B) (ms : List (Message ℕ)) (e : Effect A B)
      → ((f : Fault) → P (Err f, w)) → (e.within ≡ true → P (Ok e.answer, after w ms e)) → P (committed w ms e)
  commits P w ms e old new = grind (arith, nat_tests)

module _ {A B : Type 0} (ma : Meaning A) (mb : Meaning B) where
  -- what holds of every refusal, and after every effect of a board within its figures, holds after the step
  pub settles : (P : Answer × World A B → Type 0) (c : Call) (w : World A B) → ((f : Fault) → P (Err f, w))
      → ((e : Effect A B) → w.fit ≡ true → effect ma mb c w ≡ Ok e → e.within ≡ true
      → P (Ok e.answer, after w (waiting ma mb c w) e))
      → P (step ma mb c w)
  settles P c w old new = go (check w.fit (Board NotFit) (effect ma mb c w)) refl
    where
      go : (r : Result (Effect A B) Fault) → check w.fit (Board NotFit) (effect ma mb c w) ≡ r → P (settled ma mb c w r)
      go (Err f) is = old f
      go (Ok e) is =
          let h = passed_check w.fit (Board NotFit) (effect ma mb c w) e is in
          commits P w (waiting ma mb c w) e old (new e h.0 h.1)

  -- the same of worlds, where what holds of the one before holds after a refusal
  pub steps : (P : World A B → Type 0) (c : Call) (w : World A B) → P w
      → ((e : Effect A B) → w.fit ≡ true → effect ma mb c w ≡ Ok e → e.within ≡ true
      → P (after w (waiting ma mb c w) e))
      → P (step ma mb c w).1
  steps P c w old = settles (λ o. P o.1) c w (λ _. old)
