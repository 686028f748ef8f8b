-- A call that is a step goes on with every run that its world was reached in.
use Rattle.std.proofs.Common.{◌≡◌, ℕ, List, [], ◌∷◌, ◌++◌, refl, ap, ◌∙◌, sym}
use Rattle.coherence.proofs.OrderPromise.{order_promise}
use Rattle.coherence.specs.Histories.{History, answered, called_on, after_calls, began, run}
use Rattle.coherence.specs.Steps.{Answer, step}
use Rattle.coherence.specs.Worlds.{World}
use Rattle.coherence.specs.declared.call.Call.{Call}
use Rattle.device.specs.Meaning.{Meaning, Laws}
use Rattle.device.specs.declared.meaning.Device.{Ghosts}
use Rattle.list.specs.declared.storage.List.{List as Records}
use Rattle.message.specs.declared.message.Message.{Message}
use Rattle.trail.specs.declared.entry.Entry.{Entry}
use Rattle.raster.specs.Calls.{Stepped, Did}
use Rattle.raster.specs.Runs.{GoesOn}
use Rattle.raster.specs.declared.board.Board.{Board}

module _ {A B : Type 0} (ma : Meaning A) (mb : Meaning B) where
  calls_push : (h : History A B) (cs : List Call) (c : Call) → after_calls ma mb h (cs ++ c ∷ []) ≡ called_on ma mb c (after_calls ma mb h cs)
  calls_push h [] c = refl
  calls_push h (d ∷ cs) c = calls_push (called_on ma mb d h) cs c

  pub goes_on : Laws ma → Laws mb → (c : Call) (w : World A B) (o : Answer × World A B) → o ≡ step ma mb c w → GoesOn ma mb c w o
  unfolding GoesOn
  goes_on la lb c w o is k cs at = (
    calls_push (began ma mb k) cs c
        ∙ ap (λ (p : Answer × World A B). answered ma mb c (run ma mb k cs) p.0 p.1) (ap (step ma mb c) at ∙ sym is),
    order_promise ma mb la lb k (cs ++ c ∷ []),
  )

pub did : {A B : Type 0} (a : Ghosts A) (b : Ghosts B) → Laws a.meaning → Laws b.meaning
    → (x : Board A B) (ms : Records (Message ℕ)) (es : Records Entry) (c : Call) (r : Answer)
    → (x₁ : Board A B) (ms₁ : Records (Message ℕ)) (es₁ : Records Entry) → Stepped a b x ms es c r x₁ ms₁ es₁ → Did a b x ms es c r x₁ ms₁ es₁
did a b la lb x ms es c r x₁ ms₁ es₁ is = record { step = is; run = goes_on a.meaning b.meaning la lb c _ _ is }
