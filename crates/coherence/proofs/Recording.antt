-- What every call keeps of a history: a refused call leaves it, and an accepted one adds what it issued and told.
use Rattle.std.proofs.Common.{◌≡◌, true, List, [], ◌∷◌, ◌++◌, Ok}
use Rattle.device.specs.Meaning.{Meaning}
use Rattle.std.specs.Option.{option_to_list}
use Rattle.coherence.proofs.Stepping.{after, settles}
use Rattle.coherence.specs.Histories.{History, issues, told_number, tells, answered, called_on, after_calls}
use Rattle.coherence.specs.Steps.{Effect, effect, waiting}
use Rattle.coherence.specs.declared.call.Call.{Call}

module _ {A B : Type 0} (ma : Meaning A) (mb : Meaning B) where
  -- the history once the effect of a call is committed
  abbrev pub grown : Call → History A B → Effect A B → History A B
  grown c h e = record {
    world = after h.world (waiting ma mb c h.world) e;
    issued = h.issued ++ option_to_list (issues ma mb c h.world);
    told = h.told ++ tells ma mb (told_number ma mb c h) e.answer;
  }

  -- what holds of the history before, and after every effect of a board within its figures, holds after the call
  pub records : (P : History A B → Type 0) (c : Call) (h : History A B) → P h
      → ((e : Effect A B) → h.world.fit ≡ true → effect ma mb c h.world ≡ Ok e → e.within ≡ true → P (grown c h e))
      → P (called_on ma mb c h)
  records P c h old = settles ma mb (λ o. P (answered ma mb c h o.0 o.1)) c h.world (λ _. old)

  pub over_histories : (P : History A B → Type 0) → ((c : Call) (h : History A B) → P h → P (called_on ma mb c h))
      → (h : History A B) (calls : List Call) → P h → P (after_calls ma mb h calls)
  over_histories P keeps h [] p = p
  over_histories P keeps h (c ∷ cs) p = over_histories P keeps (called_on ma mb c h) cs (keeps c h p)
