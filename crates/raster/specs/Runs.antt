-- Calls made in turn: the world that they lead to, and their answers.
use Rattle.std.specs.Prelude.{◌≡◌, List, [], ◌∷◌, ◌++◌}
use Rattle.coherence.specs.Histories.{run, answered}
use Rattle.coherence.specs.Makings.{Making, make}
use Rattle.coherence.specs.Promise.{OrderKept}
use Rattle.coherence.specs.Steps.{Answer, step}
use Rattle.coherence.specs.Worlds.{World}
use Rattle.coherence.specs.declared.call.Call.{Call}
use Rattle.device.specs.Meaning.{Meaning}

-- ys over the beginning of xs, as far as both go.
abbrev pub overlaid : {X : Type 0} → List X → List X → List X
overlaid [] ys = []
overlaid (x ∷ xs) [] = x ∷ xs
overlaid (x ∷ xs) (y ∷ ys) = y ∷ overlaid xs ys

module _ {A B : Type 0} (ma : Meaning A) (mb : Meaning B) where
  abbrev pub world_after : World A B → List Call → World A B
  world_after w [] = w
  world_after w (c ∷ cs) = world_after (step ma mb c w).1 cs

  abbrev pub answers_of : World A B → List Call → List Answer
  answers_of w [] = []
  answers_of w (c ∷ cs) = (step ma mb c w).0 ∷ answers_of (step ma mb c w).1 cs

  -- In whatever run the world w was reached, call c goes on with that run: o, its answer and the world after it, is
  -- what the history gets, and the order promise is kept. Kept shut, since a call's proof needs no more than its name.
  unfoldable pub GoesOn : Call → World A B → Answer × World A B → Type 0
  GoesOn c w o =
      (k : Making A B) (cs : List Call) → (run ma mb k cs).world ≡ w
      → (run ma mb k (cs ++ c ∷ []) ≡ answered ma mb c (run ma mb k cs) o.0 o.1)
      × OrderKept ma mb k (run ma mb k (cs ++ c ∷ []))

  -- From w the calls lead to v. As many answers are given as there are calls and places for them, over those before.
  pub record CallsComeTo (w : World A B) (cs : List Call) (before now : List Answer) (v : World A B) : Type 0 where
    pub world : v ≡ world_after w cs
    pub answers : now ≡ overlaid before (answers_of w cs)

  -- Made of k, and then called: the run's history has the world that the calls lead to, and keeps the order promise.
  pub record RunComesTo (k : Making A B) (cs : List Call) (before now : List Answer) (v : World A B) : Type 0 where
    pub calls : CallsComeTo (make ma mb k) cs before now v
    pub history : (run ma mb k cs).world ≡ world_after (make ma mb k) cs
    pub promise : OrderKept ma mb k (run ma mb k cs)
