-- One call more: the world and the answers after it.
use Rattle.std.proofs.Common.{◌≡◌, ℕ, suc, ◌+◌, ◌<◌, List, [], ◌∷◌, ◌++◌, length, get_or, take, set, sym, refl, ap, ◌∙◌, arith}
use Rattle.coherence.proofs.OrderPromise.{order_promise}
use Rattle.coherence.proofs.Running.{answered_world}
use Rattle.coherence.specs.Histories.{History, called_on, after_calls, began, run}
use Rattle.coherence.specs.Makings.{Making, make}
use Rattle.coherence.specs.Steps.{Answer, step}
use Rattle.coherence.specs.Worlds.{World}
use Rattle.coherence.specs.declared.call.Call.{Call}
use Rattle.coherence.specs.declared.call.Call.TheVariants.{Load}
use Rattle.device.specs.Meaning.{Meaning, Laws}
use Rattle.std.proofs.lemmas.List.{length-take-le, take_more}
use Rattle.raster.specs.Runs.{world_after, answers_of, overlaid, CallsComeTo, RunComesTo}

pub overlaid_none : {X : Type 0} (xs : List X) → overlaid xs [] ≡ xs
overlaid_none [] = refl
overlaid_none (x ∷ xs) = refl

-- one more over the beginning is a write behind what is there
overlaid_more : {X : Type 0} (xs ys : List X) (y : X) → overlaid xs (ys ++ y ∷ []) ≡ set (overlaid xs ys) (length ys) y
overlaid_more [] ys y = refl
overlaid_more (x ∷ xs) [] y = ap (λ (zs : List _). y ∷ zs) (overlaid_none xs)
overlaid_more (x ∷ xs) (z ∷ ys) y = ap (λ (zs : List _). z ∷ zs) (overlaid_more xs ys y)

module _ {A B : Type 0} (ma : Meaning A) (mb : Meaning B) where
  world_push : (w : World A B) (cs : List Call) (c : Call) → world_after ma mb w (cs ++ c ∷ []) ≡ (step ma mb c (world_after ma mb w cs)).1
  world_push w [] c = refl
  world_push w (d ∷ cs) c = world_push (step ma mb d w).1 cs c

  answers_push : (w : World A B) (cs : List Call) (c : Call)
      → answers_of ma mb w (cs ++ c ∷ []) ≡ answers_of ma mb w cs ++ (step ma mb c (world_after ma mb w cs)).0 ∷ []
  answers_push w [] c = refl
  answers_push w (d ∷ cs) c = ap (λ (tail : List Answer). (step ma mb d w).0 ∷ tail) (answers_push (step ma mb d w).1 cs c)

  as_many : (w : World A B) (cs : List Call) → length (answers_of ma mb w cs) ≡ length cs
  as_many w [] = refl
  as_many w (c ∷ cs) = ap suc (as_many (step ma mb c w).1 cs)

  pub world_more : (w : World A B) (cs : List Call) (i : ℕ) (d : Call) → i < length cs
      → (step ma mb (get_or cs i d) (world_after ma mb w (take i cs))).1 ≡ world_after ma mb w (take (i + 1) cs)
  world_more w cs i d h = sym (ap (world_after ma mb w) (take_more cs i d h) ∙ world_push w (take i cs) (get_or cs i d))

  answers_more : (w : World A B) (cs : List Call) (i : ℕ) (d : Call) (was : List Answer) → i < length cs
      → set (overlaid was (answers_of ma mb w (take i cs))) i (step ma mb (get_or cs i d) (world_after ma mb w (take i cs))).0
      ≡ overlaid was (answers_of ma mb w (take (i + 1) cs))
  answers_more w cs i d was h =
      let now = answers_of ma mb w (take i cs) in
      let new = (step ma mb (get_or cs i d) (world_after ma mb w (take i cs))).0 in
      let long : length now ≡ i = as_many w (take i cs) ∙ length-take-le i cs (omega arith) in
      let more = ap (answers_of ma mb w) (take_more cs i d h) ∙ answers_push w (take i cs) (get_or cs i d) in
      sym (ap (overlaid was) more ∙ overlaid_more was now new ∙ ap (λ (n : ℕ). set (overlaid was now) n new) long)

  -- a call made on the world so far, and its answer written behind those so far
  pub turned : (start : World A B) (cs : List Call) (i : ℕ) (was so_far : List Answer) (w v : World A B) (r : Answer) → i < length cs
      → CallsComeTo ma mb start (take i cs) was so_far w → (r, v) ≡ step ma mb (get_or cs i (Load 0 0)) w
      → CallsComeTo ma mb start (take (i + 1) cs) was (set so_far i r) v
  turned start cs i was so_far w v r h before made =
      let made_at = made ∙ ap (λ (x : World A B). step ma mb (get_or cs i (Load 0 0)) x) before.world in
      record {
        world = ap (λ (o : Answer × World A B). o.1) made_at ∙ world_more start cs i (Load 0 0) h;
        answers =
            ap (λ (xs : List Answer). set xs i r) before.answers
            ∙ ap (λ (o : Answer × World A B). set (overlaid was (answers_of ma mb start (take i cs))) i o.0) made_at
            ∙ answers_more start cs i (Load 0 0) was h;
      }

  pub none_called : (w : World A B) (was : List Answer) → CallsComeTo ma mb w [] was was w
  none_called w was = record { world = refl; answers = sym (overlaid_none was) }

  after_world : (h : History A B) (cs : List Call) → (after_calls ma mb h cs).world ≡ world_after ma mb h.world cs
  after_world h [] = refl
  after_world h (c ∷ cs) =
      let o = step ma mb c h.world in
      after_world (called_on ma mb c h) cs ∙ ap (λ (w : World A B). world_after ma mb w cs) (answered_world ma mb c h o.0 o.1)

  -- the world of a run's history
  pub run_world : (k : Making A B) (cs : List Call) → (run ma mb k cs).world ≡ world_after ma mb (make ma mb k) cs
  run_world k cs = after_world (began ma mb k) cs

  -- A making and then calls, with the run's promise.
  pub ran : Laws ma → Laws mb → (k : Making A B) (cs : List Call) (before now : List Answer) (w v : World A B) → w ≡ make ma mb k
      → CallsComeTo ma mb w cs before now v → RunComesTo ma mb k cs before now v
  ran la lb k cs before now w v made called = record {
    calls = rw (sym made) called;
    history = run_world k cs;
    promise = order_promise ma mb la lb k cs;
  }
