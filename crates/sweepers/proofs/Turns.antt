-- A device that follows a sweep has the wishes of the sweep, each in its turn.
use Rattle.std.proofs.Common.{◌≡◌, ℕ, zero, suc, ◌+◌, ◌≤◌, ltb, List, [], ◌∷◌, length, Some, None, Option, refl, ap, ◌∙◌, arith}
use Rattle.std.proofs.lemmas.Bool.{cond_both, ltb-true, ltb-false, ne_eqb}
use Rattle.std.proofs.lemmas.Bool.Decides.{nat_tests}
use Rattle.std.specs.List.{AllByRecursion as All}
use Rattle.ordering.specs.declared.operation.Words.{Words}
use Rattle.device.specs.declared.meaning.Wish.{Wish}
use Rattle.device.specs.Events.{Event, reads, writes, accepts, lands, follow, after, accepted_in}
use Rattle.device.specs.Meaning.{Meaning}
use Rattle.sweepers.specs.declared.sweep.Sweep.{Sweep}
use Rattle.sweepers.specs.Courses.{due, Leaves, after_command, Sweeps}
use Rattle.sweepers.specs.Tasks.{Task, first_block, block_count, last_wish}
use Rattle.sweepers.specs.Sweeps.{sweep, commanded, went_on, wished}

-- A sweep by itself.
abbrev steps : ℕ → Option Sweep → Option Sweep
steps zero x = x
steps (suc k) x = steps k (went_on x)

rests : (k : ℕ) → steps k None ≡ None
rests zero = refl
rests (suc k) = rests k

-- What a task wishes for at a sweep, with these words.
abbrev pub wish_at : Task → List ℕ → Option Sweep → Option Wish
wish_at t ws x = wished (t.each ws) (last_wish t ws) x

module _ (t : Task) (ws : List ℕ) (f n : ℕ) where
  at_once : (j i : ℕ) → i ≡ j → j ≤ n → wish_at t ws (Some (sweep f n j)) ≡ due t f n i ws
  at_once j i e h = rw e (grind (arith, nat_tests))

  past : (i : ℕ) → n + 1 ≤ i → None ≡ due t f n i ws
  past i h = grind (arith, nat_tests)

  pub turn : (k j i : ℕ) → i ≡ j + k → j ≤ n → wish_at t ws (steps k (Some (sweep f n j))) ≡ due t f n i ws
  turn zero j i e h = at_once j i (omega arith) h
  turn (suc k) j i e h =
      cond_both (ltb j n) (Some (sweep f n (j + 1))) None (λ (x : Option Sweep). wish_at t ws (steps k x) ≡ due t f n i ws)
      (λ below. turn k (j + 1) i (omega arith) (omega (arith, ltb-true j n below)))
      (λ there. ap (wish_at t ws) (rests k) ∙ past i (omega (arith, ltb-false j n there)))

-- A device that follows a sweep: `At x s` says that the state s is at the sweep x.
pub record Follows {P S : Type 0} (m : Meaning S) (at : P → S) (t : Task) (At : Option Sweep → S → Type 0) : Type 0 where
  pub starts : (p : P) (v : ℕ) →
      At (commanded v (first_block t (m.words (at p))) (block_count t (m.words (at p)))) (m.writing (at p) t.command v)
  pub reading : (x : Option Sweep) (s : S) (p : ℕ) → At x s → At x (m.reading s p)
  pub writing : (x : Option Sweep) (s : S) (p v : ℕ) → (p ≡ t.command → ⊥) → At x s → At x (m.writing s p v)
  pub accepted : (x : Option Sweep) (s : S) (w : ℕ) → At x s → At (went_on x) (m.accepted s w)
  pub landed : (x : Option Sweep) (s : S) (b : ℕ) (ws : Words) → At x s → At x (m.landed s b ws)
  pub wish : (x : Option Sweep) (s : S) → At x s → m.wish s ≡ wish_at t (m.words s) x

module _ {P S : Type 0} (m : Meaning S) (at : P → S) (t : Task) (At : Option Sweep → S → Type 0) (f : Follows m at t At) where
  run : (es : List Event) (x : Option Sweep) (s : S) → All (Leaves t.command) es → At x s →
      At (steps (accepted_in es) x) (after m s es)
  run [] x s a h = h
  run (reads p ∷ es) x s a h =
      run es x (follow m s (reads p)) a.1
      (cond_both (ltb p (length (m.words s))) (m.reading s p) s (At x)
      (λ _. f.reading x s p h)
      (λ _. h))
  run (writes p v ∷ es) x s a h =
      run es x (follow m s (writes p v)) a.1
      (cond_both (ltb p (length (m.words s))) (m.writing s p v) s (At x)
      (λ _. f.writing x s p v a.0 h)
      (λ _. h))
  run (accepts w ∷ es) x s a h = run es (went_on x) (m.accepted s w) a.1 (f.accepted x s w h)
  run (lands b ws ∷ es) x s a h = run es x (m.landed s b ws) a.1 (f.landed x s b ws h)

  idle_at : (p : P) (v : ℕ) → (v ≡ 1 → ⊥) → At None (m.writing (at p) t.command v)
  idle_at p v other = rw (ne_eqb v 1 other) at (f.starts p v)

  pub sweeps : Sweeps m at t
  sweeps = record {
    in_turn = λ p es a.
        let k = accepted_in es in
        let start = m.words (at p) in
        let ws = m.words (after_command m t (at p) 1 es) in
        f.wish _ _ (run es _ (m.writing (at p) t.command 1) a (f.starts p 1))
        ∙ turn t ws (first_block t start) (block_count t start) k 0 k (omega arith) (omega arith);
    stopped = λ p v other es a.
        f.wish _ _ (run es None (m.writing (at p) t.command v) a (idle_at p v other))
        ∙ ap (wish_at t (m.words (after_command m t (at p) v es))) (rests (accepted_in es));
  }
