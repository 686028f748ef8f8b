-- Sweeping devices, and the plate setter behind its window, follow their sweep.
use Rattle.std.proofs.Common.{◌≡◌, ℕ, ◌+◌, ◌<◌, false, eqb, List, Some, None, Option, get_or, drop, refl, ap, ◌∙◌, arith, get_or-drop, get_or-take}
use Rattle.std.proofs.lemmas.Bool.{eq-eqb, ne_eqb}
use Rattle.device.specs.declared.window.Window.{Window}
use Rattle.device.specs.Windows.{window, over, window_words, window_meaning, shown, moved, moved_wish}
use Rattle.sweepers.specs.declared.sweep.Stage.{Stage}
use Rattle.sweepers.specs.declared.sweep.Stage.TheVariants.{Block, Interrupt}
use Rattle.sweepers.specs.declared.sweep.Sweep.{Sweep}
use Rattle.sweepers.specs.declared.sweeper.Sweeper.{Sweeper}
use Rattle.sweepers.specs.Courses.{Sweeps, WindowedPlateSetterSweeps}
use Rattle.sweepers.specs.Plates.{PlateSetter, fetching, plate_meaning}
use Rattle.sweepers.specs.Sweepers.{sweeper_meaning}
use Rattle.sweepers.specs.Sweeps.{commanded, went_on, stage_of, wished_at}
use Rattle.sweepers.specs.Tasks.{Task, last_wish}
use Rattle.sweepers.proofs.Turns.{sweeps, wish_at}

-- A sweeping device is at the sweep that it holds.
abbrev sweeper_at : {J : Type 0} {n : ℕ} → Option Sweep → Sweeper J n → Type 0
sweeper_at x s = s.sweep ≡ x

pub sweeper_sweeps : {J : Type 0} {n : ℕ} (t : Task) → Sweeps (sweeper_meaning {J = J} {n = n} t) (λ s. s) t
sweeper_sweeps t = sweeps (sweeper_meaning t) (λ s. s) t sweeper_at (record {
  starts = λ s v. rw (eq-eqb t.command t.command refl);
  reading = λ x s p h. h;
  writing = λ x s p v other h. rw (ne_eqb p t.command other) h;
  accepted = λ x s w h. ap went_on h;
  landed = λ x s b ws h. h;
  wish = λ x s h. ap (wish_at t s.words.at) h;
})

-- The window shows word 4 + p at p, and hands on the wishes of a sweep.
seen : (ws : List ℕ) (p q : ℕ) → p < 8 → q ≡ 4 + p → get_or ws q 0 ≡ get_or (shown 4 8 ws) p 0
seen ws p q h e = rw (e, get_or-take 8 (drop 4 ws) p 0 h, get_or-drop 4 ws p 0)

handed_at : (first count : ℕ) (ws vs : List ℕ) → get_or ws 7 0 ≡ get_or vs 3 0 → (y : Stage) →
    moved first count (wished_at ((fetching 4).each ws) (last_wish (fetching 4) ws) y)
    ≡ wished_at ((fetching 0).each vs) (last_wish (fetching 0) vs) y
handed_at first count ws vs e (Block _) = refl
handed_at first count ws vs e Interrupt = rw e

handed_on : (first count : ℕ) (ws vs : List ℕ) → get_or ws 7 0 ≡ get_or vs 3 0 → (x : Option Sweep) →
    moved_wish first count (wish_at (fetching 4) ws x) ≡ wish_at (fetching 0) vs x
handed_on first count ws vs e None = refl
handed_on first count ws vs e (Some x) = ap Some (handed_at first count ws vs e (stage_of x))

record WindowAt (x : Option Sweep) (w : Window PlateSetter) : Type 0 where
  pub first_four : w.first ≡ 4
  pub size_eight : w.size ≡ 8
  pub below : w.device.sweep ≡ x

starts_behind : (s : PlateSetter) (v : ℕ) →
    (plate_meaning.writing s 4 v).sweep
    ≡ commanded v (get_or (shown 4 8 s.words.at) 1 0) (get_or (shown 4 8 s.words.at) 2 0)
starts_behind s v = rw (← seen s.words.at 1 5 (omega arith) refl, ← seen s.words.at 2 6 (omega arith) refl)

writes_behind : (x : Option Sweep) (w : Window PlateSetter) (p v : ℕ) → (p ≡ 0 → ⊥) → WindowAt x w →
    (plate_meaning.writing w.device (w.first + p) v).sweep ≡ x
writes_behind x w p v other h =
    let e = h.first_four in
    let apart : eqb (w.first + p) 4 ≡ false = ne_eqb (w.first + p) 4 (λ same. other (omega arith)) in
    rw apart h.below

wishes_behind : (x : Option Sweep) (w : Window PlateSetter) → WindowAt x w →
    (window_meaning plate_meaning).wish w ≡ wish_at (fetching 0) (window_words plate_meaning w) x
wishes_behind x w h =
    let ws = w.device.words.at in
    let vs = window_words plate_meaning w in
    let e : get_or ws 7 0 ≡ get_or vs 3 0 = rw (h.first_four, h.size_eight) (seen ws 3 7 (omega arith) refl) in
    handed_on w.first _ ws vs e w.device.sweep
    ∙ ap (wish_at (fetching 0) vs) h.below

kept : (x y : Option Sweep) (w : Window PlateSetter) (s : PlateSetter) → WindowAt x w → s.sweep ≡ y → WindowAt y (over w s)
kept x y w s h e = record { first_four = h.first_four; size_eight = h.size_eight; below = e }

pub windowed_plate_setter_sweeps : WindowedPlateSetterSweeps
windowed_plate_setter_sweeps = sweeps (window_meaning plate_meaning) (λ s. window s 4 8) (fetching 0) WindowAt (record {
  starts = λ s v. record { first_four = refl; size_eight = refl; below = starts_behind s v };
  reading = λ x w p h. kept x x w w.device h h.below;
  writing = λ x w p v other h. kept x x w _ h (writes_behind x w p v other h);
  accepted = λ x w v h. kept x (went_on x) w _ h (ap went_on h.below);
  landed = λ x w b ws h. kept x x w w.device h h.below;
  wish = wishes_behind;
})
