-- Whole sweeps: which wish a device has once so many were accepted, whatever else was done to it meanwhile.
use Rattle.std.specs.Prelude.{◌≡◌, ℕ, ◌+◌, ◌%◌, ◌^◌, if◌then◌else◌, List, Some, None, Option, ◌==◌, ◌≢◌, nat_lt}
use Rattle.std.specs.List.{AllByRecursion}
use Rattle.device.specs.declared.meaning.Wish.{Wish}
use Rattle.device.specs.Events.{Event, writes, after, accepted_in}
use Rattle.device.specs.Meaning.{Meaning}
use Rattle.device.specs.Windows.{window, window_meaning}
use Rattle.sweepers.specs.Plates.{PlateSetter, fetching, plate_meaning}
use Rattle.sweepers.specs.Scanners.{Scanner, storing, scanner_meaning}
use Rattle.sweepers.specs.Tasks.{Task, first_block, block_count, last_wish}

-- Of n blocks from f, once k wishes were accepted: block f + k while k is below n, then the interrupt, then none.
abbrev pub due : Task → ℕ → ℕ → ℕ → List ℕ → Option Wish
due t f n k ws =
    if nat_lt k n then Some (t.each ws ((f + k) % 2 ^ 32))
    else if k == n then Some (last_wish t ws)
    else None

-- A call that leaves the word at this place.
abbrev pub Leaves : ℕ → Event → Type 0
Leaves c (writes p v) = p ≢ c
Leaves c _ = Unit {0}

-- The state once the command v was written and then these calls were made.
abbrev pub after_command : {S : Type 0} → Meaning S → Task → S → ℕ → List Event → S
after_command m t s v es = after m (m.writing s t.command v) es

-- Command 1 takes over first block and count, and the wishes then come in turn, whatever is read, lands or is
-- written to other words meanwhile; after any other command there are none. `at` gives the states that are meant.
pub record Sweeps {P S : Type 0} (m : Meaning S) (at : P → S) (t : Task) : Type 0 where
  pub in_turn : (p : P) (es : List Event) → AllByRecursion (Leaves t.command) es →
      m.wish (after_command m t (at p) 1 es)
      ≡ due t (first_block t (m.words (at p))) (block_count t (m.words (at p))) (accepted_in es)
      (m.words (after_command m t (at p) 1 es))
  pub stopped : (p : P) (v : ℕ) → (v ≢ 1) → (es : List Event) → AllByRecursion (Leaves t.command) es →
      m.wish (after_command m t (at p) v es) ≡ None

abbrev pub PlateSetterSweeps : Type 0
PlateSetterSweeps = Sweeps {P = PlateSetter} plate_meaning (λ s. s) (fetching 4)

abbrev pub ScannerSweeps : Type 0
ScannerSweeps = Sweeps {P = Scanner} scanner_meaning (λ s. s) storing

-- Behind a window of 8 words from word 4 the command is word 0.
abbrev pub WindowedPlateSetterSweeps : Type 0
WindowedPlateSetterSweeps =
    Sweeps {P = PlateSetter} (window_meaning plate_meaning) (λ s. window s 4 8) (fetching 0)
