-- Sweeps of both devices, by the places of their words, wish by wish.
use Rattle.std.specs.Prelude.{◌≡◌, ℕ, List, [], ◌∷◌, Some, None, Option}
use Rattle.ordering.specs.Words.{no_words}
use Rattle.ordering.specs.declared.operation.Operation.TheVariants.{LdBlk, StBlk}
use Rattle.device.specs.Events.{Event, writes, accepts, after}
use Rattle.device.specs.Wishes.{block_wish, interrupt_wish}
use Rattle.device.specs.declared.meaning.Wish.{Wish}
use Rattle.sweepers.specs.Plates.{plate_meaning, blank_plate}
use Rattle.sweepers.specs.Scanners.{scanner_meaning, blank_scanner}

-- One block from block 3, then processor 2: words 5, 6 and 7, and the command in word 4.
abbrev plate_at : List Event → Option Wish
plate_at es =
    plate_meaning.wish (after plate_meaning blank_plate (writes 5 3 ∷ writes 6 1 ∷ writes 7 2 ∷ writes 4 1 ∷ es))

-- Two blocks from block 5, then processor 1: words 1, 2 and 3, the row from word 4, and the command in word 0.
abbrev scanner_at : List Event → Option Wish
scanner_at es =
    let done = writes 1 5 ∷ writes 2 2 ∷ writes 3 1 ∷ writes 4 9 ∷ writes 0 1 ∷ es in
    scanner_meaning.wish (after scanner_meaning blank_scanner done)

-- A processor is interrupted with a value.
abbrev interrupts : ℕ → ℕ → Option Wish
interrupts p v = Some (interrupt_wish p v)

pub record WorkedSweeps : Type 0 where
  pub fetches : plate_at [] ≡ Some (block_wish LdBlk 3 no_words)
  pub reports_fetching : plate_at (accepts 0 ∷ []) ≡ interrupts 2 1
  pub fetched_all : plate_at (accepts 0 ∷ accepts 0 ∷ []) ≡ None
  pub stores : scanner_at [] ≡ Some (block_wish StBlk 5 (record { at = 9 ∷ 10 ∷ 11 ∷ 12 ∷ [] }))
  pub stores_the_next : scanner_at (accepts 0 ∷ []) ≡ Some (block_wish StBlk 6 (record { at = 9 ∷ 10 ∷ 11 ∷ 12 ∷ [] }))
  pub reports_storing : scanner_at (accepts 0 ∷ accepts 0 ∷ []) ≡ interrupts 1 2
  pub stored_all : scanner_at (accepts 0 ∷ accepts 0 ∷ accepts 0 ∷ []) ≡ None
