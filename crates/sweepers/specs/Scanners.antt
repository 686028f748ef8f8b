-- The scanner's meaning. Its words: command, first block, count, processor, first word of the row.
use Rattle.std.specs.Prelude.{ℕ, ◌+◌, ◌%◌, ◌^◌, List, [], ◌∷◌, slice_index}
use Rattle.ordering.specs.declared.operation.Operation.TheVariants.{StBlk}
use Rattle.ordering.specs.declared.operation.Words.{Words}
use Rattle.device.specs.declared.meaning.Wish.{Wish}
use Rattle.device.specs.Meaning.{Meaning}
use Rattle.device.specs.Wishes.{block_wish}
use Rattle.sweepers.specs.declared.scanner.Storing.{Storing}
use Rattle.sweepers.specs.declared.sweeper.Sweeper.{Sweeper}
use Rattle.sweepers.specs.Sweepers.{blank, sweeper_meaning}
use Rattle.sweepers.specs.Tasks.{Task, task}

abbrev pub Scanner : Type 0
Scanner = Sweeper Storing 8

abbrev pub blank_scanner : Scanner
blank_scanner = blank 8

abbrev pub row_from : ℕ → Words
row_from w = record { at = w ∷ ((w + 1) % 2 ^ 32) ∷ ((w + 2) % 2 ^ 32) ∷ ((w + 3) % 2 ^ 32) ∷ [] }

-- The row is stored to each block, and then the processor interrupted with value 2.
abbrev pub stored : List ℕ → ℕ → Wish
stored ws b = block_wish StBlk b (row_from (slice_index ws 4))

abbrev pub storing : Task
storing = task 0 stored 2

abbrev pub scanner_meaning : Meaning Scanner
scanner_meaning = sweeper_meaning storing
