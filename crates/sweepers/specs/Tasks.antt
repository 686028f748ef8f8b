-- What a device does at a sweep: a wish for each block, and an interrupt with a value. The words that tell it
-- stand from the command's place: command, first block, count, processor.
use Rattle.std.specs.Prelude.{ℕ, ◌+◌, List, slice_index}
use Rattle.device.specs.declared.meaning.Wish.{Wish}
use Rattle.device.specs.Wishes.{interrupt_wish}

pub record Task : Type 0 where
  pub command : ℕ
  pub each : List ℕ → ℕ → Wish
  pub value : ℕ

abbrev pub task : ℕ → (List ℕ → ℕ → Wish) → ℕ → Task
task c each v = record { command = c; each = each; value = v }

abbrev pub first_block : Task → List ℕ → ℕ
first_block t ws = slice_index ws (t.command + 1)

abbrev pub block_count : Task → List ℕ → ℕ
block_count t ws = slice_index ws (t.command + 2)

-- The interrupt, to the processor that the words name when it is wished for.
abbrev pub last_wish : Task → List ℕ → Wish
last_wish t ws = interrupt_wish (slice_index ws (t.command + 3)) t.value
