-- Cache lines: a processor's copy of each block, and the words in it.
use Rattle.std.specs.Prelude.{ℕ, ◌/◌, ◌%◌, Some, None, Option, slice_index, slice_set}
use Rattle.message.specs.Tables.{at_place, with_at}
use Rattle.message.specs.declared.table.Table.{Table}
use Rattle.ordering.specs.declared.operation.Words.{Words}
use Rattle.processor.specs.declared.line.Line.{Line}
use Rattle.processor.specs.declared.line.Line.TheVariants.{Invalid, Shared, Exclusive}

-- By block.
abbrev pub Lines : Type 0
Lines = Table Line 16

-- A line past the last block is Invalid.
abbrev pub line_at : Lines → ℕ → Line
line_at ls b = at_place Invalid ls b

abbrev pub with_line : Lines → ℕ → Line → Lines
with_line ls b l = with_at ls b l

-- A held line, Shared or Exclusive, may be loaded from.
abbrev pub held_words : Line → Option Words
held_words Invalid = None
held_words (Shared ws) = Some ws
held_words (Exclusive ws) = Some ws

-- An owned line, Exclusive, may be stored to.
abbrev pub owned_words : Line → Option Words
owned_words (Exclusive ws) = Some ws
owned_words _ = None

-- Block b is the words 4 × b to 4 × b + 3 of memory.
abbrev pub block_of : ℕ → ℕ
block_of w = w / 4

abbrev pub word_of : Words → ℕ → ℕ
word_of ws w = slice_index ws.at (w % 4)

abbrev pub with_word : Words → ℕ → ℕ → Words
with_word ws w v = record ws { at = slice_set ws.at (w % 4) v }
