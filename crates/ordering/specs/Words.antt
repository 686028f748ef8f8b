-- Four words: those of a block, or one word that stands first.
use Rattle.std.specs.Prelude.{ℕ, [], ◌∷◌, slice_index}
use Rattle.ordering.specs.declared.operation.Words.{Words}

abbrev pub one_word : ℕ → Words
one_word w = record { at = w ∷ 0 ∷ 0 ∷ 0 ∷ [] }

abbrev pub no_words : Words
no_words = one_word 0

abbrev pub first_word : Words → ℕ
first_word ws = slice_index ws.at 0
