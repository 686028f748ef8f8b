-- The control sum of a trail: all four values of all entries, modulo 2^32.
use Rattle.std.specs.Prelude.{ℕ, ◌+◌, ◌%◌, ◌^◌, List, sum_by, slice_index}
use Rattle.ordering.specs.declared.operation.Words.{Words}
use Rattle.trail.specs.declared.entry.Entry.{Entry}

abbrev pub words_sum : Words → ℕ
words_sum w = slice_index w.at 0 + slice_index w.at 1 + slice_index w.at 2 + slice_index w.at 3

abbrev pub control_sum : List Entry → ℕ
control_sum trail = sum_by (λ e. words_sum e.values) trail % 2 ^ 32
