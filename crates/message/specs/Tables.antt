-- Tables: a value for each of a few places.
use Rattle.std.specs.Prelude.{ℕ, replicate, slice_index_or, slice_set}
use Rattle.message.specs.declared.table.Table.{Table}

abbrev pub blank_table : {T : Type 0} {n : ℕ} → T → Table T n
blank_table {T} {n} b = record { at = replicate n b }

-- Past the last place stands the blank value.
abbrev pub at_place : {T : Type 0} {n : ℕ} → T → Table T n → ℕ → T
at_place b t p = slice_index_or t.at p b

abbrev pub with_at : {T : Type 0} {n : ℕ} → Table T n → ℕ → T → Table T n
with_at t p x = record t { at = slice_set t.at p x }
