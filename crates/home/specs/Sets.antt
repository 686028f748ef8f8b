-- Sets of processors, as presence bits.
use Rattle.std.specs.Prelude.{ℕ, Bool, false, not, ◌||◌}
use Rattle.message.specs.Tables.{blank_table, at_place, with_at}
use Rattle.message.specs.declared.table.Table.{Table}

abbrev pub Processors : Type 0
Processors = Table Bool 4

abbrev pub nobody : Processors
nobody = blank_table false

abbrev pub has : Processors → ℕ → Bool
has s p = at_place false s p

abbrev pub with_member : Processors → ℕ → Bool → Processors
with_member s p b = with_at s p b

abbrev pub is_empty : Processors → Bool
is_empty s = not (has s 0 || (has s 1 || (has s 2 || has s 3)))
