-- The request that a node has out for each block.
use Rattle.std.specs.Prelude.{ℕ, Bool, false, Some, None, Option}
use Rattle.message.specs.Kinds.{same_kind}
use Rattle.message.specs.declared.kind.Kind.{Kind}
use Rattle.message.specs.Tables.{at_place, with_at}
use Rattle.message.specs.declared.table.Table.{Table}

-- By block.
abbrev pub Requests : Type 0
Requests = Table (Option Kind) 16

abbrev pub out : Requests → ℕ → Option Kind
out r b = at_place None r b

abbrev pub is_out : Requests → ℕ → Kind → Bool
is_out r b k = elim (out r b) [ None ↦ false | Some j ↦ same_kind j k ]

abbrev pub with_out : Requests → ℕ → Option Kind → Requests
with_out r b k = with_at r b k
