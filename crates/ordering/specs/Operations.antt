-- The seven operations: which read, which write, which go to a block, and their names.
use Rattle.std.specs.Prelude.{◌≡◌, ℕ, Bool, false, not, ◌&&◌, ◌||◌, List, codes, ◌==◌}
use Rattle.ordering.specs.declared.operation.Operation.{Operation}
use Rattle.ordering.specs.declared.operation.Operation.TheVariants.{Ld, St, LdIo, StIo, Int, LdBlk, StBlk}

-- Their numbers, in the order of the enum.
abbrev pub number_of : Operation → ℕ
number_of Ld = 0
number_of St = 1
number_of LdIo = 2
number_of StIo = 3
number_of Int = 4
number_of LdBlk = 5
number_of StBlk = 6

abbrev pub is : Operation → Operation → Bool
is o p = number_of o == number_of p

abbrev pub is_read : Operation → Bool
is_read o = is Ld o || is LdIo o || is LdBlk o

abbrev pub is_write : Operation → Bool
is_write o = is St o || is StIo o || is StBlk o

abbrev pub is_block : Operation → Bool
is_block o = is LdBlk o || is StBlk o

-- No operation reads and writes, and each but INT does one of them.
pub record ReadsOrWrites : Type 0 where
  pub not_both : (o : Operation) → (is_read o && is_write o) ≡ false
  pub one_but_int : (o : Operation) → (is_read o || is_write o) ≡ not (is Int o)

abbrev pub name_of : Operation → List ℕ
name_of Ld = codes "LD"
name_of St = codes "ST"
name_of LdIo = codes "LDio"
name_of StIo = codes "STio"
name_of Int = codes "INT"
name_of LdBlk = codes "LDblk"
name_of StBlk = codes "STblk"
