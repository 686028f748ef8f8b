-- The order that a party keeps among its operations.
use Rattle.std.specs.Prelude.{◌≡◌, ◌≢◌, ℕ, ◌+◌, ◌*◌, Bool, true, false, ◌&&◌, ◌||◌, List, ◌++◌, is_some, Some, None, codes, Option, ◌==◌, if◌then◌else◌, slice_index_or}
use Rattle.ordering.specs.declared.operation.Operation.{Operation}
use Rattle.ordering.specs.declared.operation.Operation.TheVariants.{Ld, St, LdIo, StIo, Int, LdBlk, StBlk}
use Rattle.ordering.specs.Operations.{is}
use Rattle.ordering.specs.declared.order.Access.{Access}
use Rattle.ordering.specs.declared.order.Party.{Party}
use Rattle.ordering.specs.declared.order.Party.TheVariants.{Processor, Device}

-- Where an operation stands among the rows and columns of a party's table.
abbrev pub column : Party → Operation → Option ℕ
column Processor Ld = Some 0
column Processor St = Some 1
column Processor LdIo = Some 2
column Processor StIo = Some 3
column Device LdIo = Some 0
column Device StIo = Some 1
column Device Int = Some 2
column Device LdBlk = Some 3
column Device StBlk = Some 4
column p o = None

-- A table's letters, row after row, and the length of a row.
abbrev pub table : Party → List ℕ
table Processor = codes "AAAA" ++ codes "AAAA" ++ codes "AADD" ++ codes "--DD"
table Device = codes "DDAAA" ++ codes "DDAAA" ++ codes "--D--" ++ codes "--A--" ++ codes "--A--"

abbrev pub width : Party → ℕ
width Processor = 4
width Device = 5

-- The letters: A, always; D, at one target; -, not held.
abbrev pub letter_A : ℕ
letter_A = 65

abbrev pub letter_D : ℕ
letter_D = 68

abbrev pub letter_none : ℕ
letter_none = 45

-- The letter of a cell, and - for an operation that the party never does.
abbrev pub cell : Party → Option ℕ → Option ℕ → ℕ
cell p (Some row) (Some col) = slice_index_or (table p) (width p * row + col) 0
cell p row col = letter_none

abbrev pub letter : Party → Operation → Operation → ℕ
letter p e l = cell p (column p e) (column p l)

-- Both go to one device; of two INTs, both to one processor.
abbrev pub one_target : Access → Access → Bool
one_target e l = if is Int e.operation then e.place == l.place else e.space == l.space

abbrev pub agrees : Access → Access → Bool
agrees e l = e.space == l.space && e.place == l.place

-- The earlier comes first where space and place agree, at A, and at D where both have one target.
abbrev pub ordered : Party → Access → Access → Bool
ordered p e l =
    agrees e l
    || (if letter p e.operation l.operation == letter_A then true
    else if letter p e.operation l.operation == letter_D then one_target e l
    else false)

-- The tables in words. A processor's LD and ST hold all that follows, its LDio the LDs and STs; its LDio and STio
-- hold those to the same device. A device's own LDio and STio hold its INTs and block operations, and one another;
-- its block operations hold its INTs, and an INT those to the same processor.
abbrev pub does : Party → Operation → Bool
does p o = is_some (column p o)

abbrev pub is_io : Operation → Bool
is_io o = is LdIo o || is StIo o

abbrev pub held : Party → Operation → Operation → ℕ
held Processor e l =
    if is Ld e || is St e then letter_A
    else if is_io l then letter_D
    else if is LdIo e then letter_A
    else letter_none
held Device e l =
    if is_io e then (if is_io l then letter_D else letter_A)
    else if is Int l then (if is Int e then letter_D else letter_A)
    else letter_none

abbrev pub TablesInWords : Type 0
TablesInWords =
    (p : Party) (e l : Operation) → letter p e l ≡ (if does p e && does p l then held p e l else letter_none)

-- The rule in words, by the letter of the cell: one space and one place, or an A, always order two operations; else a
-- D does if both go to one device or, of an INT, to one processor; and nothing else does.
pub record RuleInWords : Type 0 where
  pub one_word : (p : Party) (e l : Access) → e.space ≡ l.space → e.place ≡ l.place → ordered p e l ≡ true
  pub always : (p : Party) (e l : Access) → letter p e.operation l.operation ≡ letter_A → ordered p e l ≡ true
  pub one_device : (p : Party) (e l : Access) → letter p e.operation l.operation ≡ letter_D
      → is Int e.operation ≡ false → ordered p e l ≡ (e.space == l.space)
  pub one_processor : (p : Party) (e l : Access) → letter p e.operation l.operation ≡ letter_D
      → is Int e.operation ≡ true → ordered p e l ≡ (e.place == l.place)
  pub other_space : (p : Party) (e l : Access) → letter p e.operation l.operation ≡ letter_none
      → e.space ≢ l.space → ordered p e l ≡ false
  pub other_place : (p : Party) (e l : Access) → letter p e.operation l.operation ≡ letter_none
      → e.place ≢ l.place → ordered p e l ≡ false
