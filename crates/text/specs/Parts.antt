-- Parts of a run of bytes: what stands before a mark, and after it; fields and lines.
use Rattle.std.specs.Prelude.{◌≡◌, ℕ, Bool, true, false, List, [], ◌∷◌, ◌++◌, length, drop, Some, None, Option, ◌==◌, if◌then◌else◌, nat_le}
use Rattle.std.specs.List.{AllByRecursion}
use Rattle.text.specs.Numbers.{parse_number}
use Rattle.text.specs.declared.fields.Fields.{Fields}
use Rattle.text.specs.declared.lines.Lines.{Lines}

-- The bytes before the first mark, or all.
abbrev pub before : ℕ → List ℕ → List ℕ
before c [] = []
before c (x ∷ xs) = if x == c then [] else x ∷ before c xs

-- The bytes after the first mark, if there is one.
abbrev pub after : ℕ → List ℕ → Option (List ℕ)
after c [] = None
after c (x ∷ xs) = if x == c then Some xs else after c xs

-- What stands from a place on; past the end, nothing more is to come.
abbrev pub left : List ℕ → ℕ → Option (List ℕ)
left bytes at = if nat_le at (length bytes) then Some (drop at bytes) else None

-- The first of the parts between marks; None: all have been read, and an empty rest is one empty part.
abbrev pub first_part : ℕ → Option (List ℕ) → Option (List ℕ)
first_part c None = None
first_part c (Some xs) = Some (before c xs)

abbrev pub other_parts : ℕ → Option (List ℕ) → Option (List ℕ)
other_parts c None = None
other_parts c (Some xs) = after c xs

-- A line's fields are parted by tabs.
abbrev pub unread : Fields → Option (List ℕ)
unread f = left f.parts.bytes.now f.parts.at

abbrev pub first_field : Option (List ℕ) → Option (List ℕ)
first_field r = first_part 9 r

abbrev pub other_fields : Option (List ℕ) → Option (List ℕ)
other_fields r = other_parts 9 r

abbrev pub first_number : Option (List ℕ) → Option ℕ
first_number None = None
first_number (Some xs) = parse_number (before 9 xs)

abbrev pub has_none : Option (List ℕ) → Bool
has_none None = true
has_none (Some xs) = false

-- The lines of a text: a newline ends a line, and the last may lack it.
abbrev pub begun : ℕ → List (List ℕ) → List (List ℕ)
begun x [] = (x ∷ []) ∷ []
begun x (l ∷ ls) = (x ∷ l) ∷ ls

abbrev pub lines_of : List ℕ → List (List ℕ)
lines_of [] = []
lines_of (x ∷ xs) = if x == 10 then [] ∷ lines_of xs else begun x (lines_of xs)

abbrev pub lines_left : Lines → List (List ℕ)
lines_left l = lines_of (drop l.parts.at l.parts.bytes.now)

-- Lines with no newline in them, each ended by one, are read as they were; so are they where the last lacks it.
abbrev pub Whole : List ℕ → Type 0
Whole [] = Unit {0}
Whole (x ∷ xs) = (x == 10 ≡ false) × Whole xs

abbrev pub ended : List (List ℕ) → List ℕ
ended [] = []
ended (l ∷ ls) = l ++ 10 ∷ ended ls

pub record LinesAreReadBack : Type 0 where
  pub all_ended : (ls : List (List ℕ)) → AllByRecursion Whole ls → lines_of (ended ls) ≡ ls
  pub last_open : (ls : List (List ℕ)) (x : ℕ) (xs : List ℕ) → AllByRecursion Whole ls → Whole (x ∷ xs)
      → lines_of (ended ls ++ x ∷ xs) ≡ ls ++ (x ∷ xs) ∷ []
