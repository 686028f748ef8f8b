-- Reading a line field by field: each step goes on with what stands in the next one, if it is there.
use Rattle.std.specs.Prelude.{ℕ, List, Some, None, Option, if◌then◌else◌}
use Rattle.text.specs.Parts.{other_fields, first_number, has_none}

abbrev pub then_number : {A : Type 0} → Option (List ℕ) → (ℕ → Option (List ℕ) → Option A) → Option A
then_number r k = elim (first_number r) [ None ↦ None | Some n ↦ k n (other_fields r) ]

-- Nothing more stands in the line.
abbrev pub at_end : {A : Type 0} → Option (List ℕ) → A → Option A
at_end r x = if has_none r then Some x else None
