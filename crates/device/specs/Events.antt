-- What is done to a device, call after call, and what its words then are.
use Rattle.std.specs.Prelude.{◌≡◌, ℕ, suc, List, [], ◌∷◌, slice_set}
use Rattle.ordering.specs.declared.operation.Words.{Words}
use Rattle.device.specs.Meaning.{Meaning, read_exit, write_exit}

pub data Event : Type 0 where
  reads : ℕ → Event
  writes : ℕ → ℕ → Event
  accepts : ℕ → Event
  lands : ℕ → Words → Event

abbrev pub follow : {S : Type 0} → Meaning S → S → Event → S
follow m s (reads p) = read_exit m s p
follow m s (writes p v) = write_exit m s p v
follow m s (accepts w) = m.accepted s w
follow m s (lands b ws) = m.landed s b ws

abbrev pub after : {S : Type 0} → Meaning S → S → List Event → S
after m s [] = s
after m s (e ∷ es) = after m (follow m s e) es

-- How many wishes were accepted.
abbrev pub accepted_in : List Event → ℕ
accepted_in [] = 0
accepted_in (accepts w ∷ es) = suc (accepted_in es)
accepted_in (e ∷ es) = accepted_in es

-- The words after a call, and after calls one after the other: only a write changes them.
abbrev pub rewritten : List ℕ → Event → List ℕ
rewritten ws (writes p v) = slice_set ws p v
rewritten ws e = ws

abbrev pub written : List ℕ → List Event → List ℕ
written ws [] = ws
written ws (e ∷ es) = written (rewritten ws e) es

-- Whatever else is done to a device, its words are what was written to them.
abbrev pub WordsAsWritten : {S : Type 0} → Meaning S → Type 0
WordsAsWritten {S} m = (s : S) (es : List Event) → m.words (after m s es) ≡ written (m.words s) es
