-- What one line of a script says: the making of a board, or a call.
use Rattle.std.specs.Prelude.{ℕ, Bool, if◌then◌else◌, List, [], ◌∷◌, Some, None, Ok, Err, Option, Result, ◌==◌}
use Prim.Native.Char.{Char, code}
use Rattle.std.specs.Option.{option_map}
use Rattle.coherence.specs.declared.call.Call.{Call}
use Rattle.coherence.specs.declared.call.Call.TheVariants.{Load, Store, Request, LdIo, StIo, Collect, GiveUp, Act, Deliver, Poll}
use Rattle.text.specs.Parts.{first_field, other_fields}
use Rattle.text.specs.Reading.{then_number, at_end}
use Rattle.script.specs.declared.fault.ScriptFault.{ScriptFault}
use Rattle.script.specs.declared.fault.ScriptFault.TheVariants.{NotOfForm}
use Rattle.script.specs.declared.line.Opening.{Opening}

-- The letter of a field that is one byte.
abbrev pub only : List ℕ → Option ℕ
only (x ∷ []) = Some x
only _ = None

abbrev pub first_letter : Option (List ℕ) → Option ℕ
first_letter r = elim (first_field r) [ None ↦ None | Some f ↦ only f ]

abbrev pub then_letter : {A : Type 0} → Option (List ℕ) → (ℕ → Option (List ℕ) → Option A) → Option A
then_letter r k = elim (first_letter r) [ None ↦ None | Some c ↦ k c (other_fields r) ]

-- The number that ends the line.
abbrev pub last_number : Option (List ℕ) → Option ℕ
last_number r = then_number r (λ n r₁. at_end r₁ n)

-- So many numbers, and nothing more.
abbrev pub one : {A : Type 0} → Option (List ℕ) → (ℕ → A) → Option A
one r f = option_map f (last_number r)

abbrev pub two : {A : Type 0} → Option (List ℕ) → (ℕ → ℕ → A) → Option A
two r f = then_number r (λ a r₁. one r₁ (f a))

abbrev pub three : {A : Type 0} → Option (List ℕ) → (ℕ → ℕ → ℕ → A) → Option A
three r f = then_number r (λ a r₁. two r₁ (f a))

abbrev pub four : {A : Type 0} → Option (List ℕ) → (ℕ → ℕ → ℕ → ℕ → A) → Option A
four r f = then_number r (λ a r₁. three r₁ (f a))

abbrev pub is : ℕ → Char → Bool
is c l = c == code l

-- The call of a letter, with the numbers that follow it.
abbrev pub lettered : ℕ → Option (List ℕ) → Option Call
lettered c r =
    if is c "L" then two r Load
    else if is c "S" then three r Store
    else if is c "Q" then three r Request
    else if is c "R" then three r LdIo
    else if is c "W" then four r StIo
    else if is c "C" then two r Collect
    else if is c "X" then two r GiveUp
    else if is c "D" then one r Act
    else if is c "G" then one r Deliver
    else if is c "P" then one r Poll
    else None

abbrev pub call_of : Option (List ℕ) → Option Call
call_of r = then_letter r lettered

-- M, and the numbers of a making.
abbrev pub opening : ℕ → ℕ → Opening
opening ps clock = record { processors = ps; clock = clock }

abbrev pub opening_of : Option (List ℕ) → Option Opening
opening_of r = then_letter r (λ c r₁. if is c "M" then two r₁ opening else None)

-- Line n says this, or is not of the form.
abbrev pub formed : {A : Type 0} → ℕ → Option A → Result A ScriptFault
formed n None = Err (NotOfForm n)
formed n (Some x) = Ok x
