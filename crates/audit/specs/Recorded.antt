-- An entry as it is recorded in a line of text.
use Rattle.std.specs.Prelude.{ℕ, if◌then◌else◌, List, [], ◌∷◌, Some, None, Option}
use Rattle.ordering.specs.Operations.{name_of}
use Rattle.ordering.specs.declared.operation.Operation.{Operation}
use Rattle.ordering.specs.declared.operation.Operation.TheVariants.{Ld, St, LdIo, StIo, Int, LdBlk, StBlk}
use Rattle.ordering.specs.declared.operation.Words.{Words}
use Rattle.ordering.specs.declared.stamp.Stamp.{Stamp}
use Rattle.std.specs.Str.{bytes_eq}
use Rattle.text.specs.Parts.{before, other_fields}
use Rattle.text.specs.Reading.{then_number, at_end}
use Rattle.trail.specs.declared.entry.Entry.{Entry}

abbrev pub named : List ℕ → Option Operation
named n =
    if bytes_eq n (name_of Ld) then Some Ld
    else if bytes_eq n (name_of St) then Some St
    else if bytes_eq n (name_of LdIo) then Some LdIo
    else if bytes_eq n (name_of StIo) then Some StIo
    else if bytes_eq n (name_of Int) then Some Int
    else if bytes_eq n (name_of LdBlk) then Some LdBlk
    else if bytes_eq n (name_of StBlk) then Some StBlk
    else None

abbrev pub next_named : Option (List ℕ) → Option Operation
next_named None = None
next_named (Some xs) = named (before 9 xs)

abbrev pub then_named : {A : Type 0} → Option (List ℕ) → (Operation → Option (List ℕ) → Option A) → Option A
then_named r k = elim (next_named r) [ None ↦ None | Some o ↦ k o (other_fields r) ]

abbrev pub next_words : Option (List ℕ) → Option Words
next_words r₀ =
    then_number r₀ (λ a r₁. then_number r₁ (λ b r₂. then_number r₂ (λ c r₃. then_number r₃ (λ d r₄.
    Some (record { at = a ∷ b ∷ c ∷ d ∷ [] })))))

abbrev pub after_words : Option (List ℕ) → Option (List ℕ)
after_words r = other_fields (other_fields (other_fields (other_fields r)))

abbrev pub next_stamp : Option (List ℕ) → Option Stamp
next_stamp r₀ =
    then_number r₀ (λ g r₁. then_number r₁ (λ l r₂. then_number r₂ (λ n r₃.
    Some (record { global = g; local = l; node = n }))))

abbrev pub after_stamp : Option (List ℕ) → Option (List ℕ)
after_stamp r = other_fields (other_fields (other_fields r))

abbrev pub then_words : {A : Type 0} → Option (List ℕ) → (Words → Option (List ℕ) → Option A) → Option A
then_words r k = elim (next_words r) [ None ↦ None | Some w ↦ k w (after_words r) ]

abbrev pub then_stamp : {A : Type 0} → Option (List ℕ) → (Stamp → Option (List ℕ) → Option A) → Option A
then_stamp r k = elim (next_stamp r) [ None ↦ None | Some s ↦ k s (after_stamp r) ]

-- Party, sequence number, operation, space, place, four values, global, local, node, and nothing more.
abbrev pub recorded : List ℕ → Option Entry
recorded line =
    then_number (Some line) (λ p r₁. then_number r₁ (λ n r₂. then_named r₂ (λ o r₃.
    then_number r₃ (λ s r₄. then_number r₄ (λ w r₅.
    then_words r₅ (λ vs r₆. then_stamp r₆ (λ t r₇.
    at_end r₇ (record { party = p; sequence = n; operation = o; space = s; place = w; values = vs; stamp = t }))))))))
