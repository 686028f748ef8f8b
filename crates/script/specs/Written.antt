-- A call as a line of a script: its letter and its numbers, parted by tabs.
use Rattle.std.specs.Prelude.{◌≡◌, ℕ, ◌^◌, ◌<◌, List, [], ◌∷◌, ◌++◌, Some, decimal}
use Prim.Native.Char.{Char, code}
use Rattle.coherence.specs.declared.call.Call.{Call}
use Rattle.coherence.specs.declared.call.Call.TheVariants.{Load, Store, Request, LdIo, StIo, Collect, GiveUp, Act, Deliver, Poll}
use Rattle.script.specs.Forms.{call_of, opening_of}
use Rattle.script.specs.declared.line.Opening.{Opening}

-- Each number after a tab.
abbrev pub tabbed : List ℕ → List ℕ
tabbed [] = []
tabbed (n ∷ ns) = 9 ∷ (decimal n ++ tabbed ns)

abbrev pub letter_for : Call → Char
letter_for (Load p n) = "L"
letter_for (Store p n v) = "S"
letter_for (Request p b k) = "Q"
letter_for (LdIo p d n) = "R"
letter_for (StIo p d n v) = "W"
letter_for (Collect p d) = "C"
letter_for (GiveUp p d) = "X"
letter_for (Act d) = "D"
letter_for (Deliver i) = "G"
letter_for (Poll p) = "P"

abbrev pub numbers_of : Call → List ℕ
numbers_of (Load p n) = p ∷ (n ∷ [])
numbers_of (Store p n v) = p ∷ (n ∷ (v ∷ []))
numbers_of (Request p b k) = p ∷ (b ∷ (k ∷ []))
numbers_of (LdIo p d n) = p ∷ (d ∷ (n ∷ []))
numbers_of (StIo p d n v) = p ∷ (d ∷ (n ∷ (v ∷ [])))
numbers_of (Collect p d) = p ∷ (d ∷ [])
numbers_of (GiveUp p d) = p ∷ (d ∷ [])
numbers_of (Act d) = d ∷ []
numbers_of (Deliver i) = i ∷ []
numbers_of (Poll p) = p ∷ []

abbrev pub written : Char → List ℕ → List ℕ
written l ns = code l ∷ tabbed ns

abbrev pub Short : List ℕ → Type 0
Short [] = Unit {0}
Short (n ∷ ns) = (n < 2 ^ 32) × Short ns

-- Whatever is written so is read as the call, or the making, that it was.
pub record LinesAreReadBack : Type 0 where
  pub calls : (c : Call) → Short (numbers_of c) → call_of (Some (written (letter_for c) (numbers_of c))) ≡ Some c
  pub makings : (o : Opening) → o.processors < 2 ^ 32 → o.clock < 2 ^ 32
      → opening_of (Some (written "M" (o.processors ∷ (o.clock ∷ [])))) ≡ Some o
