-- What a script does: its first line makes the board, each later line makes its call, and each line has an outcome.
use Rattle.std.specs.Prelude.{ℕ, Bool, List, [], ◌∷◌, ◌++◌, Some, None, Ok, Err, Option, Result}
use Rattle.coherence.specs.Makings.{Making}
use Rattle.coherence.specs.Steps.{Answer, check, step}
use Rattle.coherence.specs.Worlds.{World}
use Rattle.coherence.specs.declared.call.Call.{Call}
use Rattle.coherence.specs.declared.fault.BoardFault.TheVariants.{NotFit}
use Rattle.coherence.specs.declared.fault.Fault.TheVariants as fault
use Rattle.device.specs.Meaning.{Meaning}
use Rattle.list.specs.Contents.{pushed}
use Rattle.list.specs.declared.storage.List.{List as Records}
use Rattle.message.specs.declared.message.Message.{Message}
use Rattle.raster.specs.Boards.{making}
use Rattle.trail.specs.declared.entry.Entry.{Entry}
use Rattle.script.specs.Forms.{formed, call_of, opening_of, opening}
use Rattle.script.specs.Lines.{Text}
use Rattle.script.specs.declared.fault.ScriptFault.{ScriptFault}
use Rattle.script.specs.declared.fault.ScriptFault.TheVariants.{Board}
use Rattle.script.specs.declared.line.Opening.{Opening}
use Rattle.script.specs.declared.outcome.Outcome.{Outcome}

-- What a line came to.
abbrev pub LineResult : Type 0
LineResult = Result (Option ℕ) ScriptFault

abbrev pub answered : Answer → LineResult
answered (Ok v) = Ok v
answered (Err f) = Err (Board f)

-- The first line, if there is one: the making that it asks for, or that it is not of the form.
abbrev pub first_line : List Text → Option (Result Opening ScriptFault)
first_line [] = None
first_line (l ∷ ls) = Some (formed l.0 (opening_of l.1))

abbrev pub later : List Text → List Text
later [] = []
later (l ∷ ls) = ls

-- What the board is made of. Where nothing is asked for it has no processors, and so refuses every call.
abbrev pub asked : Option (Result Opening ScriptFault) → Opening
asked (Some (Ok o)) = o
asked _ = opening 0 0

abbrev pub script_making : {A B : Type 0} → List Text → List ℕ → A → B → Records (Message ℕ) → Records Entry
    → Making A B
script_making lines ws a b ms es =
    let o = asked (first_line lines) in
    making o.processors o.clock ws a b ms es

-- The first line on the board that was made, fit or not.
abbrev pub opened : Bool → Result Opening ScriptFault → LineResult
opened fit (Err f) = Err f
opened fit (Ok o) = answered (check fit (fault.Board NotFit) (Ok None))

abbrev pub first_outcome : Bool → Option (Result Opening ScriptFault) → List Outcome
first_outcome fit None = []
first_outcome fit (Some o) = record { result = opened fit o } ∷ []

-- The calls of the lines that are of the form.
abbrev pub calls_of : List Text → List Call
calls_of [] = []
calls_of (l ∷ ls) = elim (call_of l.1) [ None ↦ calls_of ls | Some c ↦ c ∷ calls_of ls ]

-- Outcomes are noted in turn, as long as there is room.
abbrev pub noted : ℕ → List Outcome → List Outcome → List Outcome
noted room os [] = os
noted room os (new ∷ more) = noted room (pushed os room new) more

module _ {A B : Type 0} (ma : Meaning A) (mb : Meaning B) where
  -- A line in a world: the step of its call; a line that is not of the form touches nothing.
  abbrev pub lined : Text → World A B → LineResult × World A B
  lined l w =
      elim (formed l.0 (call_of l.1)) [
        | Err f ↦ (Err f, w)
        | Ok c ↦ (answered (step ma mb c w).0, (step ma mb c w).1)
      ]

  abbrev pub outcomes_of : World A B → List Text → List Outcome
  outcomes_of w [] = []
  outcomes_of w (l ∷ ls) = record { result = (lined l w).0 } ∷ outcomes_of (lined l w).1 ls

  -- Each line's outcome, in turn, where w is the world that was made.
  abbrev pub script_outcomes : World A B → List Text → List Outcome
  script_outcomes w ls = first_outcome w.fit (first_line ls) ++ outcomes_of w (later ls)
