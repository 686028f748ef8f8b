-- What a call answers, as the answer of a step.
use Rattle.std.specs.Prelude.{ℕ, Bool, List, Some, None, Ok, Err, Option, Result}
use Rattle.coherence.specs.Steps.{Answer, check}
use Rattle.coherence.specs.declared.call.Call.{Call}
use Rattle.coherence.specs.declared.call.Call.TheVariants.{Collect, GiveUp}
use Rattle.coherence.specs.declared.fault.BoardFault.TheVariants.{NotFit, Argument}
use Rattle.coherence.specs.declared.fault.Fault.{Fault}
use Rattle.coherence.specs.declared.fault.Fault.TheVariants.{Board}
use Rattle.queries.specs.Search.{source_of}
use Rattle.trail.specs.Faults.{fault_place}
use Rattle.trail.specs.declared.entry.Entry.{Entry}
use Rattle.trail.specs.declared.fault.SourceFault.{SourceFault}
use Rattle.raster.specs.declared.ticket.Ticket.{Ticket}

-- A word.
abbrev pub word_answer : Result ℕ Fault → Answer
word_answer (Ok v) = Ok (Some v)
word_answer (Err f) = Err f

-- The call was made, and tells nothing.
abbrev pub done_answer : Result (Unit {0}) Fault → Answer
done_answer (Ok u) = Ok None
done_answer (Err f) = Err f

-- An accepted LDio gives a ticket, and tells nothing.
abbrev pub ticket_answer : Result Ticket Fault → Answer
ticket_answer (Ok t) = Ok None
ticket_answer (Err f) = Err f

-- The calls that spend a ticket.
abbrev pub collect_by : Ticket → Call
collect_by t = Collect t.processor t.device

abbrev pub give_up_by : Ticket → Call
give_up_by t = GiveUp t.processor t.device

-- A refusal hands the ticket back.
abbrev pub refusal : {R : Type 0} → Result R (Fault × Ticket) → Result R Fault
refusal (Ok x) = Ok x
refusal (Err e) = Err e.0

-- A source, or which argument is outside its range.
abbrev pub as_arguments : {R : Type 0} → Result R SourceFault → Result R Fault
as_arguments (Ok x) = Ok x
as_arguments (Err f) = Err (Board (Argument (fault_place f)))

abbrev pub source_answer : Bool → List Entry → ℕ → ℕ → Result (Option (ℕ × ℕ)) Fault
source_answer fit trail n w = check fit (Board NotFit) (as_arguments (source_of trail n w))
