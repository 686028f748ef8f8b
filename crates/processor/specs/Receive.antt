-- What a processor does when a message reaches it, or none where there is no rule. The fields that a kind
-- leaves empty, and who may send it, are not looked at here.
use Rattle.std.specs.Prelude.{ℕ, if◌then◌else◌, is_some, unwrap_or, Some, None, Option}
use Rattle.ordering.specs.Clocks.{passed, counted}
use Rattle.ordering.specs.Stamps.{stamped}
use Rattle.ordering.specs.Words.{one_word, no_words, first_word}
use Rattle.ordering.specs.declared.operation.Operation.TheVariants as operation
use Rattle.ordering.specs.declared.operation.Words.{Words}
use Rattle.trail.specs.declared.entry.Entry.{Entry}
use Rattle.message.specs.Messages.{plain}
use Rattle.message.specs.Nodes.{node_numbered}
use Rattle.message.specs.Requests.{is_out}
use Rattle.message.specs.declared.kind.Kind.{Kind}
use Rattle.message.specs.declared.kind.Kind.TheVariants as kind
use Rattle.message.specs.declared.message.Message.{Message}
use Rattle.message.specs.declared.node.Node.TheVariants as node
use Rattle.message.specs.declared.reaction.Reaction.{Reaction}
use Rattle.processor.specs.Lines.{line_at}
use Rattle.message.specs.Reactions.{quiet, sending, doing}
use Rattle.processor.specs.Slots.{slot_at}
use Rattle.processor.specs.States.{at_clock, at_line, at_request, at_slot, at_register}
use Rattle.processor.specs.declared.line.Line.{Line}
use Rattle.processor.specs.declared.line.Line.TheVariants.{Invalid, Shared, Exclusive}
use Rattle.processor.specs.declared.slot.Slot.TheVariants.{Free, Awaited, Abandoned, Came}
use Rattle.processor.specs.declared.state.Processor.{Processor}

abbrev pub Outcome : Type 0
Outcome = Option (Reaction (Processor ℕ))

-- To give way: the processor passes its own global, its line becomes what the home asked for, and ACK goes to the home
-- with the new global, marked and with the line's words if the line was X.
abbrev pub acknowledgement : ℕ → Message ℕ → ℕ → Option Words → Message ℕ
acknowledgement n m c owned =
    record (plain kind.Ack n m.sender m.place) {
      words = unwrap_or owned no_words;
      clock = c;
      exclusive = is_some owned;
    }

abbrev pub giving_way : Processor ℕ → ℕ → Message ℕ → Line → Option Words → Reaction (Processor ℕ)
giving_way s n m l owned =
    let c = passed s.clock s.clock.global in
    sending (acknowledgement n m c.global owned) (at_line m.place l (at_clock c s))

-- INV takes a held line to I.
abbrev pub invalidated : Processor ℕ → ℕ → Message ℕ → Outcome
invalidated s n m =
    elim (line_at s.lines m.place) [
      | Invalid ↦ None
      | Shared ws ↦ Some (giving_way s n m Invalid None)
      | Exclusive ws ↦ Some (giving_way s n m Invalid (Some ws))
    ]

-- DOWN takes a line X to S.
abbrev pub downgraded : Processor ℕ → ℕ → Message ℕ → Outcome
downgraded s n m =
    elim (line_at s.lines m.place) [ Exclusive ws ↦ Some (giving_way s n m (Shared ws) (Some ws)) | _ ↦ None ]

-- At a reply the processor passes its clock, ends the request, and sends TAKEN.
abbrev pub taking : Processor ℕ → ℕ → Message ℕ → Reaction (Processor ℕ)
taking s n m =
    sending (plain kind.Taken n m.sender m.place) (at_request m.place None (at_clock (passed s.clock m.clock) s))

abbrev pub taking_line : Processor ℕ → ℕ → Message ℕ → Line → Reaction (Processor ℕ)
taking_line s n m l = taking (at_line m.place l s) n m

-- The request of kind k is answered, and the line becomes l.
abbrev pub filled : Processor ℕ → ℕ → Message ℕ → Kind → Line → Outcome
filled s n m k l = if is_out s.requests m.place k then Some (taking_line s n m l) else None

-- S-DATA answers GETS, X-DATA GETX: the words come into the line.
abbrev pub shared : Processor ℕ → ℕ → Message ℕ → Outcome
shared s n m = filled s n m kind.Gets (Shared m.words)

abbrev pub owned : Processor ℕ → ℕ → Message ℕ → Outcome
owned s n m = filled s n m kind.Getx (Exclusive m.words)

-- GRANT answers UPG at a line S, which becomes X and keeps its words.
abbrev pub granted : Processor ℕ → ℕ → Message ℕ → Outcome
granted s n m =
    if is_out s.requests m.place kind.Upg
    then elim (line_at s.lines m.place) [ Shared ws ↦ Some (taking_line s n m (Exclusive ws)) | _ ↦ None ]
    else None

-- DONE answers WB; the line stays as it is.
abbrev pub done : Processor ℕ → ℕ → Message ℕ → Outcome
done s n m = if is_out s.requests m.place kind.Wb then Some (taking s n m) else None

-- NACK ends the request of the refused kind, and moves no clock.
abbrev pub nacked : Processor ℕ → Message ℕ → Outcome
nacked s m =
    elim m.refused [
      | None ↦ None
      | Some k ↦ if is_out s.requests m.place k then Some (quiet (at_request m.place None s)) else None
    ]

-- INT: the processor passes its clock and does the operation of the device that sent it; the word fills the register.
abbrev pub interrupt_entry : Processor ℕ → ℕ → Message ℕ → Entry
interrupt_entry s n m = record {
  party = m.sender;
  sequence = m.sequence;
  operation = operation.Int;
  space = 3;
  place = n;
  values = one_word (first_word m.words);
  stamp = stamped (counted (passed s.clock m.clock)) n;
}

abbrev pub interrupted : Processor ℕ → ℕ → Message ℕ → Reaction (Processor ℕ)
interrupted s n m =
    doing (interrupt_entry s n m) None
    (at_register (Some (first_word m.words)) (at_clock (counted (passed s.clock m.clock)) s))

-- VALUE: the word of an LDio has come; a slot that nobody holds becomes free. The clock is passed in both cases.
abbrev pub fetched : Processor ℕ → ℕ → ℕ → ℕ → Outcome
fetched s d v c =
    elim (slot_at s.slots d) [
      | Awaited ↦ Some (quiet (at_slot d (Came v) (at_clock (passed s.clock c) s)))
      | Abandoned ↦ Some (quiet (at_slot d Free (at_clock (passed s.clock c) s)))
      | _ ↦ None
    ]

abbrev pub fetched_from : Processor ℕ → Message ℕ → Outcome
fetched_from s m =
    elim (node_numbered m.sender) [ Some (node.Device d) ↦ fetched s d (first_word m.words) m.clock | _ ↦ None ]

-- The rules by kind. Requests, ACK, TAKEN and what goes to devices are not for a processor.
abbrev pub receive_kind : Kind → Processor ℕ → ℕ → Message ℕ → Outcome
receive_kind kind.Int s n m = Some (interrupted s n m)
receive_kind kind.Inv s n m = invalidated s n m
receive_kind kind.Down s n m = downgraded s n m
receive_kind kind.SData s n m = shared s n m
receive_kind kind.XData s n m = owned s n m
receive_kind kind.Grant s n m = granted s n m
receive_kind kind.Done s n m = done s n m
receive_kind kind.Value s n m = fetched_from s m
receive_kind kind.Nack s n m = nacked s m
receive_kind _ s n m = None

abbrev pub receive : Processor ℕ → ℕ → Message ℕ → Outcome
receive s n m = receive_kind m.kind s n m
