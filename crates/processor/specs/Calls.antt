-- What a processor does at each call: its reaction, or why it refuses.
use Rattle.std.specs.Prelude.{ℕ, Bool, true, false, if◌then◌else◌, ◌&&◌, Some, None, Option, Ok, Err, Result, nat_lt}
use Rattle.ordering.specs.Clocks.{counted}
use Rattle.ordering.specs.Stamps.{stamped}
use Rattle.ordering.specs.Words.{one_word, no_words}
use Rattle.ordering.specs.declared.operation.Operation.{Operation}
use Rattle.ordering.specs.declared.operation.Operation.TheVariants.{Ld, St}
use Rattle.ordering.specs.declared.operation.Words.{Words}
use Rattle.trail.specs.declared.entry.Entry.{Entry}
use Rattle.message.specs.Messages.{plain}
use Rattle.message.specs.Nodes.{home_node, device_node}
use Rattle.message.specs.Requests.{out}
use Rattle.message.specs.declared.kind.Kind.{Kind}
use Rattle.message.specs.declared.kind.Kind.TheVariants.{Gets, Getx, Upg, Wb, Rio, Wio}
use Rattle.message.specs.declared.message.Message.{Message}
use Rattle.message.specs.declared.reaction.Reaction.{Reaction}
use Rattle.processor.specs.Lines.{line_at, held_words, owned_words, block_of, word_of, with_word}
use Rattle.message.specs.Reactions.{telling, quiet, sending, doing}
use Rattle.processor.specs.Slots.{slot_at, is_free, awaited_device}
use Rattle.processor.specs.States.{at_clock, at_line, at_request, at_slot, at_register, numbered}
use Rattle.processor.specs.declared.line.Line.{Line}
use Rattle.processor.specs.declared.line.Line.TheVariants.{Invalid, Shared, Exclusive}
use Rattle.processor.specs.declared.refusal.Refusal.{Refusal}
use Rattle.processor.specs.declared.refusal.Refusal.TheVariants.{NotHeld, Unfit, RequestOut, Awaits, SlotTaken, NotCollectable}
use Rattle.processor.specs.declared.slot.Slot.TheVariants.{Free, Awaited, Abandoned, Came}
use Rattle.processor.specs.declared.state.Processor.{Processor}

abbrev pub Answer : Type 0
Answer = Result (Reaction (Processor ℕ)) Refusal

-- An operation on a line is done at once: it is counted, takes the next number, and is stamped with the new clock.
abbrev pub operation_entry : Processor ℕ → ℕ → Operation → ℕ → ℕ → Entry
operation_entry s n o w v = record {
  party = n;
  sequence = s.sequence;
  operation = o;
  space = 0;
  place = w;
  values = one_word v;
  stamp = stamped (counted s.clock) n;
}

abbrev pub operated : Processor ℕ → Processor ℕ
operated s = numbered (at_clock (counted s.clock) s)

-- An operation needs a fit line, whose words are given, and waits for the word of every own LDio, given up or not.
abbrev pub ready : Processor ℕ → ℕ → Option Words → Result Words Refusal
ready s b None = Err (NotHeld b)
ready s b (Some ws) = elim (awaited_device s.slots) [ None ↦ Ok ws | Some d ↦ Err (Awaits d) ]

-- LD of a word of memory, on a line S or X.
abbrev pub load : Processor ℕ → ℕ → ℕ → Answer
load s n w =
    elim (ready s (block_of w) (held_words (line_at s.lines (block_of w)))) [
      | Err e ↦ Err e
      | Ok ws ↦ Ok (doing (operation_entry s n Ld w (word_of ws w)) (Some (word_of ws w)) (operated s))
    ]

-- ST to a word of memory, on a line X.
abbrev pub store : Processor ℕ → ℕ → ℕ → ℕ → Answer
store s n w v =
    elim (ready s (block_of w) (owned_words (line_at s.lines (block_of w)))) [
      | Err e ↦ Err e
      | Ok ws ↦
          let line = Exclusive (with_word ws w v) in
          Ok (doing (operation_entry s n St w v) None (at_line (block_of w) line (operated s)))
    ]

-- GETS and GETX are asked for at a line I, UPG at S, WB at X.
abbrev pub fits : Line → Kind → Bool
fits Invalid Gets = true
fits Invalid Getx = true
fits (Shared ws) Upg = true
fits (Exclusive ws) Wb = true
fits _ _ = false

abbrev pub request : Processor ℕ → ℕ → ℕ → Kind → Answer
request s n b k =
    if (nat_lt b 16 && fits (line_at s.lines b) k)
    then elim (out s.requests b) [
      | Some j ↦ Err (RequestOut b)
      | None ↦ Ok (sending (plain k n (home_node b) b) (at_request b (Some k) s))
    ]
    else Err (Unfit b)

-- A message to a device about one of its words, with the processor's clock and the operation's number.
abbrev pub to_device : Kind → Processor ℕ → ℕ → ℕ → ℕ → Words → Message ℕ
to_device k s n d w ws =
    record (plain k n (device_node d) w) { words = ws; clock = s.clock.global; sequence = s.sequence }

-- LDio sends Rio and takes the device's slot. (A device that is not there has no slot to take.)
abbrev pub ldio : Processor ℕ → ℕ → ℕ → ℕ → Answer
ldio s n d w =
    if (nat_lt d 2 && is_free (slot_at s.slots d))
    then Ok (sending (to_device Rio s n d w no_words) (at_slot d Awaited (numbered s)))
    else Err (SlotTaken d)

-- STio sends Wio; it needs no slot.
abbrev pub stio : Processor ℕ → ℕ → ℕ → ℕ → ℕ → Answer
stio s n d w v =
    if nat_lt d 2 then Ok (sending (to_device Wio s n d w (one_word v)) (numbered s)) else Err (SlotTaken d)

-- Collect tells a word that came and frees the slot.
abbrev pub collect : Processor ℕ → ℕ → Answer
collect s d =
    elim (slot_at s.slots d) [
      | Came v ↦ Ok (telling (Some v) (at_slot d Free s))
      | _ ↦ Err (NotCollectable d)
    ]

-- Give up frees a slot whose word came; one whose word is awaited stays taken, and nobody holds it.
abbrev pub give_up : Processor ℕ → ℕ → Answer
give_up s d =
    elim (slot_at s.slots d) [
      | Awaited ↦ Ok (quiet (at_slot d Abandoned s))
      | Came v ↦ Ok (quiet (at_slot d Free s))
      | _ ↦ Err (NotCollectable d)
    ]

-- Poll tells the latest interrupt word that was not polled, or none.
abbrev pub poll : Processor ℕ → Reaction (Processor ℕ)
poll s = telling s.register (at_register None s)
