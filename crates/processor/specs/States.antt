-- A processor's state: how it starts, its parts replaced one by one, and the end of its numbers.
use Rattle.std.specs.Prelude.{ℕ, ◌+◌, Bool, if◌then◌else◌, ◌&&◌, Some, None, Option, nat_le}
use Rattle.ordering.specs.Clocks.{number_end, is_within}
use Rattle.ordering.specs.declared.clock.Clock.{Clock}
use Rattle.message.specs.Requests.{with_out}
use Rattle.message.specs.Tables.{blank_table}
use Rattle.message.specs.declared.kind.Kind.{Kind}
use Rattle.processor.specs.Lines.{with_line}
use Rattle.processor.specs.Slots.{with_slot}
use Rattle.processor.specs.declared.line.Line.{Line}
use Rattle.processor.specs.declared.line.Line.TheVariants.{Invalid}
use Rattle.processor.specs.declared.slot.Slot.{Slot}
use Rattle.processor.specs.declared.slot.Slot.TheVariants.{Free}
use Rattle.processor.specs.declared.state.Processor.{Processor}

abbrev pub made : ℕ → Processor ℕ
made clock = record {
  clock = record { global = clock; local = 0 };
  sequence = 0;
  lines = blank_table Invalid;
  requests = blank_table None;
  slots = blank_table Free;
  register = None;
}

abbrev pub at_clock : Clock ℕ → Processor ℕ → Processor ℕ
at_clock c s = record s { clock = c }

-- One more operation is numbered.
abbrev pub numbered : Processor ℕ → Processor ℕ
numbered s = record s { sequence = s.sequence + 1 }

abbrev pub at_line : ℕ → Line → Processor ℕ → Processor ℕ
at_line b l s = record s { lines = with_line s.lines b l }

abbrev pub at_request : ℕ → Option Kind → Processor ℕ → Processor ℕ
at_request b k s = record s { requests = with_out s.requests b k }

abbrev pub at_slot : ℕ → Slot → Processor ℕ → Processor ℕ
at_slot d x s = record s { slots = with_slot s.slots d x }

abbrev pub at_register : Option ℕ → Processor ℕ → Processor ℕ
at_register v s = record s { register = v }

-- No number passed its end. An operation with the last number may be done, so the next number may stand one past it.
abbrev pub numbers_within : Processor ℕ → Bool
numbers_within s = is_within s.clock && nat_le s.sequence (number_end + 1)

abbrev pub settled_processor : Processor ℕ → Option (Processor ℕ)
settled_processor s = if numbers_within s then Some s else None
