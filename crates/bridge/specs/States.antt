-- A bridge's state: how it starts, what it means over a device's state, and its parts replaced one by one.
use Rattle.std.specs.Prelude.{ℕ, None, Option}
use Rattle.ordering.specs.declared.clock.Clock.{Clock}
use Rattle.message.specs.Requests.{with_out}
use Rattle.message.specs.Tables.{blank_table}
use Rattle.message.specs.declared.kind.Kind.{Kind}
use Rattle.bridge.specs.declared.state.Bridge.{Bridge}

abbrev pub made : {S : Type 0} → ℕ → S → Bridge S ℕ
made clock s = record {
  clock = record { global = clock; local = 0 };
  sequence = 0;
  requests = blank_table None;
  device = s;
}

-- The bridge over the state that its device is in.
abbrev pub view : {D S : Type 0} → (D → S) → Bridge D ℕ → Bridge S ℕ
view state b = record { clock = b.clock; sequence = b.sequence; requests = b.requests; device = state b.device }

abbrev pub at_numbers : {S : Type 0} → Clock ℕ → ℕ → Bridge S ℕ → Bridge S ℕ
at_numbers c q b = record b { clock = c; sequence = q }

abbrev pub at_request : {S : Type 0} → ℕ → Option Kind → Bridge S ℕ → Bridge S ℕ
at_request k r b = record b { requests = with_out b.requests k r }

abbrev pub at_device : {S : Type 0} → S → Bridge S ℕ → Bridge S ℕ
at_device s b = record b { device = s }
