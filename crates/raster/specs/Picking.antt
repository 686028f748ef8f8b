-- The message that a delivery is about, and the node that it goes to.
use Rattle.std.specs.Prelude.{ℕ, ◌<◌, List, length, Some, None, Ok, Err, Option, Result, nat_lt, slice_index_or}
use Rattle.coherence.specs.Steps.{check, argument}
use Rattle.coherence.specs.declared.fault.Fault.{Fault}
use Rattle.coherence.specs.declared.fault.Fault.TheVariants.{Network}
use Rattle.coherence.specs.declared.fault.NetworkFault.TheVariants.{OlderWaits}
use Rattle.message.specs.Messages.{no_message}
use Rattle.message.specs.Pairs.{oldest_of_pair}
use Rattle.message.specs.declared.message.Message.{Message}
use Rattle.message.specs.declared.node.Node.{Node}
use Rattle.message.specs.declared.node.Node.TheVariants.{Processor, Device, Home}

abbrev pub unless_older : Option ℕ → Message ℕ → Result (Message ℕ) Fault
unless_older None m = Ok m
unless_older (Some o) m = Err (Network (OlderWaits o))

-- The message at place i, if no older one of its pair waits.
abbrev pub picked : List (Message ℕ) → ℕ → Result (Message ℕ) Fault
picked ms i =
    check (nat_lt i (length ms)) (argument 1) (unless_older (oldest_of_pair ms i) (slice_index_or ms i no_message))

-- A processor or a home that the tables have.
abbrev pub There : Option Node → Type 0
There None = Unit {0}
There (Some (Processor p)) = p < 4
There (Some (Device d)) = Unit {0}
There (Some (Home b)) = b < 16
