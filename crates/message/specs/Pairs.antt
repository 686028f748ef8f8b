-- The order of the network: between a processor and a device, each way, the oldest message goes first.
use Rattle.std.specs.Prelude.{ℕ, ◌+◌, Bool, if◌then◌else◌, ◌&&◌, ◌||◌, List, [], ◌∷◌, take, Some, None, Option, ◌==◌}
use Rattle.std.specs.List.{slice_get}
use Rattle.message.specs.Nodes.{is_processor, is_device}
use Rattle.message.specs.declared.message.Message.{Message}

abbrev pub is_pair : ℕ → ℕ → Bool
is_pair s r = (is_processor s && is_device r) || (is_device s && is_processor r)

abbrev pub goes_alike : Message ℕ → Message ℕ → Bool
goes_alike m n = m.sender == n.sender && m.receiver == n.receiver

-- The place of the first message that goes the way of m, counted from i.
abbrev pub first_alike : Message ℕ → List (Message ℕ) → ℕ → Option ℕ
first_alike m [] i = None
first_alike m (n ∷ ns) i = if goes_alike n m then Some i else first_alike m ns (i + 1)

abbrev pub older_than : List (Message ℕ) → ℕ → Message ℕ → Option ℕ
older_than ms p m = if is_pair m.sender m.receiver then first_alike m (take p ms) 0 else None

-- The place of the oldest message that has to go before the one at place p.
abbrev pub oldest_of_pair : List (Message ℕ) → ℕ → Option ℕ
oldest_of_pair ms p = elim (slice_get ms p) [ None ↦ None | Some m ↦ older_than ms p m ]
