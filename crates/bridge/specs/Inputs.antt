-- What may come to a bridge, its device's wish or a message, and its reaction if it has one.
use Rattle.std.specs.Prelude.{◌≡◌, ℕ, Some, None, Ok, Err, Option}
use Rattle.device.specs.Meaning.{Meaning}
use Rattle.message.specs.declared.message.Message.{Message}
use Rattle.message.specs.declared.reaction.Reaction.{Reaction}
use Rattle.bridge.specs.Reactions.{act, receive}
use Rattle.bridge.specs.declared.state.Bridge.{Bridge}

pub data Input : Type 0 where
  Act : ℕ → Input
  Receive : Message ℕ → Input

-- The reaction of the bridge with device number d.
abbrev pub reaction : {S : Type 0} → Meaning S → ℕ → Bridge S ℕ → Input → Option (Reaction (Bridge S ℕ))
reaction m d b (Act ps) = elim (act m d ps b) [ Ok r ↦ Some r | Err f ↦ None ]
reaction m d b (Receive x) = receive m d b x

-- The message that came, or none at a wish.
abbrev pub message_of : Input → Option (Message ℕ)
message_of (Act ps) = None
message_of (Receive x) = Some x

-- A law about every reaction to a message: the bridge before, the device's number, the message, and the reaction.
abbrev pub EachReceipt : {S : Type 0} → Meaning S → (Bridge S ℕ → ℕ → Message ℕ → Reaction (Bridge S ℕ) → Type 0)
    → Type 0
EachReceipt {S} m Holds = (b : Bridge S ℕ) (d : ℕ) (x : Message ℕ) (r : Reaction (Bridge S ℕ))
    → receive m d b x ≡ Some r → Holds b d x r

-- A law about every reaction: the bridge before, the device's number, what came, and the reaction.
abbrev pub EachReaction : {S : Type 0} → Meaning S → (Bridge S ℕ → ℕ → Input → Reaction (Bridge S ℕ) → Type 0) → Type 0
EachReaction {S} m Holds = (b : Bridge S ℕ) (d : ℕ) (i : Input) (r : Reaction (Bridge S ℕ))
    → reaction m d b i ≡ Some r → Holds b d i r
