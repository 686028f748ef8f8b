-- A bridge's whole reactions: what it decides, performed.
use Rattle.std.specs.Prelude.{ℕ, Some, None, Ok, Err, Option, Result}
use Rattle.device.specs.Meaning.{Meaning}
use Rattle.message.specs.declared.message.Message.{Message}
use Rattle.message.specs.declared.reaction.Reaction.{Reaction}
use Rattle.bridge.specs.Acts.{act_plan}
use Rattle.bridge.specs.Deeds.{performed}
use Rattle.bridge.specs.Receipts.{receive_plan}
use Rattle.bridge.specs.declared.fault.DeviceFault.{DeviceFault}
use Rattle.bridge.specs.declared.state.Bridge.{Bridge}

-- At the device's wish, on a board of ps processors.
abbrev pub act : {S : Type 0} → Meaning S → ℕ → ℕ → Bridge S ℕ → Result (Reaction (Bridge S ℕ)) DeviceFault
act m d ps b = elim (act_plan m d ps b) [ Ok p ↦ Ok (performed m d b p) | Err f ↦ Err f ]

-- At a message, or none where there is no rule.
abbrev pub receive : {S : Type 0} → Meaning S → ℕ → Bridge S ℕ → Message ℕ → Option (Reaction (Bridge S ℕ))
receive m d b x = elim (receive_plan m d b x) [ Some p ↦ Some (performed m d b p) | None ↦ None ]
