-- What a node decided is committed: all or nothing.
use Rattle.std.specs.Prelude.{◌≡◌, ℕ, if◌then◌else◌, length, Some, None, Ok, Err, Option, Result}
use Rattle.bridge.specs.Deeds.{performed}
use Rattle.bridge.specs.Plans.{sends, enters, plan_within}
use Rattle.bridge.specs.Reactions.{act, receive}
use Rattle.bridge.specs.States.{view}
use Rattle.bridge.specs.declared.fault.DeviceFault.{DeviceFault}
use Rattle.bridge.specs.declared.plan.Plan.{Plan}
use Rattle.bridge.specs.declared.state.Bridge.{Bridge}
use Rattle.coherence.specs.Steps.{Answer, check, bridge_within}
use Rattle.coherence.specs.declared.fault.BoardFault.TheVariants.{NumberEnds}
use Rattle.coherence.specs.declared.fault.Fault.{Fault}
use Rattle.coherence.specs.declared.fault.Fault.TheVariants.{Device, Network, Board}
use Rattle.coherence.specs.declared.fault.NetworkFault.TheVariants.{NoRule}
use Rattle.device.specs.Meaning.{Meaning}
use Rattle.device.specs.declared.meaning.Device.{Ghosts}
use Rattle.list.specs.declared.storage.List.{List}
use Rattle.message.specs.Nodes.{device_node}
use Rattle.message.specs.Reactions.{sent_count}
use Rattle.message.specs.declared.message.Message.{Message}
use Rattle.message.specs.declared.reaction.Reaction.{Reaction}
use Rattle.std.specs.Option.{option_to_list}
use Rattle.trail.specs.declared.entry.Entry.{Entry}
use Rattle.raster.specs.Lists.{Lists, lists, room_for, posted}

-- The node's numbers at rest, or one passed its end.
abbrev pub at_rest : {S : Type 0} → ℕ → Option S → Result S Fault
at_rest n None = Err (Board (NumberEnds n))
at_rest n (Some s) = Ok s

-- At a node with a state of its own; `taken` is the place of the message that it reacts to, if it reacts to one.
abbrev pub reaction_fits : {W S : Type 0} → (W → Option S) → ℕ → Reaction W → Option ℕ → Lists → Result S Fault
reaction_fits settled n r taken l =
    room_for l taken (sent_count r.sent) (length (option_to_list r.entry)) (at_rest n (settled r.next))

abbrev pub reaction_committed : {W S : Type 0} → (W → Option S) → ℕ → Reaction W → Option ℕ → Lists
    → Result S Fault × Lists
reaction_committed settled n r taken l = elim (reaction_fits settled n r taken l) [
  | Ok s ↦ (Ok s, posted l taken r.sent r.entry)
  | Err f ↦ (Err f, l)
]

-- What a bridge's plan leads to. Kept shut: a commit needs no more of it than a reaction says.
unfoldable pub planned : {S : Type 0} → Meaning S → ℕ → Bridge S ℕ → Plan ℕ → Reaction (Bridge S ℕ)
planned m d b p = performed m d b p

-- The plan with its numbers at rest, where there is room for what it sends and does.
abbrev pub fitting : ℕ → Plan ℕ → Option ℕ → Lists → Result (Plan ℕ) Fault
fitting d p taken l =
    room_for l taken (sends p.deed) (if enters p.deed then 1 else 0)
    (check (plan_within p) (Board (NumberEnds (device_node d))) (Ok p))

abbrev pub bridge_fits : {S : Type 0} → ℕ → Reaction (Bridge S ℕ) → Option ℕ → Lists → Result (Unit {0}) Fault
bridge_fits d x taken l =
    room_for l taken (sent_count x.sent) (length (option_to_list x.entry))
    (check (bridge_within x.next) (Board (NumberEnds (device_node d))) (Ok tt))

-- At bridge d in state b: what it decided, or the fault of that.
abbrev pub bridge_committed : {S : Type 0} → ℕ → Bridge S ℕ → Result (Reaction (Bridge S ℕ)) Fault → Option ℕ → Lists
    → Answer × Bridge S ℕ × Lists
bridge_committed d b (Err f) taken l = (Err f, b, l)
bridge_committed d b (Ok x) taken l = elim (bridge_fits d x taken l) [
  | Ok u ↦ (Ok x.answer, x.next, posted l taken x.sent x.entry)
  | Err f ↦ (Err f, b, l)
]

-- What a bridge decides at its device's wish, and at the message at place i.
abbrev pub by_wish : {S : Type 0} → Result (Reaction (Bridge S ℕ)) DeviceFault → Result (Reaction (Bridge S ℕ)) Fault
by_wish (Ok x) = Ok x
by_wish (Err f) = Err (Device f)

abbrev pub by_rule : {S : Type 0} → ℕ → Option (Reaction (Bridge S ℕ)) → Result (Reaction (Bridge S ℕ)) Fault
by_rule i (Some x) = Ok x
by_rule i None = Err (Network (NoRule i))

-- Bridge d and both lists before, what it decides, its answer, and the same after.
module _ {D : Type 0} (t : Ghosts D) (d : ℕ) (x : Bridge D ℕ) (ms : List (Message ℕ)) (es : List Entry) where
  abbrev pub BridgeCommitted : Option ℕ → Result (Reaction (Bridge t.State ℕ)) Fault → Answer
      → Bridge D ℕ → List (Message ℕ) → List Entry → Type 0
  BridgeCommitted taken decided r x₁ ms₁ es₁ =
      (r, view t.state x₁, lists ms₁ es₁) ≡ bridge_committed d (view t.state x) decided taken (lists ms es)

  -- Its plan; on a board of ps processors its device's wish; and message m at place i.
  abbrev pub PlanDone : Option ℕ → Plan ℕ → Answer → Bridge D ℕ → List (Message ℕ) → List Entry → Type 0
  PlanDone taken p r x₁ ms₁ es₁ = BridgeCommitted taken (Ok (planned t.meaning d (view t.state x) p)) r x₁ ms₁ es₁

  abbrev pub WishDone : ℕ → Answer → Bridge D ℕ → List (Message ℕ) → List Entry → Type 0
  WishDone ps r x₁ ms₁ es₁ = BridgeCommitted None (by_wish (act t.meaning d ps (view t.state x))) r x₁ ms₁ es₁

  abbrev pub MessageDone : ℕ → Message ℕ → Answer → Bridge D ℕ → List (Message ℕ) → List Entry → Type 0
  MessageDone i m r x₁ ms₁ es₁ =
      BridgeCommitted (Some i) (by_rule i (receive t.meaning d (view t.state x) m)) r x₁ ms₁ es₁
