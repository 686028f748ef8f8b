-- What an effect does to the operations under way: what starts, what goes on to be carried, and what is done.
use Rattle.std.proofs.Common.{◌≡◌, ℕ, ◌+◌, ◌<◌, true, false, ◌⊎◌, Some, None}
use Rattle.home.specs.Directories.{round_of}
use Rattle.message.specs.Nodes.{device_node, home_node, is_device}
use Rattle.message.specs.Pairs.{oldest_of_pair}
use Rattle.message.specs.Reactions.{sent}
use Rattle.message.specs.Requests.{out}
use Rattle.message.specs.declared.message.Message.{Message}
use Rattle.ordering.specs.Operations.{is, is_block}
use Rattle.ordering.specs.Orders.{is_io}
use Rattle.ordering.specs.Words.{first_word}
use Rattle.ordering.specs.declared.operation.Operation.TheVariants.{Int}
use Rattle.ordering.specs.declared.order.Access.{Access}
use Rattle.processor.specs.Slots.{slot_at}
use Rattle.processor.specs.declared.slot.Slot.TheVariants.{Came}
use Rattle.std.specs.List.{slice_get}
use Rattle.trail.specs.declared.entry.Entry.{Entry}
use Rattle.coherence.proofs.Carrying.{carries, serves, carried_access, served_access, entry_access, next_number}
use Rattle.coherence.proofs.Orderly.{is_memory, Follows, now, requests_at}
use Rattle.coherence.proofs.Rising.{Pairs}
use Rattle.coherence.proofs.Slots.{awaits}
use Rattle.coherence.proofs.Tally.{crosses}
use Rattle.coherence.specs.Promise.{Stands}
use Rattle.coherence.specs.Steps.{Effect}
use Rattle.coherence.specs.Worlds.{World, processor_at, home_at}

module _ {A B : Type 0} (w : World A B) where
  -- Operation s of party n, to access a, is under way with clock k.
  pub data Carrier (n s k : ℕ) (a : Access) : Type 0 where
    in_message : (m : Message ℕ) → Stands w.messages m → carries n s m ≡ true → m.clock ≡ k → carried_access m ≡ a → Carrier n s k a
    in_home : (b : ℕ) → b < 16 → serves n s (home_at w b) ≡ true → (round_of (home_at w b).directory).request.clock ≡ k → served_access b (home_at w b) ≡ a → Carrier n s k a

  -- A message that carries operation s of party n was sent because a processor or a device started it, or it goes on.
  pub data Sent (n s : ℕ) (y : Message ℕ) : Type 0 where
    called : n < 4 → s ≡ next_number w n → y.clock ≡ now w n → is_io (carried_access y).operation ≡ true → Sent n s y
    wished : (d : ℕ) → d < 2 → n ≡ device_node d → s ≡ next_number w n → y.clock ≡ now w n
        → (is Int (carried_access y).operation ≡ true → (b : ℕ) → out (requests_at w d) b ≡ None)
        → (is Int (carried_access y).operation ≡ false
        → (is_block (carried_access y).operation ≡ true) × ((carried_access y).place < 16) × (out (requests_at w d) (carried_access y).place ≡ None))
        → Sent n s y
    goes_on : (k : ℕ) → Carrier n s k (carried_access y) → is_block (carried_access y).operation ≡ true → (y.clock ≡ k) ⊎ (y.clock ≡ now w n) → Sent n s y

  -- An operation is done: on memory while no slot awaits its word, by a device on its own words, as a message asks that is the
  -- oldest of its pair, or by a home that gathered for it.
  pub data Does (x : Entry) : Type 0 where
    on_memory : x.party < 4 → is_memory x.operation ≡ true → x.space ≡ 0 → ((d : ℕ) → d < 2 → awaits (processor_at w x.party) d ≡ 0) → Does x
    on_own : is_device x.party ≡ true → is_io x.operation ≡ true → 3 + x.space ≡ x.party → Does x
    delivered : (i : ℕ) (m : Message ℕ) → slice_get w.messages i ≡ Some m → oldest_of_pair w.messages i ≡ None
        → carries x.party x.sequence m ≡ true → carried_access m ≡ entry_access x → m.clock < x.stamp.global → Does x
    gathered : (b : ℕ) → b < 16 → serves x.party x.sequence (home_at w b) ≡ true → served_access b (home_at w b) ≡ entry_access x
        → (round_of (home_at w b).directory).request.clock < x.stamp.global → Does x

  -- VALUE brings what an LDio read that is done now.
  pub record Brings (e : Effect A B) (p d : ℕ) (y : Message ℕ) : Type 0 where
    pub entry : Entry
    pub does : e.entry ≡ Some entry
    pub by : entry.party ≡ p
    pub node : entry.stamp.node ≡ device_node d
    pub clock : y.clock ≡ entry.stamp.global
    pub words : y.words ≡ entry.values
    pub asked : Message ℕ
    pub stands : Stands w.messages asked
    pub rio : crosses 7 p (device_node d) asked ≡ true
    pub number : entry.sequence ≡ asked.sequence

  abbrev pub Value : ℕ → ℕ → Message ℕ → Type 0
  Value p d m = Stands w.messages m × (crosses 18 (device_node d) p m ≡ true)

  pub record Errands (e : Effect A B) : Type 0 where
    pub sends : (y : Message ℕ) → Stands (sent e.sent) y → (n s : ℕ) → carries n s y ≡ true → Sent n s y
    pub together : Pairs Follows (sent e.sent)
    pub homes : (b n s : ℕ) → b < 16 → serves n s (home_at e.next b) ≡ true
        → Carrier n s (round_of (home_at e.next b).directory).request.clock (served_access b (home_at e.next b))
    pub does : (x : Entry) → e.entry ≡ Some x → Does x
    pub values : (p d : ℕ) → p < 4 → d < 2 → (y : Message ℕ) → Stands (sent e.sent) y → crosses 18 (device_node d) p y ≡ true → Brings e p d y
    pub slots : (p d : ℕ) → p < 4 → d < 2 → awaits (processor_at e.next p) d ≡ 0
        → (awaits (processor_at w p) d ≡ 0) ⊎ ((m : Message ℕ) × Value p d m × (m.clock < now e.next p))
    pub came : (p d v : ℕ) → p < 4 → d < 2 → slot_at (processor_at e.next p).slots d ≡ Came v
        → (slot_at (processor_at w p).slots d ≡ Came v) ⊎ ((m : Message ℕ) × Value p d m × (first_word m.words ≡ v))
    pub outs : (d b : ℕ) → d < 2 → b < 16 → out (requests_at e.next d) b ≡ None
        → (out (requests_at w d) b ≡ None) ⊎ ((now w (home_node b) < now e.next (device_node d)) × (e.entry ≡ None))
