-- The order promise, for a run that began with making k: what holds of its trail, its operations and its messages.
use Rattle.std.specs.Prelude.{◌≡◌, ℕ, ◌<◌, true, if◌then◌else◌, List, is_some, Some, None, Option, ◌==◌, slice_index}
use Rattle.device.specs.Meaning.{Meaning}
use Rattle.message.specs.Checks.{well_formed}
use Rattle.message.specs.Nodes.{is_device}
use Rattle.message.specs.declared.message.Message.{Message}
use Rattle.ordering.specs.Operations.{is_read}
use Rattle.ordering.specs.Orders.{ordered}
use Rattle.ordering.specs.Stamps.{below}
use Rattle.ordering.specs.declared.order.Party.{Party}
use Rattle.ordering.specs.declared.order.Party.TheVariants.{Processor, Device}
use Rattle.std.specs.List.{slice_get}
use Rattle.trail.specs.Addresses.{address_of, has_word}
use Rattle.trail.specs.Sources.{Source}
use Rattle.trail.specs.declared.address.Address.{Address}
use Rattle.trail.specs.declared.entry.Entry.{Entry}
use Rattle.coherence.specs.Histories.{History, Issued, Told, run}
use Rattle.coherence.specs.Makings.{Making}
use Rattle.coherence.specs.Steps.{delivered, figures}
use Rattle.coherence.specs.Worlds.{World}
use Rattle.coherence.specs.declared.call.Call.{Call}

-- Something stands in a list, at some place.
abbrev pub Stands : {X : Type 0} → List X → X → Type 0
Stands xs x = (i : ℕ) × (slice_get xs i ≡ Some x)

-- a. Two entries of the trail have equal stamps, or the same party and sequence number, only if they are the same.
abbrev pub OwnStamps : List Entry → Type 0
OwnStamps trail =
    (i j : ℕ) (e f : Entry) → slice_get trail i ≡ Some e → slice_get trail j ≡ Some f → e.stamp ≡ f.stamp → i ≡ j

pub record Unique (trail : List Entry) : Type 0 where
  pub stamps : OwnStamps trail
  pub numbers : (i j : ℕ) (e f : Entry) → slice_get trail i ≡ Some e → slice_get trail j ≡ Some f
      → e.party ≡ f.party → e.sequence ≡ f.sequence → i ≡ j

-- An operation is done once the trail has its party and sequence number.
pub record Done (trail : List Entry) (party sequence : ℕ) : Type 0 where
  pub entry : Entry
  pub stands : Stands trail entry
  pub by : entry.party ≡ party
  pub numbered : entry.sequence ≡ sequence

abbrev pub party_of : ℕ → Party
party_of n = if is_device n then Device else Processor

-- The rule orders x before y, two operations of one party.
pub record ComesFirst (x y : Issued) : Type 0 where
  pub party : x.party ≡ y.party
  pub lower : x.sequence < y.sequence
  pub held : ordered (party_of x.party) x.access y.access ≡ true

-- b. Of two that the rule orders, the first is done whenever the second is, with the smaller stamp.
abbrev pub InOrder : List Issued → List Entry → Type 0
InOrder issued trail =
    (x y : Issued) → Stands issued x → Stands issued y → ComesFirst x y → (late : Done trail y.party y.sequence)
    → (early : Done trail x.party x.sequence) × (below early.entry.stamp late.entry.stamp ≡ true)

module _ {A B : Type 0} (ma : Meaning A) (mb : Meaning B) (k : Making A B) where
  -- The value of an address at the making.
  abbrev pub at_making : Address → ℕ
  at_making a =
      if a.space == 0 then slice_index k.words a.word
      else if a.space == 1 then slice_index (ma.words k.first) a.word
      else slice_index (mb.words k.second) a.word

  abbrev pub sourced : Address → Option (ℕ × ℕ) → ℕ
  sourced a None = at_making a
  sourced a (Some x) = x.1

  -- c. Every read got, at each of its addresses, the value of its source, or where it has none the value at the making;
  abbrev pub Current : List Entry → Type 0
  Current trail =
      (e : Entry) (n : ℕ) (s : Option (ℕ × ℕ)) → Stands trail e → is_read e.operation ≡ true → has_word e n ≡ true
      → Source trail (address_of e n) e.stamp s → slice_index e.values.at n ≡ sourced (address_of e n) s

  -- and what any load or collect told is in its operation's entry.
  abbrev pub TrulyTold : List Told → List Entry → Type 0
  TrulyTold told trail =
      (t : Told) → Stands told t
      → (done : Done trail t.party t.sequence) × (slice_index done.entry.values.at 0 ≡ t.value)

  -- d. Every waiting message has a rule at its receiver.
  abbrev pub Ruled : World A B → Type 0
  Ruled w = (m : Message ℕ) → Stands w.messages m → is_some (delivered ma mb w m) ≡ true

  pub record OrderKept (h : History A B) : Type 0 where
    pub unique : Unique h.world.trail
    pub in_order : InOrder h.issued h.world.trail
    pub current : Current h.world.trail
    pub truly_told : TrulyTold h.told h.world.trail
    pub ruled : Ruled h.world

-- For every making and every list of calls, refused ones included.
abbrev pub OrderPromise : {A B : Type 0} → Meaning A → Meaning B → Type 0
OrderPromise {A} {B} ma mb = (k : Making A B) (calls : List Call) → OrderKept ma mb k (run ma mb k calls)

-- Steps towards it. In every run, no two entries have one stamp,
abbrev pub StampsAreUnique : {A B : Type 0} → Meaning A → Meaning B → Type 0
StampsAreUnique {A} {B} ma mb = (k : Making A B) (calls : List Call) → OwnStamps (run ma mb k calls).world.trail

-- and every waiting message is well formed on its board.
abbrev pub MessagesAreFormed : {A B : Type 0} → Meaning A → Meaning B → Type 0
MessagesAreFormed {A} {B} ma mb =
    (k : Making A B) (calls : List Call) (m : Message ℕ) → Stands (run ma mb k calls).world.messages m
    → well_formed (figures ma mb (run ma mb k calls).world) m ≡ true
