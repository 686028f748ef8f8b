-- The invariant of the order of operations: what is done below what carries an operation, what lets the next one start, and
-- which words loads from devices tell.
use Rattle.std.proofs.Common.{◌≡◌, ℕ, ◌+◌, ◌<◌, ◌≤◌, Bool, true, false, cond, ◌&&◌, ◌||◌, eqb, ltb, leb, List, get_or, Some, None}
use Rattle.device.specs.Meaning.{Meaning}
use Rattle.home.specs.Directories.{round_of}
use Rattle.home.specs.declared.machine.Home.{Home}
use Rattle.message.specs.Kinds.{same_kind}
use Rattle.message.specs.Nodes.{device_node, is_device}
use Rattle.message.specs.Requests.{out}
use Rattle.message.specs.declared.figures.Figures.{Figures}
use Rattle.message.specs.declared.kind.Kind.{Kind}
use Rattle.message.specs.declared.kind.Kind.TheVariants as kind
use Rattle.message.specs.declared.message.Message.{Message}
use Rattle.message.specs.Requests.{Requests}
use Rattle.ordering.specs.Operations.{is, is_block}
use Rattle.ordering.specs.Orders.{ordered, is_io}
use Rattle.ordering.specs.Words.{first_word}
use Rattle.ordering.specs.declared.operation.Operation.{Operation}
use Rattle.ordering.specs.declared.operation.Operation.TheVariants.{Ld, St, LdIo, Int}
use Rattle.ordering.specs.declared.order.Access.{Access}
use Rattle.processor.specs.Slots.{slot_at}
use Rattle.processor.specs.declared.slot.Slot.TheVariants.{Came}
use Rattle.std.specs.List.{AllByRecursion as All}
use Rattle.trail.specs.declared.entry.Entry.{Entry}
use Rattle.coherence.proofs.Carrying.{is_block_request, refuses_block, carries, gathers, serves, carried_access, served_access, Numbered}
use Rattle.coherence.proofs.Clocks.{clock_at}
use Rattle.coherence.proofs.Dating.{Dated}
use Rattle.coherence.proofs.Forms.{Formed}
use Rattle.coherence.proofs.Rising.{Pairs}
use Rattle.coherence.proofs.Seats.{Seated}
use Rattle.coherence.proofs.Slots.{awaits}
use Rattle.coherence.proofs.Tally.{crosses}
use Rattle.coherence.specs.Histories.{History, Issued, Told, latest_ldio}
use Rattle.coherence.specs.Promise.{Stands, Done, InOrder, party_of}
use Rattle.coherence.specs.Worlds.{World, processor_at, home_at}

abbrev pub is_memory : Operation → Bool
is_memory o = is Ld o || is St o

-- What a party issues: a processor goes to memory and to the words of devices; a device to its own words, to processors and
-- to blocks.
abbrev pub processor_issues : Access → Bool
processor_issues a = cond (is_io a.operation) (leb 1 a.space && leb a.space 2) (is_memory a.operation && eqb a.space 0)

abbrev pub device_issues : ℕ → Access → Bool
device_issues n a =
    cond (is_io a.operation) (eqb (3 + a.space) n)
    (cond (is Int a.operation) (eqb a.space 3)
    (is_block a.operation && (eqb a.space 0 && ltb a.place 16)))

abbrev pub is_fitting : Issued → Bool
is_fitting x = cond (ltb x.party 4) (processor_issues x.access) (is_device x.party && device_issues x.party x.access)

-- Two that the channel between a processor and a device keeps in order, if they go the same way.
abbrev pub by_channel : Access → Access → Bool
by_channel z a = (is_io z.operation && is_io a.operation) || (is Int z.operation && is Int a.operation)

abbrev pub is_channel : Kind → Bool
is_channel k = same_kind k kind.Rio || (same_kind k kind.Wio || same_kind k kind.Int)

-- Of two that go the same way, the one sent later has the greater number.
abbrev pub Follows : Message ℕ → Message ℕ → Type 0
Follows a b =
    is_channel a.kind ≡ true → is_channel b.kind ≡ true → a.sender ≡ b.sender → a.receiver ≡ b.receiver
    → a.sequence < b.sequence

-- Operation s of party n is done, with a global number of at most k.
pub record DoneBy (trail : List Entry) (n s k : ℕ) : Type 0 where
  pub entry : Entry
  pub stands : Stands trail entry
  pub by : entry.party ≡ n
  pub numbered : entry.sequence ≡ s
  pub dated : entry.stamp.global ≤ k

-- What carries operation s of party n to access a, with clock k: all that comes before it is done by then, but for what the
-- channel keeps in order; and the party's clock, now, is past k.
pub record Cleared (issued : List Issued) (trail : List Entry) (now n s k : ℕ) (a : Access) : Type 0 where
  pub settled : (z : Issued) → Stands issued z → z.party ≡ n → z.sequence < s → ordered (party_of n) z.access a ≡ true → by_channel z.access a ≡ false
      → DoneBy trail n z.sequence k
  pub passed : k ≤ now

-- An LDio of processor p to device d, and a block operation of device d on block b, in the trail.
abbrev pub fetches : ℕ → ℕ → Entry → Bool
fetches p d e = eqb e.party p && (is LdIo e.operation && eqb e.space (1 + d))

abbrev pub reaches : ℕ → ℕ → Entry → Bool
reaches d b e = eqb e.party (device_node d) && (is_block e.operation && eqb e.place b)

-- The latest LDio of processor p to device d is done, and read v.
pub record Latest (issued : List Issued) (trail : List Entry) (p d v : ℕ) : Type 0 where
  pub number : ℕ
  pub latest : latest_ldio issued p d ≡ Some number
  pub done : Done trail p number
  pub value : get_or done.entry.values.at 0 0 ≡ v

-- What a load or a collect told is in its operation's entry.
abbrev pub AllTold : List Told → List Entry → Type 0
AllTold told trail =
    (t : Told) → Stands told t → (done : Done trail t.party t.sequence) × (get_or done.entry.values.at 0 0 ≡ t.value)

-- A message that asks for block b on behalf of device d, or gives that back; and a home that gathers for device d.
abbrev pub asks_about : ℕ → ℕ → Message ℕ → Bool
asks_about d b m =
    eqb m.place b
    && cond (same_kind m.kind kind.Nack) (refuses_block m.refused && eqb m.receiver (device_node d)) (is_block_request m.kind && eqb m.sender (device_node d))

abbrev pub gathers_for : ℕ → Home ℕ → Bool
gathers_for d h = gathers h && (is_block_request (round_of h.directory).request.kind && eqb (round_of h.directory).request.requester (device_node d))

module _ {A B : Type 0} where
  -- A node's global number.
  abbrev pub now : World A B → ℕ → ℕ
  now w n = (clock_at w n).global

  -- What device d has out.
  abbrev pub requests_at : World A B → ℕ → Requests
  requests_at w d = cond (ltb d 1) w.first.requests w.second.requests

  -- Where device d has nothing out for block b, nothing is under way for it; and a waiting WORDS or DONE has its home's clock.
  pub record Tracked (w : World A B) : Type 0 where
    pub asked : (d b : ℕ) → d < 2 → b < 16 → out (requests_at w d) b ≡ None → All (λ m. asks_about d b m ≡ false) w.messages
    pub served : (d b : ℕ) → d < 2 → b < 16 → out (requests_at w d) b ≡ None → gathers_for d (home_at w b) ≡ false
    pub replied : All (λ m. (same_kind m.kind kind.Words || same_kind m.kind kind.Done) ≡ true → m.clock ≡ now w m.sender) w.messages

  pub record InLine (h : History A B) : Type 0 where
    pub fitting : (x : Issued) → Stands h.issued x → is_fitting x ≡ true
    pub in_order : InOrder h.issued h.world.trail
    pub messages : (m : Message ℕ) → Stands h.world.messages m → (n s : ℕ) → carries n s m ≡ true
        → Cleared h.issued h.world.trail (now h.world n) n s m.clock (carried_access m)
    pub homes : (b n s : ℕ) → b < 16 → serves n s (home_at h.world b) ≡ true
        → Cleared h.issued h.world.trail (now h.world n) n s (round_of (home_at h.world b).directory).request.clock (served_access b (home_at h.world b))
    pub channels : Pairs Follows h.world.messages
    pub slots : (p d : ℕ) → p < 4 → d < 2 → awaits (processor_at h.world p) d ≡ 0
        → (e : Entry) → Stands h.world.trail e → fetches p d e ≡ true → e.stamp.global < now h.world p
    pub values : (p d : ℕ) → p < 4 → d < 2 → (m : Message ℕ) → Stands h.world.messages m → crosses 18 (device_node d) p m ≡ true
        → (e : Entry) → Stands h.world.trail e → fetches p d e ≡ true → e.stamp.global ≤ m.clock
    pub blocks : (d b : ℕ) → d < 2 → b < 16 → out (requests_at h.world d) b ≡ None
        → (e : Entry) → Stands h.world.trail e → reaches d b e ≡ true → e.stamp.global < now h.world (device_node d)

  pub record Truthful (h : History A B) : Type 0 where
    pub asked : (p d : ℕ) → p < 4 → d < 2 → (m : Message ℕ) → Stands h.world.messages m → crosses 7 p (device_node d) m ≡ true
        → latest_ldio h.issued p d ≡ Some m.sequence
    pub brought : (p d : ℕ) → p < 4 → d < 2 → (m : Message ℕ) → Stands h.world.messages m → crosses 18 (device_node d) p m ≡ true
        → Latest h.issued h.world.trail p d (first_word m.words)
    pub came : (p d v : ℕ) → p < 4 → d < 2 → slot_at (processor_at h.world p).slots d ≡ Came v
        → Latest h.issued h.world.trail p d v
    pub told : AllTold h.told h.world.trail

  pub record Orderly (h : History A B) : Type 0 where
    pub in_line : InLine h
    pub truthful : Truthful h

module _ {A B : Type 0} (ma : Meaning A) (mb : Meaning B) where
  -- What else is known of a history of a board with these figures.
  pub record Known (f : Figures) (h : History A B) : Type 0 where
    pub formed : Formed ma mb f h.world
    pub dated : All (Dated h.world) h.world.trail
    pub seated : All Seated h.world.trail
    pub tracked : Tracked h.world
    pub numbered : Numbered h
