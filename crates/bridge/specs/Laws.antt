-- What holds of every reaction of a bridge, in every state and around every device.
use Rattle.std.specs.Prelude.{◌≡◌, ℕ, ◌+◌, ◌<◌, ◌≤◌, Bool, true, false, if◌then◌else◌, ◌||◌, ◌⊎◌, List, [], ◌∷◌, length, is_some, Some, None, Err, Option, slice_index, slice_set}
use Rattle.ordering.specs.Operations.{is, is_block}
use Rattle.ordering.specs.Stamps.{stamped}
use Rattle.ordering.specs.Words.{one_word, first_word}
use Rattle.ordering.specs.declared.operation.Operation.TheVariants as operation
use Rattle.trail.specs.declared.entry.Entry.{Entry}
use Rattle.device.specs.Events.{Event, reads, writes, accepts, lands, after}
use Rattle.device.specs.Meaning.{Meaning}
use Rattle.device.specs.declared.meaning.Wish.{Wish}
use Rattle.message.specs.Kinds.{same_kind}
use Rattle.message.specs.Messages.{plain}
use Rattle.message.specs.Nodes.{device_node}
use Rattle.message.specs.Reactions.{sent_count, single}
use Rattle.message.specs.Requests.{out}
use Rattle.message.specs.declared.kind.Kind.{Kind}
use Rattle.message.specs.declared.kind.Kind.TheVariants as kind
use Rattle.message.specs.declared.message.Message.{Message}
use Rattle.bridge.specs.Acts.{any_out}
use Rattle.bridge.specs.Deeds.{performed}
use Rattle.bridge.specs.Faults.{fault_place}
use Rattle.bridge.specs.Inputs.{EachReaction, EachReceipt, message_of}
use Rattle.bridge.specs.Plans.{sends, enters}
use Rattle.bridge.specs.Reactions.{act, receive}
use Rattle.bridge.specs.States.{made}
use Rattle.bridge.specs.declared.fault.DeviceFault.{DeviceFault}
use Rattle.bridge.specs.declared.fault.DeviceFault.TheVariants.{NoWish, BadWish, MustWait}
use Rattle.bridge.specs.declared.plan.Deed.{Deed}
use Rattle.bridge.specs.declared.plan.Deed.TheVariants.{Load, Store, Interrupt, Request, Read, Write, Land}
use Rattle.bridge.specs.declared.plan.Plan.{Plan}
use Rattle.bridge.specs.declared.state.Bridge.{Bridge}
use Rattle.ordering.specs.Clocks.{Earlier}

-- Kinds whose clock a bridge passes.
abbrev pub tells_time : Kind → Bool
tells_time k = same_kind k kind.Rio || same_kind k kind.Wio || same_kind k kind.Done || same_kind k kind.Words

-- No reaction takes the clock back, and one that does an operation takes it on. After a message whose clock is
-- passed the global number is above it; a wish that goes out as a message, and a NACK, leave the clock alone.
pub record ClocksGoOn {S : Type 0} (m : Meaning S) : Type 0 where
  pub never_back : EachReaction m (λ b d i r. (r.next.clock ≡ b.clock) ⊎ Earlier b.clock r.next.clock)
  pub at_operations : EachReaction m (λ b d i r. is_some r.entry ≡ true → Earlier b.clock r.next.clock)
  pub past_messages : EachReaction m (λ b d i r. (x : Message ℕ) → message_of i ≡ Some x → tells_time x.kind ≡ true
      → (x.clock < r.next.clock.global) × (b.clock.global < r.next.clock.global))
  pub at_wishes : EachReaction m (λ b d i r. message_of i ≡ None → is_some r.entry ≡ false → r.next.clock ≡ b.clock)
  pub at_nack : EachReaction m (λ b d i r. (x : Message ℕ) → message_of i ≡ Some x
      → same_kind x.kind kind.Nack ≡ true → r.next.clock ≡ b.clock)

-- An operation is in the device's space and stamped with the clock after it, at the device's node. At a wish it is
-- the device's own and has its next number; at a message it is the sender's and has the message's number. The
-- device's next number is used up by every wish and by nothing else.
pub record EntriesAreStamped {S : Type 0} (m : Meaning S) : Type 0 where
  pub stamps : EachReaction m (λ b d i r. (e : Entry) → r.entry ≡ Some e
      → (e.stamp ≡ stamped r.next.clock (device_node d)) × (e.space ≡ 1 + d))
  pub own : EachReaction m (λ b d i r. (e : Entry) → r.entry ≡ Some e → message_of i ≡ None
      → (e.party ≡ device_node d) × (e.sequence ≡ b.sequence))
  pub sent : EachReaction m (λ b d i r. (e : Entry) (x : Message ℕ) → r.entry ≡ Some e → message_of i ≡ Some x
      → (e.party ≡ x.sender) × (e.sequence ≡ x.sequence))
  pub numbers : EachReaction m (λ b d i r. r.next.sequence ≡ (if is_some (message_of i) then b.sequence else b.sequence + 1))

-- Words once an operation is done: an STio writes its value at its place.
abbrev pub rewritten : List ℕ → Option Entry → List ℕ
rewritten ws None = ws
rewritten ws (Some e) = if is operation.StIo e.operation then slice_set ws e.place (first_word e.values) else ws

-- After every reaction the device's words are those before, but for what the entry of an STio says; the entry of
-- an LDio has the word that stands at its place. Both go to a word that the device has.
pub record OnlyStoresWrite {S : Type 0} (m : Meaning S) : Type 0 where
  pub words : EachReaction m (λ b d i r. m.words r.next.device ≡ rewritten (m.words b.device) r.entry)
  pub loads : EachReaction m (λ b d i r. (e : Entry) → r.entry ≡ Some e → is operation.LdIo e.operation ≡ true
      → e.values ≡ one_word (slice_index (m.words b.device) e.place))
  pub places : EachReaction m (λ b d i r. (e : Entry) → r.entry ≡ Some e
      → ((is operation.LdIo e.operation || is operation.StIo e.operation) ≡ true) × (e.place < length (m.words b.device)))

-- The VALUE that tells an LDio.
abbrev pub telling : ℕ → Entry → Message ℕ
telling d e =
    record (plain kind.Value (device_node d) e.party e.place) { words = e.values; clock = e.stamp.global }

-- At Rio an operation is done, and what VALUE carries is what its entry has.
pub record ValuesAreEntered {S : Type 0} (m : Meaning S) : Type 0 where
  pub entered : EachReceipt m (λ b d x r. same_kind x.kind kind.Rio ≡ true → is_some r.entry ≡ true)
  pub carried : EachReceipt m (λ b d x r. same_kind x.kind kind.Rio ≡ true → (e : Entry) → r.entry ≡ Some e
      → r.sent ≡ single (telling d e))

-- At NACK the bridge stays as it is, and sends the request to the same home once more: the refused kind, the words
-- and the number that came back, and the clock as it stands now.
pub record SentAgain {S : Type 0} (b : Bridge S ℕ) (d : ℕ) (x : Message ℕ) (k : Kind) (y : Message ℕ) : Type 0 where
  pub kind : y.kind ≡ k
  pub sender : y.sender ≡ device_node d
  pub receiver : y.receiver ≡ x.sender
  pub place : y.place ≡ x.place
  pub words : y.words ≡ x.words
  pub clock : y.clock ≡ b.clock.global
  pub sequence : y.sequence ≡ x.sequence

pub record RefusedRequestsGoOutAgain {S : Type 0} (m : Meaning S) : Type 0 where
  pub stays : EachReceipt m (λ b d x r. same_kind x.kind kind.Nack ≡ true → r.next ≡ b)
  pub sends : EachReceipt m (λ b d x r. same_kind x.kind kind.Nack ≡ true → sent_count r.sent ≡ 1)
  pub again : EachReceipt m (λ b d x r. same_kind x.kind kind.Nack ≡ true → (k : Kind) (y : Message ℕ)
      → x.refused ≡ Some k → r.sent ≡ single y → SentAgain b d x k y)

-- What a device has out are requests to read or write a block,
abbrev pub asks_for_block : Kind → Bool
asks_for_block k = same_kind k kind.Rblk || same_kind k kind.Wblk

abbrev pub BlocksOnly : {S : Type 0} → Bridge S ℕ → Type 0
BlocksOnly b = (k : ℕ) (j : Kind) → out b.requests k ≡ Some j → asks_for_block j ≡ true

abbrev pub RequestsStayForBlocks : {S : Type 0} → Meaning S → Type 0
RequestsStayForBlocks m = EachReaction m (λ b d i r. BlocksOnly b → BlocksOnly r.next)

-- at most one for a block: it is asked for only while none is out, and WORDS and DONE end it.
pub record RequestsAreForBlocks {S : Type 0} (m : Meaning S) : Type 0 where
  pub start : (clock : ℕ) (s : S) → BlocksOnly (made clock s)
  pub kept : RequestsStayForBlocks m
  pub asked : EachReaction m (λ b d i r. message_of i ≡ None → (y : Message ℕ) → r.sent ≡ single y
      → asks_for_block y.kind ≡ true → out b.requests y.place ≡ None)
  pub noted : EachReaction m (λ b d i r. length b.requests.at ≡ 16 → message_of i ≡ None → (y : Message ℕ)
      → r.sent ≡ single y → asks_for_block y.kind ≡ true → out r.next.requests y.place ≡ Some y.kind)
  pub ended : EachReaction m (λ b d i r. (x : Message ℕ) → message_of i ≡ Some x
      → (same_kind x.kind kind.Words || same_kind x.kind kind.Done) ≡ true
      → (out r.next.requests x.place ≡ None) × (r.sent ≡ single (plain kind.Taken (device_node d) x.sender x.place)))

-- An INT is never sent while a request is out, whatever block it is for.
abbrev pub InterruptsWait : {S : Type 0} → Meaning S → Type 0
InterruptsWait m = EachReaction m (λ b d i r. BlocksOnly b → (y : Message ℕ) → r.sent ≡ single y
    → same_kind y.kind kind.Int ≡ true → (k : ℕ) → out b.requests k ≡ None)

-- The kinds that a bridge has a rule for.
abbrev pub is_for_device : Kind → Bool
is_for_device k = tells_time k || same_kind k kind.Nack

-- Any other kind has none. No reaction sends more than one message, or tells anything. A refused wish names its device.
pub record BridgesKeepToTheirPart {S : Type 0} (m : Meaning S) : Type 0 where
  pub others : (b : Bridge S ℕ) (d : ℕ) (x : Message ℕ) → is_for_device x.kind ≡ false → receive m d b x ≡ None
  pub single : EachReaction m (λ b d i r. sent_count r.sent ≤ 1)
  pub tells : EachReaction m (λ b d i r. r.answer ≡ None)
  pub named : (b : Bridge S ℕ) (d ps : ℕ) (f : DeviceFault) → act m d ps b ≡ Err f → fault_place f ≡ d

-- A device without a wish gets nothing done. A wish for an LD or ST is no device's. An own LDio or STio is refused
-- only for a word that the device does not have. A wish has to wait only while a block request is out, and only where its
-- processor or its block is there.
pub record WishesAreJudged {S : Type 0} (m : Meaning S) : Type 0 where
  pub none : (b : Bridge S ℕ) (d ps : ℕ) → m.wish b.device ≡ None → act m d ps b ≡ Err (NoWish d)
  pub foreign : (b : Bridge S ℕ) (d ps : ℕ) (h : Wish) → m.wish b.device ≡ Some h
      → (is operation.Ld h.operation || is operation.St h.operation) ≡ true → act m d ps b ≡ Err (BadWish d)
  pub own : (b : Bridge S ℕ) (d ps : ℕ) (h : Wish) (f : DeviceFault) → m.wish b.device ≡ Some h
      → (is operation.LdIo h.operation || is operation.StIo h.operation) ≡ true → act m d ps b ≡ Err f
      → (f ≡ BadWish d) × (length (m.words b.device) ≤ h.place)
  pub waits : (b : Bridge S ℕ) (d ps : ℕ) → act m d ps b ≡ Err (MustWait d) → any_out b.requests ≡ true
  pub interrupts : (b : Bridge S ℕ) (d ps : ℕ) (h : Wish) → m.wish b.device ≡ Some h
      → is operation.Int h.operation ≡ true → act m d ps b ≡ Err (MustWait d) → h.processor < ps
  pub blocks : (b : Bridge S ℕ) (d ps : ℕ) (h : Wish) → m.wish b.device ≡ Some h → is_block h.operation ≡ true
      → act m d ps b ≡ Err (MustWait d) → h.place < 16

-- What is done to the device at each deed, call after call, and that is all that is done to it.
abbrev pub calls_of : {S : Type 0} → Meaning S → S → Deed → List Event
calls_of m s (Load a) = reads a.place ∷ accepts (slice_index (m.words s) a.place) ∷ []
calls_of m s (Store a v) = writes a.place v ∷ accepts 0 ∷ []
calls_of m s (Interrupt x) = accepts 0 ∷ []
calls_of m s (Request x) = accepts 0 ∷ []
calls_of m s (Read a) = reads a.place ∷ []
calls_of m s (Write a v) = writes a.place v ∷ []
calls_of m s (Land h k ws) = lands k ws ∷ []
calls_of m s _ = []

-- A plan tells beforehand the numbers that the bridge will have, how many messages it will send, whether it will do
-- an operation, and what will be done to the device.
pub record PlansAreKept {S : Type 0} (m : Meaning S) : Type 0 where
  pub clock : (b : Bridge S ℕ) (d : ℕ) (p : Plan ℕ) → (performed m d b p).next.clock ≡ p.clock
  pub sequence : (b : Bridge S ℕ) (d : ℕ) (p : Plan ℕ) → (performed m d b p).next.sequence ≡ p.sequence
  pub messages : (b : Bridge S ℕ) (d : ℕ) (p : Plan ℕ) → sent_count (performed m d b p).sent ≡ sends p.deed
  pub entries : (b : Bridge S ℕ) (d : ℕ) (p : Plan ℕ) → is_some (performed m d b p).entry ≡ enters p.deed
  pub calls : (b : Bridge S ℕ) (d : ℕ) (p : Plan ℕ)
      → (performed m d b p).next.device ≡ after m b.device (calls_of m b.device p.deed)

-- What was asked for is what is written: an STio has the value that Wio brought or the wish's first word, Wblk carries the
-- words of the wish, and INT its first.
pub record BridgesWriteAsAsked {S : Type 0} (m : Meaning S) : Type 0 where
  pub brought : EachReaction m (λ b d i r. (x : Message ℕ) → message_of i ≡ Some x → (e : Entry) → r.entry ≡ Some e
      → is operation.StIo e.operation ≡ true → e.values ≡ one_word (first_word x.words))
  pub wished : EachReaction m (λ b d i r. message_of i ≡ None → (h : Wish) → m.wish b.device ≡ Some h → (e : Entry)
      → r.entry ≡ Some e → is operation.StIo e.operation ≡ true → e.values ≡ one_word (first_word h.words))
  pub stored : EachReaction m (λ b d i r. message_of i ≡ None → (h : Wish) → m.wish b.device ≡ Some h
      → (y : Message ℕ) → r.sent ≡ single y → same_kind y.kind kind.Wblk ≡ true → y.words ≡ h.words)
  pub interrupted : EachReaction m (λ b d i r. message_of i ≡ None → (h : Wish) → m.wish b.device ≡ Some h
      → (y : Message ℕ) → r.sent ≡ single y → same_kind y.kind kind.Int ≡ true
      → y.words ≡ one_word (first_word h.words))
