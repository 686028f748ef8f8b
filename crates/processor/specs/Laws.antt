-- What holds of every reaction of a processor, in every state.
use Rattle.std.specs.Prelude.{◌≡◌, ℕ, ◌+◌, ◌<◌, ◌≤◌, Bool, true, false, ◌||◌, ◌≢◌, ◌⊎◌, length, is_some, Some, None, Ok, Err}
use Rattle.ordering.specs.Stamps.{stamped}
use Rattle.ordering.specs.declared.operation.Words.{Words}
use Rattle.trail.specs.declared.entry.Entry.{Entry}
use Rattle.message.specs.Kinds.{same_kind}
use Rattle.message.specs.Nodes.{device_node}
use Rattle.message.specs.Reactions.{silent, single, sent_count}
use Rattle.message.specs.Requests.{out, is_out}
use Rattle.message.specs.declared.kind.Kind.{Kind}
use Rattle.message.specs.declared.kind.Kind.TheVariants as kind
use Rattle.message.specs.declared.message.Message.{Message}
use Rattle.message.specs.declared.reaction.Reaction.{Reaction}
use Rattle.processor.specs.Calls.{load, store, request, ldio, stio, collect, poll}
use Rattle.processor.specs.Inputs.{Input, reaction, message_of, stored_word}
use Rattle.processor.specs.Lines.{line_at, held_words, owned_words, block_of}
use Rattle.processor.specs.Receive.{receive}
use Rattle.processor.specs.Slots.{slot_at, is_awaited}
use Rattle.processor.specs.States.{made}
use Rattle.processor.specs.declared.line.Line.{Line}
use Rattle.processor.specs.declared.line.Line.TheVariants.{Invalid, Shared}
use Rattle.processor.specs.declared.refusal.Refusal.TheVariants.{RequestOut, Awaits, SlotTaken}
use Rattle.processor.specs.declared.slot.Slot.TheVariants.{Free, Abandoned}
use Rattle.processor.specs.declared.state.Processor.{Processor}
use Rattle.ordering.specs.Clocks.{Earlier}
use Rattle.ordering.specs.Words.{one_word, first_word}

-- A law about every reaction: the state before, the processor's number, what came, and the reaction.
abbrev pub EachReaction : (Processor ℕ → ℕ → Input → Reaction (Processor ℕ) → Type 0) → Type 0
EachReaction Holds = (s : Processor ℕ) (n : ℕ) (i : Input) (r : Reaction (Processor ℕ)) → reaction s n i ≡ Some r
    → Holds s n i r

-- A law about every reaction to a message: the state before, the processor's number, the message, and the reaction.
abbrev pub EachReceipt : (Processor ℕ → ℕ → Message ℕ → Reaction (Processor ℕ) → Type 0) → Type 0
EachReceipt Holds = (s : Processor ℕ) (n : ℕ) (m : Message ℕ) (r : Reaction (Processor ℕ)) → receive s n m ≡ Some r
    → Holds s n m r

-- Kinds whose clock a processor passes.
abbrev pub tells_time : Kind → Bool
tells_time k =
    same_kind k kind.Int || same_kind k kind.SData || same_kind k kind.XData || same_kind k kind.Grant
    || same_kind k kind.Done || same_kind k kind.Value

-- Kinds by which a home asks a processor to give way.
abbrev pub asks : Kind → Bool
asks k = same_kind k kind.Inv || same_kind k kind.Down

-- No reaction takes the clock back, and one that does an operation takes it on. After INV and DOWN the global
-- number is above what it was, and after a message whose clock is passed it is above that too.
pub record ClocksGoOn : Type 0 where
  pub never_back : EachReaction (λ s n i r. (r.next.clock ≡ s.clock) ⊎ Earlier s.clock r.next.clock)
  pub at_operations : EachReaction (λ s n i r. is_some r.entry ≡ true → Earlier s.clock r.next.clock)
  pub when_asked : EachReaction (λ s n i r. (m : Message ℕ) → message_of i ≡ Some m → asks m.kind ≡ true
      → s.clock.global < r.next.clock.global)
  pub past_messages : EachReaction (λ s n i r. (m : Message ℕ) → message_of i ≡ Some m → tells_time m.kind ≡ true
      → m.clock < r.next.clock.global)

-- An operation is stamped with the clock after it. At a call it is the processor's own and has its next number,
-- which is then used up; at a message it is the sender's and has the message's number.
pub record EntriesAreStamped : Type 0 where
  pub stamps : EachReaction (λ s n i r. (e : Entry) → r.entry ≡ Some e → e.stamp ≡ stamped r.next.clock n)
  pub own : EachReaction (λ s n i r. (e : Entry) → r.entry ≡ Some e → message_of i ≡ None
      → (e.party ≡ n) × (e.sequence ≡ s.sequence) × (r.next.sequence ≡ s.sequence + 1))
  pub sent : EachReaction (λ s n i r. (e : Entry) (m : Message ℕ) → r.entry ≡ Some e → message_of i ≡ Some m
      → (e.party ≡ m.sender) × (e.sequence ≡ m.sequence) × (r.next.sequence ≡ s.sequence))

-- INV leaves the line I; DOWN leaves it S, with its words.
pub record AskedLinesGiveWay : Type 0 where
  pub inv : EachReceipt (λ s n m r. same_kind m.kind kind.Inv ≡ true → line_at r.next.lines m.place ≡ Invalid)
  pub down : EachReceipt (λ s n m r. same_kind m.kind kind.Down ≡ true → (ws : Words)
      → held_words (line_at s.lines m.place) ≡ Some ws → line_at r.next.lines m.place ≡ Shared ws)

-- A copy is asked for, by GETS or GETX, only while none is held.
abbrev pub CopiesAreMissing : Processor ℕ → Type 0
CopiesAreMissing s = (b : ℕ) → (is_out s.requests b kind.Gets || is_out s.requests b kind.Getx) ≡ true
    → line_at s.lines b ≡ Invalid

-- Every reaction keeps that,
abbrev pub CopiesStayMissing : Type 0
CopiesStayMissing = EachReaction (λ s n i r. CopiesAreMissing s → CopiesAreMissing r.next)

-- and a line that is held before and after it has the same words, unless the call was a store to its block.
abbrev pub HeldWordsStay : Type 0
HeldWordsStay = EachReaction (λ s n i r. CopiesAreMissing s → (b : ℕ) → ((w : ℕ) → stored_word i ≡ Some w
    → block_of w ≢ b) → (before after : Words) → held_words (line_at s.lines b) ≡ Some before
    → held_words (line_at r.next.lines b) ≡ Some after → after ≡ before)

pub record OnlyStoresChangeWords : Type 0 where
  pub start : (clock : ℕ) → CopiesAreMissing (made clock)
  pub kept : CopiesStayMissing
  pub words : HeldWordsStay

-- NACK ends the request, and changes, sends and tells nothing else.
pub record OnlyEndsTheRequest (s : Processor ℕ) (b : ℕ) (r : Reaction (Processor ℕ)) : Type 0 where
  pub ended : out r.next.requests b ≡ None
  pub others : (c : ℕ) → c ≢ b → out r.next.requests c ≡ out s.requests c
  pub clock : r.next.clock ≡ s.clock
  pub sequence : r.next.sequence ≡ s.sequence
  pub lines : r.next.lines ≡ s.lines
  pub slots : r.next.slots ≡ s.slots
  pub register : r.next.register ≡ s.register
  pub sends : r.sent ≡ silent
  pub does : r.entry ≡ None
  pub tells : r.answer ≡ None

abbrev pub NackOnlyEnds : Type 0
NackOnlyEnds = EachReceipt (λ s n m r. same_kind m.kind kind.Nack ≡ true → OnlyEndsTheRequest s m.place r)

-- A slot that was given up before its word came stays taken until VALUE comes from its device; no LDio gets it.
abbrev pub AbandonedStays : Type 0
AbandonedStays = EachReaction (λ s n i r. (d : ℕ) → slot_at s.slots d ≡ Abandoned → ((m : Message ℕ)
    → message_of i ≡ Some m → same_kind m.kind kind.Value ≡ true → m.sender ≢ device_node d)
    → slot_at r.next.slots d ≡ Abandoned)

pub record GivenUpSlotsStayTaken : Type 0 where
  pub stays : AbandonedStays
  pub taken : (s : Processor ℕ) (n d w : ℕ) → slot_at s.slots d ≡ Abandoned → ldio s n d w ≡ Err (SlotTaken d)

-- An operation of its own is done only once the word of every own LDio has come, given up or not.
abbrev pub OwnOperationsWait : Type 0
OwnOperationsWait = EachReaction (λ s n i r. message_of i ≡ None → is_some r.entry ≡ true → (d : ℕ) → d < 2
    → is_awaited (slot_at s.slots d) ≡ false)

-- A held line has four words.
abbrev pub FourWords : Processor ℕ → Type 0
FourWords s = (b : ℕ) (ws : Words) → held_words (line_at s.lines b) ≡ Some ws → length ws.at ≡ 4

-- A load tells what its entry has, and after a store to its word the value stored; a poll tells what the
-- interrupt's entry has, a collect the word that VALUE brought.
pub record ToldWordsAreTrue : Type 0 where
  pub loaded : (s : Processor ℕ) (n w : ℕ) (r : Reaction (Processor ℕ)) → load s n w ≡ Ok r → (e : Entry)
      → r.entry ≡ Some e → r.answer ≡ Some (first_word e.values)
  pub entered : (s : Processor ℕ) (n w : ℕ) (r : Reaction (Processor ℕ)) → load s n w ≡ Ok r → is_some r.entry ≡ true
  pub polled : EachReceipt (λ s n m r. (e : Entry) → r.entry ≡ Some e
      → (poll r.next).answer ≡ Some (first_word e.values))
  pub stored : (s : Processor ℕ) (n w v : ℕ) (r q : Reaction (Processor ℕ)) → FourWords s → store s n w v ≡ Ok r
      → load r.next n w ≡ Ok q → q.answer ≡ Some v
  pub collected : (s : Processor ℕ) (n d : ℕ) (m : Message ℕ) (r q : Reaction (Processor ℕ)) → receive s n m ≡ Some r
      → same_kind m.kind kind.Value ≡ true → m.sender ≡ device_node d → collect r.next d ≡ Ok q
      → q.answer ≡ Some (first_word m.words)

-- The kinds that a processor has a rule for.
abbrev pub is_for_processor : Kind → Bool
is_for_processor k = asks k || tells_time k || same_kind k kind.Nack

-- Any other kind has none. No reaction sends more than one message.
pub record ProcessorsKeepToTheirPart : Type 0 where
  pub others : (s : Processor ℕ) (n : ℕ) (m : Message ℕ) → is_for_processor m.kind ≡ false → receive s n m ≡ None
  pub single : EachReaction (λ s n i r. sent_count r.sent ≤ 1)

-- What was asked for is what is written: an ST has the value of its call, Wio carries that of an STio, and an interrupt has the
-- word that came.
pub record ProcessorsWriteAsAsked : Type 0 where
  pub stored : (s : Processor ℕ) (n w v : ℕ) (r : Reaction (Processor ℕ)) → store s n w v ≡ Ok r → (e : Entry)
      → r.entry ≡ Some e → (e.values ≡ one_word v) × (e.place ≡ w)
  pub sent : (s : Processor ℕ) (n d w v : ℕ) (r : Reaction (Processor ℕ)) → stio s n d w v ≡ Ok r → (y : Message ℕ)
      → r.sent ≡ single y → (y.words ≡ one_word v) × (y.place ≡ w) × (y.receiver ≡ device_node d)
  pub interrupted : EachReceipt (λ s n m r. (e : Entry) → r.entry ≡ Some e → e.values ≡ one_word (first_word m.words))

-- What is told is told once: a second poll tells nothing, and a collected slot is free again.
pub record ToldOnce : Type 0 where
  pub polled : (s : Processor ℕ) → (poll (poll s).next).answer ≡ None
  pub collected : (s : Processor ℕ) (d : ℕ) (r : Reaction (Processor ℕ)) → collect s d ≡ Ok r
      → slot_at r.next.slots d ≡ Free

-- Where a request has its place: GETS and GETX where no copy is held, UPG at a shared one, WB at one's own; no other kind.
pub record HasPlace (l : Line) (k : Kind) : Type 0 where
  pub copy : (same_kind k kind.Gets || same_kind k kind.Getx) ≡ true → l ≡ Invalid
  pub better : same_kind k kind.Upg ≡ true → (is_some (held_words l) ≡ true) × (is_some (owned_words l) ≡ false)
  pub back : same_kind k kind.Wb ≡ true → is_some (owned_words l) ≡ true
  pub others : (same_kind k kind.Gets || same_kind k kind.Getx || same_kind k kind.Upg || same_kind k kind.Wb) ≡ true

abbrev pub RequestsHavePlaces : Type 0
RequestsHavePlaces = (s : Processor ℕ) (n b : ℕ) (k : Kind) (r : Reaction (Processor ℕ)) → request s n b k ≡ Ok r
    → HasPlace (line_at s.lines b) k

-- Of two things that stand in the way the first is told: a word that is awaited only where the line would do, and a request
-- that is out only where this one has its place.
pub record RefusedInOrder : Type 0 where
  pub loads : (s : Processor ℕ) (n w d : ℕ) → load s n w ≡ Err (Awaits d)
      → is_some (held_words (line_at s.lines (block_of w))) ≡ true
  pub stores : (s : Processor ℕ) (n w v d : ℕ) → store s n w v ≡ Err (Awaits d)
      → is_some (owned_words (line_at s.lines (block_of w))) ≡ true
  pub requests : (s : Processor ℕ) (n b c : ℕ) (k : Kind) → request s n b k ≡ Err (RequestOut c)
      → HasPlace (line_at s.lines b) k
