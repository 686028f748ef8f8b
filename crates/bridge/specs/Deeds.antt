-- What a bridge does: the device's new state, what it sends, and the operation that it does. The bridge b has its
-- new clock already.
use Rattle.std.specs.Prelude.{ℕ, ◌+◌, Some, None, slice_index}
use Rattle.ordering.specs.Stamps.{stamped}
use Rattle.ordering.specs.Words.{one_word}
use Rattle.ordering.specs.declared.clock.Clock.{Clock}
use Rattle.ordering.specs.declared.operation.Operation.{Operation}
use Rattle.ordering.specs.declared.operation.Operation.TheVariants.{LdIo, StIo}
use Rattle.ordering.specs.declared.operation.Words.{Words}
use Rattle.trail.specs.declared.entry.Entry.{Entry}
use Rattle.device.specs.Meaning.{Meaning, read_exit, write_exit}
use Rattle.message.specs.Messages.{plain}
use Rattle.message.specs.Nodes.{device_node}
use Rattle.message.specs.Reactions.{sending, doing}
use Rattle.message.specs.declared.kind.Kind.TheVariants as kind
use Rattle.message.specs.declared.message.Message.{Message}
use Rattle.message.specs.declared.reaction.Reaction.{Reaction}
use Rattle.bridge.specs.States.{at_numbers, at_request, at_device}
use Rattle.bridge.specs.declared.plan.Deed.{Deed}
use Rattle.bridge.specs.declared.plan.Deed.TheVariants.{Load, Store, Interrupt, Request, Read, Write, Land, Finish, Resend}
use Rattle.bridge.specs.declared.plan.Plan.{Plan}
use Rattle.bridge.specs.declared.plan.WordAccess.{WordAccess}
use Rattle.bridge.specs.declared.state.Bridge.{Bridge}

-- The entry of an operation at one of the device's words, in the device's space, stamped at its node.
abbrev pub access_entry : ℕ → Clock ℕ → WordAccess → Operation → ℕ → Entry
access_entry d c a o v = record {
  party = a.party;
  sequence = a.sequence;
  operation = o;
  space = 1 + d;
  place = a.place;
  values = one_word v;
  stamp = stamped c (device_node d);
}

abbrev pub word_at : {S : Type 0} → Meaning S → Bridge S ℕ → ℕ → ℕ
word_at m b w = slice_index (m.words b.device) w

-- An own LDio: the word is read, and the device told it.
abbrev pub loaded : {S : Type 0} → Meaning S → ℕ → Bridge S ℕ → WordAccess → Reaction (Bridge S ℕ)
loaded m d b a =
    doing (access_entry d b.clock a LdIo (word_at m b a.place)) None
    (at_device (m.accepted (read_exit m b.device a.place) (word_at m b a.place)) b)

-- An own STio: the word is written, and the device told.
abbrev pub stored : {S : Type 0} → Meaning S → ℕ → Bridge S ℕ → WordAccess → ℕ → Reaction (Bridge S ℕ)
stored m d b a v =
    doing (access_entry d b.clock a StIo v) None
    (at_device (m.accepted (write_exit m b.device a.place v) 0) b)

-- A wish goes out as a message, and the device is told.
abbrev pub accepted : {S : Type 0} → Meaning S → Bridge S ℕ → Message ℕ → Reaction (Bridge S ℕ)
accepted m b x = sending x (at_device (m.accepted b.device 0) b)

-- A block request is then out.
abbrev pub requested : {S : Type 0} → Meaning S → Bridge S ℕ → Message ℕ → Reaction (Bridge S ℕ)
requested m b x = accepted m (at_request x.place (Some x.kind) b) x

-- A processor's LDio: the word is read, and VALUE carries it back with the new clock.
abbrev pub value_of : ℕ → Clock ℕ → WordAccess → ℕ → Message ℕ
value_of d c a v =
    record (plain kind.Value (device_node d) a.party a.place) { words = one_word v; clock = c.global }

abbrev pub answered : {S : Type 0} → Meaning S → ℕ → Bridge S ℕ → WordAccess → Reaction (Bridge S ℕ)
answered m d b a =
    let word = word_at m b a.place in
    record (sending (value_of d b.clock a word) (at_device (read_exit m b.device a.place) b)) {
      entry = Some (access_entry d b.clock a LdIo word);
    }

-- A processor's STio: the word is written.
abbrev pub written : {S : Type 0} → Meaning S → ℕ → Bridge S ℕ → WordAccess → ℕ → Reaction (Bridge S ℕ)
written m d b a v =
    doing (access_entry d b.clock a StIo v) None (at_device (write_exit m b.device a.place v) b)

-- A block request is answered: it ends, and TAKEN goes to the home. At WORDS the device is told the words first.
abbrev pub ended : {S : Type 0} → ℕ → Bridge S ℕ → ℕ → ℕ → Reaction (Bridge S ℕ)
ended d b h k = sending (plain kind.Taken (device_node d) h k) (at_request k None b)

abbrev pub landed : {S : Type 0} → Meaning S → ℕ → Bridge S ℕ → ℕ → ℕ → Words → Reaction (Bridge S ℕ)
landed m d b h k ws = ended d (at_device (m.landed b.device k ws) b) h k

abbrev pub deed_done : {S : Type 0} → Deed → Meaning S → ℕ → Bridge S ℕ → Reaction (Bridge S ℕ)
deed_done (Load a) m d b = loaded m d b a
deed_done (Store a v) m d b = stored m d b a v
deed_done (Interrupt x) m d b = accepted m b x
deed_done (Request x) m d b = requested m b x
deed_done (Read a) m d b = answered m d b a
deed_done (Write a v) m d b = written m d b a v
deed_done (Land h k ws) m d b = landed m d b h k ws
deed_done (Finish h k) m d b = ended d b h k
deed_done (Resend x) m d b = sending x b

abbrev pub performed : {S : Type 0} → Meaning S → ℕ → Bridge S ℕ → Plan ℕ → Reaction (Bridge S ℕ)
performed m d b p = deed_done p.deed m d (at_numbers p.clock p.sequence b)

-- What leaves the node.
abbrev pub Outcome : Type 0
Outcome = Reaction (Unit {0})

abbrev pub outcome_of : {S : Type 0} → Reaction (Bridge S ℕ) → Outcome
outcome_of r = record { next = tt; sent = r.sent; entry = r.entry; answer = None }
