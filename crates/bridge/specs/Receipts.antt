-- What a bridge decides to do when a message reaches it, or none where there is no rule. The fields that a kind
-- leaves empty, and who may send it, are not looked at here.
use Rattle.std.specs.Prelude.{ℕ, if◌then◌else◌, Some, None, Option, nat_lt}
use Rattle.ordering.specs.Clocks.{passed, counted}
use Rattle.ordering.specs.declared.clock.Clock.{Clock}
use Rattle.device.specs.Meaning.{Meaning}
use Rattle.message.specs.Messages.{plain}
use Rattle.message.specs.Nodes.{device_node}
use Rattle.message.specs.Requests.{is_out}
use Rattle.message.specs.declared.kind.Kind.{Kind}
use Rattle.message.specs.declared.kind.Kind.TheVariants as kind
use Rattle.message.specs.declared.message.Message.{Message}
use Rattle.bridge.specs.Acts.{word_count}
use Rattle.bridge.specs.declared.plan.Deed.{Deed}
use Rattle.bridge.specs.declared.plan.Deed.TheVariants.{Read, Write, Land, Finish, Resend}
use Rattle.bridge.specs.declared.plan.Plan.{Plan}
use Rattle.bridge.specs.declared.plan.WordAccess.{WordAccess}
use Rattle.bridge.specs.declared.state.Bridge.{Bridge}
use Rattle.ordering.specs.Words.{first_word}

-- The device's own numbers go on only at its own operations.
abbrev pub answering : {S : Type 0} → Bridge S ℕ → Clock ℕ → Deed → Plan ℕ
answering b c a = record { clock = c; sequence = b.sequence; deed = a }

-- Rio and Wio: the bridge passes the message's clock and does the sender's operation, at a word that the device has.
abbrev pub asked_access : Message ℕ → WordAccess
asked_access x = record { party = x.sender; sequence = x.sequence; place = x.place }

abbrev pub asked : {S : Type 0} → Meaning S → Bridge S ℕ → Message ℕ → Deed → Option (Plan ℕ)
asked m b x a =
    if nat_lt x.place (word_count m b) then Some (answering b (counted (passed b.clock x.clock)) a) else None

-- WORDS and DONE: the request that is answered is out for the block, and the clock is passed.
abbrev pub replied : {S : Type 0} → Bridge S ℕ → Message ℕ → Kind → Deed → Option (Plan ℕ)
replied b x k a =
    if is_out b.requests x.place k then Some (answering b (passed b.clock x.clock) a) else None

-- NACK: the refused request goes to the same home again, with the clock as it stands now and the words and number
-- that came back. No clock moves.
abbrev pub again : {S : Type 0} → Kind → ℕ → Bridge S ℕ → Message ℕ → Message ℕ
again k d b x =
    record (plain k (device_node d) x.sender x.place) { words = x.words; clock = b.clock.global; sequence = x.sequence }

abbrev pub refused : {S : Type 0} → ℕ → Bridge S ℕ → Message ℕ → Option (Plan ℕ)
refused d b x =
    elim x.refused [
      | None ↦ None
      | Some k ↦ if is_out b.requests x.place k then Some (answering b b.clock (Resend (again k d b x))) else None
    ]

-- The rules by kind. DONE answers Wblk, WORDS answers Rblk. Every other kind goes to processors or homes.
abbrev pub receive_kind : {S : Type 0} → Kind → Meaning S → ℕ → Bridge S ℕ → Message ℕ → Option (Plan ℕ)
receive_kind kind.Rio m d b x = asked m b x (Read (asked_access x))
receive_kind kind.Wio m d b x = asked m b x (Write (asked_access x) (first_word x.words))
receive_kind kind.Done m d b x = replied b x kind.Wblk (Finish x.sender x.place)
receive_kind kind.Words m d b x = replied b x kind.Rblk (Land x.sender x.place x.words)
receive_kind kind.Nack m d b x = refused d b x
receive_kind _ m d b x = None

abbrev pub receive_plan : {S : Type 0} → Meaning S → ℕ → Bridge S ℕ → Message ℕ → Option (Plan ℕ)
receive_plan m d b x = receive_kind x.kind m d b x
