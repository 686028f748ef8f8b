-- The six requests: how a home asks its holders, what it replies, and what it does.
use Rattle.std.specs.Prelude.{ℕ, Bool, if◌then◌else◌, ◌||◌, Some, None, Option}
use Rattle.message.specs.Kinds.{same_kind}
use Rattle.message.specs.declared.kind.Kind.{Kind}
use Rattle.message.specs.declared.kind.Kind.TheVariants.{Gets, Getx, Upg, Rblk, Wblk, Inv, Down, SData, XData, Grant, Done, Words}
use Rattle.message.specs.declared.message.Message.{Message}
use Rattle.ordering.specs.Words.{no_words}
use Rattle.ordering.specs.declared.operation.Operation.{Operation}
use Rattle.ordering.specs.declared.operation.Operation.TheVariants.{LdBlk, StBlk}
use Rattle.home.specs.declared.request.Request.{Request}

-- The request of a home that has none.
abbrev pub no_request : Request
no_request = record { kind = Gets; requester = 0; words = no_words; clock = 0; sequence = 0 }

abbrev pub request_of : Message ℕ → Request
request_of m = record {
  kind = m.kind;
  requester = m.sender;
  words = m.words;
  clock = m.clock;
  sequence = m.sequence;
}

-- A request that only reads leaves the owner a shared copy; any other takes every copy back.
abbrev pub asks_down : Kind → Bool
asks_down k = same_kind k Gets || same_kind k Rblk

abbrev pub asks_by : Kind → Kind
asks_by k = if asks_down k then Down else Inv

abbrev pub reply_kind : Kind → Kind
reply_kind Gets = SData
reply_kind Getx = XData
reply_kind Upg = Grant
reply_kind Rblk = Words
reply_kind _ = Done

-- The replies with the home's words: S-DATA, X-DATA and WORDS.
abbrev pub carries_words : Kind → Bool
carries_words k = same_kind k Gets || same_kind k Getx || same_kind k Rblk

-- What the requester holds after the reply: X-DATA and GRANT make it the owner, S-DATA a sharer.
abbrev pub gives_ownership : Kind → Bool
gives_ownership k = same_kind k Getx || same_kind k Upg

abbrev pub gives_copy : Kind → Bool
gives_copy k = same_kind k Gets || gives_ownership k

-- What the home itself does for a device.
abbrev pub operation_for : Kind → Option Operation
operation_for Rblk = Some LdBlk
operation_for Wblk = Some StBlk
operation_for _ = None
