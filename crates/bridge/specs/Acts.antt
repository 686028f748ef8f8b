-- What a bridge decides to do about its device's wish, or why it may not. d is the device's number, k a block.
use Rattle.std.specs.Prelude.{ℕ, ◌+◌, Bool, if◌then◌else◌, length, is_some, Some, None, Ok, Err, Result, nat_lt}
use Rattle.std.specs.List.{list_any}
use Rattle.ordering.specs.Clocks.{counted}
use Rattle.ordering.specs.Words.{one_word, no_words, first_word}
use Rattle.ordering.specs.declared.clock.Clock.{Clock}
use Rattle.ordering.specs.declared.operation.Operation.{Operation}
use Rattle.ordering.specs.declared.operation.Operation.TheVariants.{LdIo, StIo, Int, LdBlk, StBlk}
use Rattle.ordering.specs.declared.operation.Words.{Words}
use Rattle.device.specs.Meaning.{Meaning}
use Rattle.device.specs.declared.meaning.Wish.{Wish}
use Rattle.message.specs.Messages.{plain}
use Rattle.message.specs.Nodes.{device_node, home_node}
use Rattle.message.specs.Requests.{Requests, out}
use Rattle.message.specs.declared.kind.Kind.{Kind}
use Rattle.message.specs.declared.kind.Kind.TheVariants as kind
use Rattle.message.specs.declared.message.Message.{Message}
use Rattle.bridge.specs.declared.fault.DeviceFault.{DeviceFault}
use Rattle.bridge.specs.declared.fault.DeviceFault.TheVariants.{NoWish, BadWish, MustWait}
use Rattle.bridge.specs.declared.plan.Deed.{Deed}
use Rattle.bridge.specs.declared.plan.Deed.TheVariants.{Load, Store, Interrupt, Request}
use Rattle.bridge.specs.declared.plan.Plan.{Plan}
use Rattle.bridge.specs.declared.plan.WordAccess.{WordAccess}
use Rattle.bridge.specs.declared.state.Bridge.{Bridge}

abbrev pub Decision : Type 0
Decision = Result (Plan ℕ) DeviceFault

abbrev pub word_count : {S : Type 0} → Meaning S → Bridge S ℕ → ℕ
word_count m b = length (m.words b.device)

-- Whether a request is out for any block.
abbrev pub any_out : Requests → Bool
any_out r = list_any is_some r.at

-- Every operation of the device takes its next number.
abbrev pub numbering : {S : Type 0} → Bridge S ℕ → Clock ℕ → Deed → Plan ℕ
numbering b c a = record { clock = c; sequence = b.sequence + 1; deed = a }

-- An own LDio or STio is done at once, at a word that the device has: it is counted, and passes nothing.
abbrev pub own_access : {S : Type 0} → ℕ → Bridge S ℕ → ℕ → WordAccess
own_access d b w = record { party = device_node d; sequence = b.sequence; place = w }

abbrev pub own : {S : Type 0} → Meaning S → ℕ → Bridge S ℕ → ℕ → Deed → Decision
own m d b w a = if nat_lt w (word_count m b) then Ok (numbering b (counted b.clock) a) else Err (BadWish d)

-- INT and block operations are done elsewhere: a message goes out with the clock as it stands and the operation's number.
abbrev pub wish_message : {S : Type 0} → Kind → ℕ → Bridge S ℕ → ℕ → ℕ → Words → Message ℕ
wish_message k d b to w ws =
    record (plain k (device_node d) to w) { words = ws; clock = b.clock.global; sequence = b.sequence }

-- INT goes to a processor of the board, once no block request is out.
abbrev pub interrupt : {S : Type 0} → ℕ → Bridge S ℕ → ℕ → ℕ → ℕ → Decision
interrupt d b ps p v =
    let sent = Interrupt (wish_message kind.Int d b p p (one_word v)) in
    if nat_lt p ps
    then (if any_out b.requests then Err (MustWait d) else Ok (numbering b b.clock sent))
    else Err (BadWish d)

-- LDblk and STblk ask the home of one of the 16 blocks, once no request is out for it.
abbrev pub request : {S : Type 0} → ℕ → Bridge S ℕ → Kind → ℕ → Words → Decision
request d b r k ws =
    if nat_lt k 16
    then elim (out b.requests k) [
      | Some q ↦ Err (MustWait d)
      | None ↦ Ok (numbering b b.clock (Request (wish_message r d b (home_node k) k ws)))
    ]
    else Err (BadWish d)

-- By operation. LD and ST are a processor's. Fields that an operation does not use are not looked at.
abbrev pub act_on : {S : Type 0} → Operation → Meaning S → ℕ → ℕ → Bridge S ℕ → Wish → Decision
act_on LdIo m d ps b h = own m d b h.place (Load (own_access d b h.place))
act_on StIo m d ps b h = own m d b h.place (Store (own_access d b h.place) (first_word h.words))
act_on Int m d ps b h = interrupt d b ps h.processor (first_word h.words)
act_on LdBlk m d ps b h = request d b kind.Rblk h.place no_words
act_on StBlk m d ps b h = request d b kind.Wblk h.place h.words
act_on _ m d ps b h = Err (BadWish d)

-- ps is the number of the board's processors.
abbrev pub act_plan : {S : Type 0} → Meaning S → ℕ → ℕ → Bridge S ℕ → Decision
act_plan m d ps b = elim (m.wish b.device) [ None ↦ Err (NoWish d) | Some h ↦ act_on h.operation m d ps b h ]
