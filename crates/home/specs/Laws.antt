-- What a home keeps, whatever it is told. h is the home of block b, m the message that reaches it.
use Rattle.std.specs.Prelude.{◌≡◌, ◌≢◌, ℕ, ◌+◌, ◌<◌, ◌≤◌, Bool, true, false, ◌&&◌, ◌||◌, is_some, IfSome, Some, None}
use Rattle.message.specs.Kinds.{same_kind, is_request}
use Rattle.message.specs.Messages.{plain}
use Rattle.message.specs.Nodes.{home_node, is_device}
use Rattle.message.specs.Reactions.{single, sent}
use Rattle.message.specs.declared.kind.Kind.{Kind}
use Rattle.message.specs.declared.kind.Kind.TheVariants.{Upg, Rblk, Wblk, Ack, Nack, Taken}
use Rattle.message.specs.declared.message.Message.{Message}
use Rattle.message.specs.declared.reaction.Reaction.{Reaction}
use Rattle.ordering.specs.Operations.{is_write}
use Rattle.std.specs.List.{AllByRecursion}
use Rattle.home.specs.Directories.{round_of}
use Rattle.home.specs.Plans.{plan}
use Rattle.home.specs.Reactions.{finished, heard_home, received}
use Rattle.home.specs.Requests.{asks_down, operation_for}
use Rattle.home.specs.Sets.{has}
use Rattle.home.specs.declared.directory.Phase.TheVariants.{Free, Replied}
use Rattle.home.specs.declared.directory.View.{View}
use Rattle.home.specs.declared.directory.View.TheVariants.{Shared, Exclusive}
use Rattle.home.specs.declared.machine.Home.{Home}
use Rattle.home.specs.declared.plan.Plan.TheVariants.{Ask}
use Rattle.home.specs.Sets.{Processors}

abbrev pub is_free : Home ℕ → Bool
is_free h = elim h.directory.phase [ Free ↦ true | _ ↦ false ]

-- NACK gives a request back with its words, its clock and its number.
abbrev pub given_back : ℕ → Message ℕ → Message ℕ
given_back b m =
    record (plain Nack (home_node b) m.sender b) {
      words = m.words;
      clock = m.clock;
      sequence = m.sequence;
      refused = Some m.kind;
    }

-- A home that is not free gives back every request, and changes nothing.
abbrev pub RefusesWhileBusy : Type 0
RefusesWhileBusy =
    (h : Home ℕ) (b : ℕ) (m : Message ℕ) → b < 16 → is_request m.kind ≡ true → is_free h ≡ false
    → received h b m ≡ Some (record { next = h; sent = single (given_back b m); entry = None; answer = None })

-- Whatever home it is, a NACK that it sends is the request given back, and nothing has changed.
pub record GivenBack (h : Home ℕ) (b : ℕ) (m : Message ℕ) (x : Reaction (Home ℕ)) (n : Message ℕ) : Type 0 where
  pub nack : n ≡ given_back b m
  pub same : x.next ≡ h

abbrev pub NacksGiveBack : Type 0
NacksGiveBack =
    (h : Home ℕ) (b : ℕ) (m : Message ℕ)
    → IfSome (received h b m) (λ x. AllByRecursion (λ n. same_kind n.kind Nack ≡ true
    → GivenBack h b m x n) (sent x.sent))

-- Once busy, it is free again only by TAKEN from the requester, and that does free it.
pub record FreedBy (h : Home ℕ) (m : Message ℕ) : Type 0 where
  pub kind : same_kind m.kind Taken ≡ true
  pub sender : (round_of h.directory).request.requester ≡ m.sender

abbrev pub BusyUntilTaken : Type 0
BusyUntilTaken =
    (h : Home ℕ) (b : ℕ) (m : Message ℕ)
    → IfSome (received h b m) (λ x. is_free h ≡ false → is_free x.next ≡ true → FreedBy h m)

abbrev pub TakenFrees : Type 0
TakenFrees =
    (h : Home ℕ) (b : ℕ) (m : Message ℕ) → same_kind m.kind Taken ≡ true
    → IfSome (received h b m) (λ x. is_free x.next ≡ true)

-- After a device's TAKEN the home is above what it told the device; a processor's moves no clock.
abbrev pub TakenIsPassed : Type 0
TakenIsPassed =
    (h : Home ℕ) (b : ℕ) (m : Message ℕ) → same_kind m.kind Taken ≡ true
    → IfSome (received h b m) (λ x. (is_device m.sender ≡ true
    → h.clock.global < x.next.clock.global) × (is_device m.sender ≡ false → x.next.clock ≡ h.clock))

-- Only requests, ACK and TAKEN have a rule.
abbrev pub OtherKindsHaveNoRule : Type 0
OtherKindsHaveNoRule =
    (h : Home ℕ) (b : ℕ) (m : Message ℕ)
    → (is_request m.kind || (same_kind m.kind Ack || same_kind m.kind Taken)) ≡ false → received h b m ≡ None

abbrev pub ClockNeverGoesBack : Type 0
ClockNeverGoesBack =
    (h : Home ℕ) (b : ℕ) (m : Message ℕ) → IfSome (received h b m) (λ x. h.clock.global ≤ x.next.clock.global)

-- To finish, a home passes once: its new global is the least number above its own, above every acknowledgement's clock
-- and, for a device, above the request's. Operation and reply have that number, and the home waits for TAKEN.
pub record PassedOnce (h : Home ℕ) (x : Reaction (Home ℕ)) : Type 0 where
  pub own : h.clock.global < x.next.clock.global
  pub heard : (round_of h.directory).latest < x.next.clock.global
  pub asked : is_some (operation_for (round_of h.directory).request.kind) ≡ true
      → (round_of h.directory).request.clock < x.next.clock.global
  pub least : (n : ℕ) → h.clock.global ≤ n → (round_of h.directory).latest ≤ n
      → (round_of h.directory).request.clock ≤ n → x.next.clock.global ≤ n + 1
  pub stamped : IfSome x.entry (λ e. e.stamp.global ≡ x.next.clock.global)
  pub replied : AllByRecursion (λ n. n.clock ≡ x.next.clock.global) (sent x.sent)
  pub waits : x.next.directory.phase ≡ Replied (round_of h.directory).request

abbrev pub FinishesAboveAll : Type 0
FinishesAboveAll = (h : Home ℕ) (b : ℕ) → PassedOnce h (finished h b)

-- What is heard is kept until then: the greatest clock, and the words of an owner.
pub record Kept (h : Home ℕ) (m : Message ℕ) (k : Home ℕ) : Type 0 where
  pub earlier : (round_of h.directory).latest ≤ (round_of k.directory).latest
  pub this : m.clock ≤ (round_of k.directory).latest
  pub marked : m.exclusive ≡ true → k.words ≡ m.words
  pub unmarked : m.exclusive ≡ false → k.words ≡ h.words

abbrev pub HearsAll : Type 0
HearsAll = (h : Home ℕ) (m : Message ℕ) → Kept h m (heard_home h m)

-- So whenever a home replies, the reply is above its own clock, above this message's and above those heard before it.
abbrev pub has_replied : Home ℕ → Bool
has_replied h = elim h.directory.phase [ Replied r ↦ true | _ ↦ false ]

pub record RepliedAbove (h : Home ℕ) (m : Message ℕ) (x : Reaction (Home ℕ)) : Type 0 where
  pub own : h.clock.global < x.next.clock.global
  pub this : (same_kind m.kind Ack || is_some (operation_for m.kind)) ≡ true → m.clock < x.next.clock.global
  pub earlier : same_kind m.kind Ack ≡ true → (round_of h.directory).latest < x.next.clock.global
  pub request : same_kind m.kind Ack ≡ true → is_some (operation_for (round_of h.directory).request.kind) ≡ true
      → (round_of h.directory).request.clock < x.next.clock.global
  pub stamped : IfSome x.entry (λ e. e.stamp.global ≡ x.next.clock.global)
  pub replied : AllByRecursion (λ n. n.clock ≡ x.next.clock.global) (sent x.sent)

abbrev pub RepliesAboveAll : Type 0
RepliesAboveAll =
    (h : Home ℕ) (b : ℕ) (m : Message ℕ)
    → IfSome (received h b m) (λ x. has_replied h ≡ false → has_replied x.next ≡ true → RepliedAbove h m x)

-- Nothing but an owner's words and a device's write changes the home's words.
abbrev pub brings_words : Message ℕ → Bool
brings_words m = same_kind m.kind Ack && m.exclusive

abbrev pub does_write : Reaction (Home ℕ) → Bool
does_write x = elim x.entry [ None ↦ false | Some e ↦ is_write e.operation ]

abbrev pub WordsStay : Type 0
WordsStay =
    (h : Home ℕ) (b : ℕ) (m : Message ℕ)
    → IfSome (received h b m) (λ x. brings_words m ≡ false → does_write x ≡ false → x.next.words ≡ h.words)

-- Ownership is granted only to one that shares.
abbrev pub GrantsToSharers : Type 0
GrantsToSharers =
    (v : View) (holders asked : Processors) (p : ℕ) → plan Upg v holders p ≡ Some (Ask asked)
    → (v ≡ Shared) × (has holders p ≡ true)

-- The owner of a block is asked for it whatever the request, and for one that does more than read each other holder is.
pub record HoldersAreAsked : Type 0 where
  pub owner : (k : Kind) (holders asked : Processors) (p : ℕ) → plan k Exclusive holders p ≡ Some (Ask asked)
      → asked ≡ holders
  pub sharers : (k : Kind) (holders asked : Processors) (p q : ℕ) → plan k Shared holders p ≡ Some (Ask asked)
      → asks_down k ≡ false → q ≢ p → has holders q ≡ true → has asked q ≡ true

-- A device's write writes the words of its request; its read gets the words of the home, and the reply tells them.
pub record ServesAsAsked (h : Home ℕ) (b : ℕ) : Type 0 where
  pub written : same_kind (round_of h.directory).request.kind Wblk ≡ true
      → (finished h b).next.words ≡ (round_of h.directory).request.words
  pub writes : same_kind (round_of h.directory).request.kind Wblk ≡ true
      → IfSome (finished h b).entry (λ e. e.values ≡ (round_of h.directory).request.words)
  pub reads : same_kind (round_of h.directory).request.kind Rblk ≡ true
      → IfSome (finished h b).entry (λ e. e.values ≡ h.words)
  pub carried : same_kind (round_of h.directory).request.kind Rblk ≡ true
      → AllByRecursion (λ n. n.words ≡ h.words) (sent (finished h b).sent)
  pub issuer : IfSome (finished h b).entry (λ e. (e.party ≡ (round_of h.directory).request.requester) × (e.sequence ≡ (round_of h.directory).request.sequence))

abbrev pub HomesServeAsAsked : Type 0
HomesServeAsAsked = (h : Home ℕ) (b : ℕ) → ServesAsAsked h b
