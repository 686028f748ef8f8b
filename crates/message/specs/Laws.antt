-- What follows from the table of forms, and from the order of the network.
use Rattle.std.specs.Prelude.{◌≡◌, ℕ, ◌<◌, ◌≤◌, Bool, true, false, ◌&&◌, ◌||◌, List, length, get_or, is_some, Some, None, nat_le, slice_index_or}
use Rattle.ordering.specs.Clocks.{number_end}
use Rattle.message.specs.Checks.{has_processor, word_count, rest_is_zero, all_are_zero, well_formed}
use Rattle.message.specs.Kinds.{kind_number, same_kind, is_request, request_numbered}
use Rattle.message.specs.Messages.{no_message}
use Rattle.message.specs.Nodes.{home_node}
use Rattle.message.specs.Pairs.{is_pair, goes_alike, oldest_of_pair}
use Rattle.message.specs.declared.figures.Figures.{Figures}
use Rattle.message.specs.declared.kind.Kind.{Kind}
use Rattle.message.specs.declared.kind.Kind.TheVariants.{Rblk, Wblk, Rio, Wio, Int, Inv, Down, Ack, SData, XData, Words, Value, Nack, Taken}
use Rattle.message.specs.declared.message.Message.{Message}

-- A number is one kind's alone.
abbrev pub NumbersTellKinds : Type 0
NumbersTellKinds = (j k : Kind) → same_kind j k ≡ true → j ≡ k

-- The number by which a processor asks is that of the kind it asks for, and 1 to 4 are such numbers.
pub record RequestsHaveNumbers : Type 0 where
  pub own : (n : ℕ) (k : Kind) → request_numbered n ≡ Some k → kind_number k ≡ n
  pub four : (n : ℕ) → is_some (request_numbered n) ≡ (nat_le 1 n && nat_le n 4)

-- What goes to a home, and what a home sends.
abbrev pub goes_home : Kind → Bool
goes_home k = is_request k || (same_kind k Ack || same_kind k Taken)

abbrev pub comes_from_home : Kind → Bool
comes_from_home k =
    same_kind k Inv || (same_kind k Down || (same_kind k Nack
    || (nat_le (kind_number SData) (kind_number k) && nat_le (kind_number k) (kind_number Words))))

-- What carries four words, one word, and a sequence number. A NACK gives back what the request carried.
abbrev pub carries_four : Kind → Bool
carries_four k =
    same_kind k Wblk || same_kind k Ack || same_kind k SData || same_kind k XData || same_kind k Words
    || same_kind k Nack

abbrev pub carries_one : Kind → Bool
carries_one k = same_kind k Wio || same_kind k Int || same_kind k Value

abbrev pub carries_number : Kind → Bool
carries_number k =
    same_kind k Rblk || same_kind k Wblk || same_kind k Rio || same_kind k Wio || same_kind k Int
    || same_kind k Nack

pub record Sound (m : Message ℕ) : Type 0 where
  pub clock : m.clock ≤ number_end
  pub sequence : m.sequence ≤ number_end
  pub mark : m.exclusive ≡ true → m.kind ≡ Ack
  pub receiver : goes_home m.kind ≡ true → m.receiver ≡ home_node m.place
  pub sender : comes_from_home m.kind ≡ true → m.sender ≡ home_node m.place
  pub block : (goes_home m.kind || comes_from_home m.kind) ≡ true → m.place < 16
  pub wordless : (carries_four m.kind || carries_one m.kind) ≡ false → all_are_zero m.words ≡ true
  pub one_word : carries_one m.kind ≡ true → rest_is_zero m.words ≡ true
  pub numberless : carries_number m.kind ≡ false → m.sequence ≡ 0
  pub unmarked : m.kind ≡ Ack → m.exclusive ≡ false → all_are_zero m.words ≡ true

-- A well-formed message has its numbers within their end, a mark only if it acknowledges, at a home's end the home of
-- its block, and 0 in words and numbers that its kind does not carry.
abbrev pub WellFormedAreSound : Type 0
WellFormedAreSound = (f : Figures) (m : Message ℕ) → well_formed f m ≡ true → Sound m

-- What goes to a device's word, or comes from it, has a device that has it; an interrupt goes to the processor at its place.
pub record EndsAreThere (f : Figures) (m : Message ℕ) : Type 0 where
  pub asked : (same_kind m.kind Rio || same_kind m.kind Wio) ≡ true → m.place < word_count f m.receiver
  pub value : same_kind m.kind Value ≡ true → m.place < word_count f m.sender
  pub interrupted : same_kind m.kind Int ≡ true → (m.receiver ≡ m.place) × (has_processor f m.receiver ≡ true)

abbrev pub WellFormedHaveEnds : Type 0
WellFormedHaveEnds = (f : Figures) (m : Message ℕ) → well_formed f m ≡ true → EndsAreThere f m

-- The message at place p, of ms, has to wait for the one at k: an older one between the same two nodes, and none is older.
pub record WaitsFor (ms : List (Message ℕ)) (p k : ℕ) : Type 0 where
  pub older : k < p
  pub pair : is_pair (get_or ms p no_message).sender (get_or ms p no_message).receiver ≡ true
  pub alike : goes_alike (slice_index_or ms k no_message) (slice_index_or ms p no_message) ≡ true
  pub oldest : (j : ℕ) → j < k → goes_alike (slice_index_or ms j no_message) (slice_index_or ms p no_message) ≡ false

abbrev pub OldestGoesFirst : Type 0
OldestGoesFirst = (ms : List (Message ℕ)) (p k : ℕ) → oldest_of_pair ms p ≡ Some k → WaitsFor ms p k

-- Where it need not wait, it is itself the oldest of its pair, if it has a pair.
abbrev pub OthersGo : Type 0
OthersGo =
    (ms : List (Message ℕ)) (p : ℕ) → p < length ms → oldest_of_pair ms p ≡ None
    → is_pair (get_or ms p no_message).sender (get_or ms p no_message).receiver ≡ true
    → (j : ℕ) → j < p → goes_alike (slice_index_or ms j no_message) (slice_index_or ms p no_message) ≡ false
