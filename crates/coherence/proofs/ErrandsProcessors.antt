-- What each reaction of a processor does to the operations under way, and to its slots.
use Rattle.std.proofs.Common.{◌≡◌, ℕ, ◌<◌, true, false, ◌||◌, Some, None, sym, ◌∙◌, arith}
use Rattle.message.specs.Kinds.{same_kind}
use Rattle.message.specs.Nodes.{device_node}
use Rattle.message.specs.declared.kind.Kind.TheVariants as kind
use Rattle.message.specs.declared.message.Message.{Message}
use Rattle.message.specs.declared.reaction.Reaction.{Reaction}
use Rattle.ordering.specs.Orders.{is_io}
use Rattle.ordering.specs.Words.{first_word}
use Rattle.message.proofs.Tables.{put_read}
use Rattle.processor.specs.Inputs.{Input, reaction, message_of}
use Rattle.processor.specs.Laws.{EachReaction}
use Rattle.processor.specs.Slots.{slot_at}
use Rattle.processor.specs.declared.slot.Slot.{Slot}
use Rattle.processor.specs.declared.slot.Slot.TheVariants.{Free, Came}
use Rattle.processor.specs.declared.state.Processor.{Processor}
use Rattle.std.proofs.lemmas.Bool.Decides.{nat_tests}
use Rattle.trail.specs.declared.entry.Entry.{Entry}
use Rattle.coherence.proofs.Posting.{posted}
use Rattle.coherence.proofs.Carrying.{is_errand, carries, carried_access, entry_access}
use Rattle.coherence.proofs.Orderly.{is_memory}
use Rattle.coherence.proofs.Slots.{awaits}
use Rattle.coherence.proofs.Tally.{crosses}

-- what carries something and gives nothing back is an errand of its sender
pub carries_errand : (n s : ℕ) (y : Message ℕ) → same_kind y.kind kind.Nack ≡ false → carries n s y ≡ true
    → (is_errand y.kind ≡ true) × (y.sender ≡ n) × (y.sequence ≡ s)
carries_errand n s y other c = (grind (arith, nat_tests), grind (arith, nat_tests), grind (arith, nat_tests))

pub errand_io : (y : Message ℕ) → (same_kind y.kind kind.Rio || same_kind y.kind kind.Wio) ≡ true → is_io (carried_access y).operation ≡ true
errand_io y io = grind (arith, nat_tests)

-- errands start at calls, with the processor's clock and next number
gives_nothing_back : EachReaction (λ s n i r. (y : Message ℕ) → posted r.sent ≡ Some y → same_kind y.kind kind.Nack ≡ false)
gives_nothing_back s n i r h y post = grind (arith, nat_tests)

to_devices : EachReaction (λ s n i r. (y : Message ℕ) → posted r.sent ≡ Some y → is_errand y.kind ≡ true → (same_kind y.kind kind.Rio || same_kind y.kind kind.Wio) ≡ true)
to_devices s n i r h y post errand = grind (arith, nat_tests)

errands : EachReaction (λ s n i r. (y : Message ℕ) → posted r.sent ≡ Some y → (same_kind y.kind kind.Rio || same_kind y.kind kind.Wio) ≡ true
    → (y.sender ≡ n) × (y.sequence ≡ s.sequence) × (y.clock ≡ s.clock.global))
errands s n i r h y post io = (grind (arith, nat_tests), grind (arith, nat_tests), grind (arith, nat_tests))

pub processor_starts : EachReaction (λ s n i r. (y : Message ℕ) → posted r.sent ≡ Some y → (m q : ℕ) → carries m q y ≡ true
    → (m ≡ n) × (q ≡ s.sequence) × (y.clock ≡ s.clock.global) × (is_io (carried_access y).operation ≡ true))
processor_starts s n i r h y post m q c =
    let e = carries_errand m q y (gives_nothing_back s n i r h y post) c in
    let io = to_devices s n i r h y post e.0 in
    let x = errands s n i r h y post io in
    (sym e.1 ∙ x.0, sym e.2 ∙ x.1, x.2, errand_io y io)

pub processor_values : EachReaction (λ s n i r. (y : Message ℕ) → posted r.sent ≡ Some y → (p q : ℕ) → crosses 18 p q y ≡ false)
processor_values s n i r h y post p q = grind (arith, nat_tests)

-- what is done at a call is on memory, while no slot awaits its word; what is done at a message is its INT
pub processor_does : EachReaction (λ s n i r. message_of i ≡ None → (x : Entry) → r.entry ≡ Some x
    → (x.party ≡ n) × (is_memory x.operation ≡ true) × (x.space ≡ 0) × ((d : ℕ) → d < 2 → awaits s d ≡ 0))
processor_does s n i r h call x does = (grind (arith, nat_tests), grind (arith, nat_tests), grind (arith, nat_tests), λ d two. grind (arith, nat_tests))

pub processor_interrupts : EachReaction (λ s n i r. (m : Message ℕ) → message_of i ≡ Some m → (x : Entry) → r.entry ≡ Some x → same_kind m.kind kind.Int ≡ true)
processor_interrupts s n i r h m came x does = grind (arith, nat_tests)

pub processor_interrupted : EachReaction (λ s n i r. (m : Message ℕ) → message_of i ≡ Some m → m.place ≡ n → (x : Entry) → r.entry ≡ Some x
    → (carries x.party x.sequence m ≡ true) × (carried_access m ≡ entry_access x) × (m.clock < x.stamp.global))
processor_interrupted s n i r h m came at x does = (grind (arith, nat_tests), grind (arith, nat_tests), grind (arith, nat_tests))

-- a slot that awaits nothing did not before, or its VALUE came; so for a slot whose word came
module _ (s : Processor ℕ) (n : ℕ) (i : Input) (r : Reaction (Processor ℕ)) (h : reaction s n i ≡ Some r) where
  pub slot_rests : message_of i ≡ None → (d : ℕ) → d < 2 → awaits r.next d ≡ 0 → awaits s d ≡ 0
  slot_rests call d two none = let put = λ (x : Slot) (j : ℕ). put_read s.slots.at j d x Free in grind (arith, nat_tests, put)

  pub slot_filled : message_of i ≡ None → (d v : ℕ) → slot_at r.next.slots d ≡ Came v → slot_at s.slots d ≡ Came v
  slot_filled call d v is = let put = λ (x : Slot) (j : ℕ). put_read s.slots.at j d x Free in grind (arith, nat_tests, put)

  module _ (m : Message ℕ) (came : message_of i ≡ Some m) (to : m.receiver ≡ n) (d : ℕ) (two : d < 2) where
    pub slot_rests_at : crosses 18 (device_node d) n m ≡ false → awaits r.next d ≡ 0 → awaits s d ≡ 0
    slot_rests_at other none = let put = λ (x : Slot) (j : ℕ). put_read s.slots.at j d x Free in grind (arith, nat_tests, put)

    pub slot_filled_at : (v : ℕ) → slot_at r.next.slots d ≡ Came v → crosses 18 (device_node d) n m ≡ false → slot_at s.slots d ≡ Came v
    slot_filled_at v is other = let put = λ (x : Slot) (j : ℕ). put_read s.slots.at j d x Free in grind (arith, nat_tests, put)

    pub slot_fills : (v : ℕ) → slot_at r.next.slots d ≡ Came v → crosses 18 (device_node d) n m ≡ true → first_word m.words ≡ v
    slot_fills v is value = let put = λ (x : Slot) (j : ℕ). put_read s.slots.at j d x Free in grind (arith, nat_tests, put)

    pub value_passed : crosses 18 (device_node d) n m ≡ true → m.clock < r.next.clock.global
    value_passed value = grind (arith, nat_tests)
