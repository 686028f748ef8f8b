-- Slots and what is on its way to them: a slot awaits its word exactly while one Rio or VALUE for it waits. Here, what
-- each reaction of a processor and of a bridge does to that balance.
use Rattle.std.proofs.Common.{◌≡◌, ℕ, ◌+◌, ◌<◌, ◌≤◌, true, cond, ◌&&◌, eqb, ltb, ◌⊎◌, List, length, get_or, Some, None, ap, ◌∙◌, inl, inr, arith}
use Rattle.bridge.specs.Inputs as bridge
use Rattle.device.specs.Meaning.{Meaning}
use Rattle.message.specs.Kinds.{is_request}
use Rattle.message.specs.Nodes.{device_node}
use Rattle.message.specs.declared.kind.Kind.{Kind}
use Rattle.message.specs.declared.message.Message.{Message}
use Rattle.message.specs.declared.reaction.Outbox.{Outbox}
use Rattle.processor.specs.Inputs.{message_of}
use Rattle.processor.specs.Laws.{EachReaction}
use Rattle.processor.specs.Slots.{slot_at, with_slot, is_awaited}
use Rattle.processor.specs.declared.slot.Slot.{Slot}
use Rattle.processor.specs.declared.slot.Slot.TheVariants.{Free}
use Rattle.processor.specs.Slots.{Slots}
use Rattle.processor.specs.declared.state.Processor.{Processor}
use Rattle.std.proofs.lemmas.List.{get_or_past, get_or-set_same, get_or-set_other, set_past}
use Rattle.std.proofs.lemmas.Bool.{cases_eq, cases_lt, eq-eqb, ne_eqb, lt-ltb, le-ltb}
use Rattle.std.proofs.lemmas.Bool.Decides.{nat_tests}
use Rattle.coherence.proofs.Counting.{indicator}
use Rattle.coherence.proofs.Tally.{crosses}

-- 1 while the slot's word has yet to come.
abbrev pub awaits : Processor ℕ → ℕ → ℕ
awaits s d = indicator (is_awaited (slot_at s.slots d))

-- how many messages of class c from s to r an outbox with one message holds
abbrev pub crossing : ℕ → ℕ → ℕ → Outbox → ℕ
crossing c s r o = elim (get_or o.at 0 None) [ None ↦ 0 | Some m ↦ indicator (crosses c s r m) ]

module _ (ss : Slots) (two : length ss.at ≡ 2) where
  slot_put : (d : ℕ) (x : Slot) (e : ℕ) → slot_at (with_slot ss d x) e ≡ cond (eqb e d && ltb d 2) x (slot_at ss e)
  slot_put d x e = go (cases_eq e d) (cases_lt d 2)
    where
      go : (e ≡ d) ⊎ (e ≡ d → ⊥) → (d < 2) ⊎ (2 ≤ d) → slot_at (with_slot ss d x) e ≡ cond (eqb e d && ltb d 2) x (slot_at ss e)
      go (inl same) (inl small) = rw (eq-eqb e d same, lt-ltb d 2 small) (ap (λ (i : ℕ). slot_at (with_slot ss d x) i) same ∙ get_or-set_same ss.at d x Free (omega arith))
      go (inl same) (inr large) = rw (eq-eqb e d same, le-ltb d 2 large) (ap (λ (l : List Slot). get_or l e Free) (set_past ss.at d x (omega arith)))
      go (inr apart) small = rw (ne_eqb e d apart) (get_or-set_other ss.at d e x Free apart)

  slot_past : (d : ℕ) → 2 ≤ d → slot_at ss d ≡ Free
  slot_past d large = get_or_past ss.at d Free (omega arith)

-- a call that sends Rio takes a free slot, and no other changes whether a slot awaits its word
pub calls_balance : EachReaction (λ s n i r. message_of i ≡ None → length s.slots.at ≡ 2 → (d : ℕ) → d < 2
    → awaits r.next d ≡ awaits s d + crossing 7 n (device_node d) r.sent)
calls_balance s n i r h call two d small =
    let put = slot_put s.slots two in
    let past = slot_past s.slots two in
    grind (arith, nat_tests, put, past)

-- VALUE ends the waiting of its slot, and no other message that a processor has a rule for changes it
pub messages_balance : EachReaction (λ s n i r. (m : Message ℕ) → message_of i ≡ Some m → m.receiver ≡ n → length s.slots.at ≡ 2 → (d : ℕ) → d < 2
    → awaits r.next d + indicator (crosses 18 (device_node d) n m) ≡ awaits s d)
messages_balance s n i r h m is to two d small =
    let put = slot_put s.slots two in
    let past = slot_past s.slots two in
    grind (arith, nat_tests, put, past)

-- a processor sends Rio as itself and at calls alone, and never VALUE
pub only_own_rio : EachReaction (λ s n i r. (p q : ℕ) → (p ≡ n → ⊥) → crossing 7 p q r.sent ≡ 0)
only_own_rio s n i r h p q apart = grind (arith, nat_tests)

pub no_rio_back : EachReaction (λ s n i r. (m : Message ℕ) → message_of i ≡ Some m → (p q : ℕ) → crossing 7 p q r.sent ≡ 0)
no_rio_back s n i r h m is p q = grind (arith, nat_tests)

pub no_value : EachReaction (λ s n i r. (p q : ℕ) → crossing 18 p q r.sent ≡ 0)
no_value s n i r h p q = grind (arith, nat_tests)

-- a bridge answers each Rio with one VALUE, sends VALUE for nothing else, and never Rio
module _ {S : Type 0} (m : Meaning S) where
  pub bridge_answers : bridge.EachReaction m (λ b d i r. (x : Message ℕ) → bridge.message_of i ≡ Some x → x.receiver ≡ device_node d
      → ((k : Kind) → x.refused ≡ Some k → is_request k ≡ true) → (p : ℕ) → crossing 18 (device_node d) p r.sent ≡ indicator (crosses 7 p (device_node d) x))
  bridge_answers b d i r h x is to refuses p = grind (arith, nat_tests, refuses)

  pub wishes_answer_nothing : bridge.EachReaction m (λ b d i r. bridge.message_of i ≡ None → (p q : ℕ) → crossing 18 p q r.sent ≡ 0)
  wishes_answer_nothing b d i r h call p q = grind (arith, nat_tests)

  pub only_own_value : bridge.EachReaction m (λ b d i r. (p q : ℕ) → (p ≡ device_node d → ⊥) → crossing 18 p q r.sent ≡ 0)
  only_own_value b d i r h p q apart = grind (arith, nat_tests)

  pub no_rio : bridge.EachReaction m (λ b d i r. bridge.message_of i ≡ None → (p q : ℕ) → crossing 7 p q r.sent ≡ 0)
  no_rio b d i r h call p q = grind (arith, nat_tests)

  pub no_rio_again : bridge.EachReaction m (λ b d i r. (x : Message ℕ) → bridge.message_of i ≡ Some x
      → ((k : Kind) → x.refused ≡ Some k → is_request k ≡ true) → (p q : ℕ) → crossing 7 p q r.sent ≡ 0)
  no_rio_again b d i r h x is refuses p q = grind (arith, nat_tests, refuses)
