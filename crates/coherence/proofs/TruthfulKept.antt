-- Every call keeps which LDio a slot, a VALUE and a Rio are for: the latest of that processor to that device, and what it read.
use Rattle.std.proofs.Common.{◌≡◌, ℕ, ◌+◌, ◌-◌, ◌<◌, true, false, cond, eqb, ◌⊎◌, List, [], ◌∷◌, ◌++◌, Some, None, Option, sym, refl, ap, ◌∙◌, subst, inl, inr, ⊎_elim, arith}
use Rattle.device.specs.Meaning.{Meaning}
use Rattle.message.specs.Nodes.{device_node}
use Rattle.message.specs.Reactions.{sent}
use Rattle.message.specs.declared.figures.Figures.{Figures}
use Rattle.message.specs.declared.message.Message.{Message}
use Rattle.ordering.specs.Operations.{is, is_block}
use Rattle.ordering.specs.Words.{first_word}
use Rattle.ordering.specs.declared.operation.Operation.TheVariants as operation
use Rattle.ordering.specs.declared.order.Access.{Access}
use Rattle.processor.specs.Slots.{slot_at, is_awaited}
use Rattle.processor.specs.declared.slot.Slot.{Slot}
use Rattle.processor.specs.declared.slot.Slot.TheVariants.{Free, Came}
use Rattle.std.proofs.lemmas.List.{append-nil}
use Rattle.std.proofs.lemmas.Bool.{and_from, cases_Bool, eq-eqb}
use Rattle.std.proofs.lemmas.Bool.Decides.{nat_tests}
use Rattle.std.specs.Option.{option_to_list}
use Rattle.coherence.proofs.Arising.{never}
use Rattle.coherence.proofs.Carrying.{carries, carried_access, issued_as, next_number}
use Rattle.coherence.proofs.Clocks.{Timely}
use Rattle.coherence.proofs.Counting.{indicator}
use Rattle.coherence.proofs.Errands.{Errands, Sent, called, wished, goes_on, Brings}
use Rattle.coherence.proofs.FetchesKept.{none_at_rest}
use Rattle.coherence.proofs.FittingKept.{IssuesWell}
use Rattle.coherence.proofs.Growing.{trail_on, trail_new, messages_either, issued_either}
use Rattle.coherence.proofs.Orderly.{Latest, Truthful, Known}
use Rattle.coherence.proofs.Recording.{grown}
use Rattle.coherence.proofs.Slots.{awaits}
use Rattle.coherence.proofs.Standing.{stands_all, stands_new}
use Rattle.coherence.proofs.Tally.{crosses}
use Rattle.coherence.specs.Histories.{History, Issued, issues, is_ldio, latest_ldio}
use Rattle.coherence.specs.Promise.{Stands}
use Rattle.coherence.specs.Steps.{Effect, waiting}
use Rattle.coherence.specs.Worlds.{World, processor_at}
use Rattle.coherence.specs.declared.call.Call.{Call}

-- the latest LDio among those issued, with one more
latest_this : (xs : List Issued) (x : Issued) (p d : ℕ) → is_ldio p d x ≡ true → latest_ldio (xs ++ x ∷ []) p d ≡ Some x.sequence
latest_this [] x p d ldio = rw ldio refl
latest_this (y ∷ xs) x p d ldio = rw (latest_this xs x p d ldio) refl

latest_other : (xs : List Issued) (x : Issued) (p d : ℕ) → is_ldio p d x ≡ false → latest_ldio (xs ++ x ∷ []) p d ≡ latest_ldio xs p d
latest_other [] x p d other = rw other refl
latest_other (y ∷ xs) x p d other = ap (λ (o : Option ℕ). elim o [ Some n ↦ Some n | None ↦ cond (is_ldio p d y) (Some y.sequence) None ]) (latest_other xs x p d other)

latest_same : (xs : List Issued) (o : Option Issued) (p d : ℕ) → ((x : Issued) → o ≡ Some x → is_ldio p d x ≡ true → ⊥) → latest_ldio (xs ++ option_to_list o) p d ≡ latest_ldio xs p d
latest_same xs None p d none = ap (λ (l : List Issued). latest_ldio l p d) (append-nil xs)
latest_same xs (Some x) p d none = ⊎_elim (λ ldio. absurd (none x refl ldio)) (latest_other xs x p d) (cases_Bool (is_ldio p d x))

-- what a Rio carries
rio_carries : (p r : ℕ) (m : Message ℕ) → crosses 7 p r m ≡ true → (carries p m.sequence m ≡ true) × (is operation.LdIo (carried_access m).operation ≡ true) × ((carried_access m).space ≡ r - 3)
rio_carries p r m rio = (grind (arith, nat_tests), grind (arith, nat_tests), grind (arith, nat_tests))

no_block : (a : Access) → is operation.LdIo a.operation ≡ true → is_block a.operation ≡ true → ⊥
no_block a ldio block = grind (arith, nat_tests)

not_both : (v : ℕ) → Came v ≡ Free → ◌≡◌ {A = ℕ} 0 1
not_both v same = cc

module _ {A B : Type 0} (ma : Meaning A) (mb : Meaning B) (f : Figures) (c : Call) (h : History A B) (e : Effect A B) (known : Known ma mb f h) (later : Known ma mb f (grown ma mb c h e)) (time : Timely h.world e) (runs : Errands h.world e) (new : IssuesWell ma mb h.world c)
    (true_now : Truthful h) where
  abbrev w : World A B
  w = h.world

  abbrev h' : History A B
  h' = grown ma mb c h e

  module _ (p d : ℕ) (small : p < 4) (two : d < 2) where
    -- a slot that is free at a new LDio has nothing under way
    at_rest : (x : Issued) → issues ma mb c w ≡ Some x → is_ldio p d x ≡ true → awaits (processor_at w p) d ≡ 0
    at_rest x issue ldio = ap (λ (s : Slot). indicator (is_awaited s)) (new.free x issue p d small two ldio)

    while_under_way : (m : Message ℕ) → Stands w.messages m → (crosses 7 p (device_node d) m ≡ true) ⊎ (crosses 18 (device_node d) p m ≡ true) → latest_ldio h'.issued p d ≡ latest_ldio h.issued p d
    while_under_way m there goes = latest_same h.issued (issues ma mb c w) p d (λ x issue ldio. none_at_rest ma mb f h known p d small two (at_rest x issue ldio) m there goes)

    while_came : (v : ℕ) → slot_at (processor_at w p).slots d ≡ Came v → latest_ldio h'.issued p d ≡ latest_ldio h.issued p d
    while_came v filled = latest_same h.issued (issues ma mb c w) p d (λ x issue ldio. never (not_both v (sym filled ∙ new.free x issue p d small two ldio)))

    latest_on : (v : ℕ) → latest_ldio h'.issued p d ≡ latest_ldio h.issued p d → Latest h.issued w.trail p d v → Latest h'.issued h'.world.trail p d v
    latest_on v same x = record {
      number = x.number;
      latest = same ∙ x.latest;
      done = record { entry = x.done.entry; stands = trail_on ma mb f c h e known later time x.done.entry x.done.stands; by = x.done.by; numbered = x.done.numbered };
      value = x.value;
    }

    -- a Rio that goes out is for the LDio issued now
    rio_starts : (m : Message ℕ) → Stands (sent e.sent) m → crosses 7 p (device_node d) m ≡ true → latest_ldio h'.issued p d ≡ Some m.sequence
    rio_starts m there rio = go (issued_either ma mb f c h e known later time x stands) (runs.sends m there p m.sequence k.0)
      where
        k : (carries p m.sequence m ≡ true) × (is operation.LdIo (carried_access m).operation ≡ true) × ((carried_access m).space ≡ device_node d - 3)
        k = rio_carries p (device_node d) m rio

        x : Issued
        x = issued_as p m.sequence (carried_access m)

        stands : Stands h'.issued x
        stands = stands_all _ h'.world.messages m later.numbered.accounted.messages (stands_new (waiting ma mb c w) (sent e.sent) m there) p m.sequence k.0

        fresh : Stands h.issued x → m.sequence ≡ next_number w p → ⊥
        fresh old number = let low = stands_all _ h.issued x known.numbered.accounted.numbers old in omega arith

        is_it : is_ldio p d x ≡ true
        is_it =
            let space = k.2 in
            and_from (eqb p p) _ (eq-eqb p p refl) (and_from (is operation.LdIo (carried_access m).operation) (eqb (carried_access m).space (1 + d)) k.1 (eq-eqb _ _ (omega arith)))

        go : Stands h.issued x ⊎ (issues ma mb c w ≡ Some x) → Sent w p m.sequence m → latest_ldio h'.issued p d ≡ Some m.sequence
        go (inr issue) how = ap (λ (o : Option Issued). latest_ldio (h.issued ++ option_to_list o) p d) issue ∙ latest_this h.issued x p d is_it
        go (inl old) (called low number clock io) = absurd (fresh old number)
        go (inl old) (wished j low own number clock ints blocks) = absurd (fresh old number)
        go (inl old) (goes_on j carrier block clock) = absurd (no_block (carried_access m) k.1 block)

    pub asked_on : (m : Message ℕ) → Stands h'.world.messages m → crosses 7 p (device_node d) m ≡ true → latest_ldio h'.issued p d ≡ Some m.sequence
    asked_on m there rio =
        ⊎_elim (λ old. while_under_way m old (inl rio) ∙ true_now.asked p d small two m old rio) (λ out. rio_starts m out rio)
        (messages_either ma mb f c h e known later time m there)

    brought_now : (m : Message ℕ) → Brings w e p d m → Latest h'.issued h'.world.trail p d (first_word m.words)
    brought_now m b = record {
      number = b.entry.sequence;
      latest = while_under_way b.asked b.stands (inl b.rio) ∙ true_now.asked p d small two b.asked b.stands b.rio ∙ ap Some (sym b.number);
      done = record { entry = b.entry; stands = trail_new ma mb f c h e known later time b.entry b.does; by = b.by; numbered = refl };
      value = ap first_word (sym b.words);
    }

    pub brought_on : (m : Message ℕ) → Stands h'.world.messages m → crosses 18 (device_node d) p m ≡ true → Latest h'.issued h'.world.trail p d (first_word m.words)
    brought_on m there value =
        ⊎_elim
        (λ old. latest_on (first_word m.words) (while_under_way m old (inr value)) (true_now.brought p d small two m old value))
        (λ out. brought_now m (runs.values p d small two m out value))
        (messages_either ma mb f c h e known later time m there)

    pub came_on : (v : ℕ) → slot_at (processor_at h'.world p).slots d ≡ Came v → Latest h'.issued h'.world.trail p d v
    came_on v filled =
        ⊎_elim
        (λ was. latest_on v (while_came v was) (true_now.came p d v small two was))
        (λ (x : (m : Message ℕ) × (Stands w.messages m × (crosses 18 (device_node d) p m ≡ true)) × (first_word m.words ≡ v)).
        subst (λ (u : ℕ). Latest h'.issued h'.world.trail p d u) x.2
        (latest_on (first_word x.0.words) (while_under_way x.0 x.1.0 (inr x.1.1)) (true_now.brought p d small two x.0 x.1.0 x.1.1)))
        (runs.came p d v small two filled)
