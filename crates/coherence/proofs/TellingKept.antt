-- What a call tells: a load the value of its own entry, a collect that of the latest LDio.
use Rattle.std.proofs.Common.{◌≡◌, ℕ, zero, suc, ◌<◌, ◌≤◌, true, get_or, is_some, Some, None, Option, sym, refl, ap, ◌∙◌, subst, ⊎_elim, arith}
use Rattle.device.specs.Meaning.{Meaning}
use Rattle.message.specs.declared.figures.Figures.{Figures}
use Rattle.message.specs.declared.reaction.Reaction.{Reaction}
use Rattle.processor.specs.Inputs as processor
use Rattle.processor.specs.Slots.{slot_at}
use Rattle.processor.specs.declared.slot.Slot.TheVariants.{Came}
use Rattle.processor.specs.declared.state.Processor.{Processor}
use Rattle.std.proofs.lemmas.Bool.Decides as ways
use Rattle.std.proofs.lemmas.Option.{none-some, same_Some}
use Rattle.std.specs.Option.{option_map}
use Rattle.trail.specs.declared.entry.Entry.{Entry}
use Rattle.coherence.proofs.Arising.{never}
use Rattle.coherence.proofs.Clocks.{Timely}
use Rattle.coherence.proofs.Growing.{trail_on, trail_new}
use Rattle.coherence.proofs.Meeting.{Asks, Meets, at_call, at_first_wish, at_second_wish, to_processor, to_home, to_first, to_second}
use Rattle.coherence.proofs.Orderly.{AllTold, Truthful, Known}
use Rattle.coherence.proofs.Recording.{grown}
use Rattle.coherence.proofs.Standing.{some_there, none_stands, stands_either}
use Rattle.coherence.specs.Histories.{History, Told, told_number, tells}
use Rattle.coherence.specs.Promise.{Stands, Done}
use Rattle.coherence.specs.Steps.{Effect, by_processor}
use Rattle.coherence.specs.Worlds.{World, processor_at}
use Rattle.coherence.specs.declared.call.Call.{Call}
use Rattle.coherence.specs.declared.call.Call.TheVariants.{Load, Collect, Act, Deliver}

-- at a processor
load_enters : (s : Processor ℕ) (n k : ℕ) (r : Reaction (Processor ℕ)) → processor.reaction s n (processor.Load k) ≡ Some r → is_some r.entry ≡ true
load_enters s n k r h = grind (arith, ways.nat_tests)

load_tells : (s : Processor ℕ) (n k : ℕ) (r : Reaction (Processor ℕ)) → processor.reaction s n (processor.Load k) ≡ Some r
    → (x : Entry) → r.entry ≡ Some x → (v : ℕ) → r.answer ≡ Some v → (x.party ≡ n) × (x.sequence ≡ s.sequence) × (get_or x.values.at 0 0 ≡ v)
load_tells s n k r h x does v says = (grind (arith, ways.nat_tests), grind (arith, ways.nat_tests), grind (arith, ways.nat_tests))

collect_tells : (s : Processor ℕ) (n d : ℕ) (r : Reaction (Processor ℕ)) → processor.reaction s n (processor.Collect d) ≡ Some r → (v : ℕ) → r.answer ≡ Some v → slot_at s.slots d ≡ Came v
collect_tells s n d r h v says = grind (arith, ways.nat_tests)

module _ {A B : Type 0} (ma : Meaning A) (mb : Meaning B) where
  -- what is told is of one operation, with one value
  told_one : (o : Option (ℕ × ℕ)) (a : Option ℕ) (t : Told) → Stands (tells ma mb o a) t → (o ≡ Some (t.party, t.sequence)) × (a ≡ Some t.value)
  told_one None a t there = absurd (none_stands t there)
  told_one (Some x) None t there = absurd (none_stands t there)
  told_one (Some x) (Some v) t (zero, is) =
      let same = same_Some (record { party = x.0; sequence = x.1; value = v }) t is in
      (ap (λ (k : Told). Some (k.party, k.sequence)) same, ap (λ (k : Told). Some k.value) same)
  told_one (Some x) (Some v) t (suc i, is) = absurd (none-some t is)

  module _ (f : Figures) (c : Call) (h : History A B) (e : Effect A B) (known : Known ma mb f h) (later : Known ma mb f (grown ma mb c h e)) (time : Timely h.world e) (true_now : Truthful h) where
    abbrev w : World A B
    w = h.world

    abbrev h' : History A B
    h' = grown ma mb c h e

    abbrev TrueIn : Told → Type 0
    TrueIn t = (done : Done h'.world.trail t.party t.sequence) × (get_or done.entry.values.at 0 0 ≡ t.value)

    lifted : (t : Told) → (done : Done w.trail t.party t.sequence) → get_or done.entry.values.at 0 0 ≡ t.value → TrueIn t
    lifted t done value =
        (record { entry = done.entry; stands = trail_on ma mb f c h e known later time done.entry done.stands; by = done.by; numbered = done.numbered }, value)

    abbrev Tells : Call → Type 0
    Tells k = (t : Told) → told_number ma mb k h ≡ Some (t.party, t.sequence) → e.answer ≡ Some t.value → TrueIn t

    silent : (k : Call) → told_number ma mb k h ≡ None → Tells k
    silent k none t number answer = never (let both : None ≡ Some (t.party, t.sequence) = sym none ∙ number in cc)

    by_load : (q n p : ℕ) (r : Reaction (Processor ℕ)) → p ≡ q → processor.reaction (processor_at w p) p (processor.Load n) ≡ Some r → e.entry ≡ r.entry → e.answer ≡ r.answer → Tells (Load q n)
    by_load q n p r same reacts does says t number answer =
        let x = some_there r.entry (load_enters (processor_at w p) p n r reacts) in
        let k = load_tells (processor_at w p) p n r reacts x.0 x.1 t.value (sym says ∙ answer) in
        let parts = same_Some (q, (processor_at w q).sequence) (t.party, t.sequence) number in
        let party : x.0.party ≡ t.party = k.0 ∙ same ∙ ap (λ (y : ℕ × ℕ). y.0) parts in
        let sequence : x.0.sequence ≡ t.sequence = k.1 ∙ ap (λ (y : ℕ). (processor_at w y).sequence) same ∙ ap (λ (y : ℕ × ℕ). y.1) parts in
        (record { entry = x.0; stands = trail_new ma mb f c h e known later time x.0 (does ∙ x.1); by = party; numbered = sequence }, k.2)

    by_collect : (q d p : ℕ) (r : Reaction (Processor ℕ)) → p ≡ q → q < 4 → d < 2 → processor.reaction (processor_at w p) p (processor.Collect d) ≡ Some r → e.answer ≡ r.answer → Tells (Collect q d)
    by_collect q d p r same small two reacts says t number answer =
        let filled : slot_at (processor_at w q).slots d ≡ Came t.value = subst (λ (y : ℕ). slot_at (processor_at w y).slots d ≡ Came t.value) same (collect_tells (processor_at w p) p d r reacts t.value (sym says ∙ answer)) in
        let x = true_now.came q d t.value small two filled in
        let is_it : Some (q, x.number) ≡ Some (t.party, t.sequence) = ap (λ (o : Option ℕ). option_map (λ (n : ℕ). (q, n)) o) (sym x.latest) ∙ number in
        let parts = same_Some (q, x.number) (t.party, t.sequence) is_it in
        lifted t
        (record { entry = x.done.entry; stands = x.done.stands; by = x.done.by ∙ ap (λ (y : ℕ × ℕ). y.0) parts; numbered = x.done.numbered ∙ ap (λ (y : ℕ × ℕ). y.1) parts })
        x.value

    by_call : (k : Call) (p : ℕ) (i : processor.Input) (r : Reaction (Processor ℕ)) → p < 4 → Asks k p i → processor.reaction (processor_at w p) p i ≡ Some r → e ≡ by_processor w p r → Tells k
    by_call (Load q n) p i r small asks reacts same =
        by_load q n p r asks.0 (subst (λ (j : processor.Input). processor.reaction (processor_at w p) p j ≡ Some r) asks.1 reacts) (ap (λ (x : Effect A B). x.entry) same) (ap (λ (x : Effect A B). x.answer) same)
    by_call (Collect q d) p i r small asks reacts same =
        by_collect q d p r asks.0 (omega (arith, asks.0)) asks.2 (subst (λ (j : processor.Input). processor.reaction (processor_at w p) p j ≡ Some r) asks.1 reacts) (ap (λ (x : Effect A B). x.answer) same)
    by_call k p i r small asks reacts same = silent k refl

    tells_true : w.count ≤ 4 → Meets ma mb w c e → Tells c
    tells_true few (at_call p small i r asks own ok rest reacts same) = by_call c p i r (omega arith) asks reacts same
    tells_true few (at_first_wish r act reacts same) = subst Tells (sym act) (silent (Act 0) refl)
    tells_true few (at_second_wish r act reacts same) = subst Tells (sym act) (silent (Act 1) refl)
    tells_true few (to_processor p small m r goes reacts same) = subst Tells (sym goes.call) (silent (Deliver goes.at) refl)
    tells_true few (to_home b small m r goes reacts same) = subst Tells (sym goes.call) (silent (Deliver goes.at) refl)
    tells_true few (to_first m r goes reacts same) = subst Tells (sym goes.call) (silent (Deliver goes.at) refl)
    tells_true few (to_second m r goes reacts same) = subst Tells (sym goes.call) (silent (Deliver goes.at) refl)

    pub told_kept : w.count ≤ 4 → Meets ma mb w c e → AllTold h'.told h'.world.trail
    told_kept few met t there =
        ⊎_elim
        (λ old. let k = true_now.told t old in lifted t k.0 k.1)
        (λ new. let k = told_one (told_number ma mb c h) e.answer t new in tells_true few met t k.0 k.1)
        (stands_either h.told (tells ma mb (told_number ma mb c h) e.answer) t there)
