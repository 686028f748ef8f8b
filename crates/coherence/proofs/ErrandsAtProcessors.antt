-- What effects at processors do to the operations under way.
use Rattle.std.proofs.Common.{◌≡◌, ℕ, ◌<◌, true, ◌⊎◌, List, Some, None, Option, sym, refl, ap, ◌∙◌, subst, inl, inr, ⊎_elim, arith}
use Rattle.message.specs.Nodes.{device_node}
use Rattle.message.specs.Pairs.{oldest_of_pair}
use Rattle.message.specs.Reactions.{sent}
use Rattle.message.specs.declared.figures.Figures.{Figures}
use Rattle.message.specs.declared.message.Message.{Message}
use Rattle.message.specs.declared.reaction.Reaction.{Reaction}
use Rattle.ordering.specs.Words.{first_word}
use Rattle.processor.specs.Inputs as processor
use Rattle.processor.specs.Slots.{slot_at}
use Rattle.processor.specs.declared.slot.Slot.TheVariants.{Came}
use Rattle.processor.specs.declared.state.Processor.{Processor}
use Rattle.std.proofs.lemmas.List.{get_or-set_same, get_or-set_other}
use Rattle.std.proofs.lemmas.Bool.{cases_eq, cases_Bool, both_ways, lt-ltb}
use Rattle.std.specs.Option.{option_to_list}
use Rattle.std.specs.List.{slice_get}
use Rattle.trail.specs.declared.entry.Entry.{Entry}
use Rattle.ordering.specs.declared.clock.Clock.{Clock}
use Rattle.coherence.proofs.Carrying.{carries, next_number}
use Rattle.coherence.proofs.Clocks.{Shape, clock_at, processor_clock}
use Rattle.coherence.proofs.Errands.{Errands, Sent, called, Does, on_memory, delivered, in_home, Value, Brings}
use Rattle.coherence.proofs.ErrandsProcessors.{processor_starts, processor_values, processor_does, processor_interrupts, processor_interrupted, slot_rests, slot_filled, slot_rests_at, slot_filled_at, slot_fills, value_passed}
use Rattle.coherence.proofs.Posting.{posted, processor_posts}
use Rattle.coherence.proofs.FormsBuilt.{Well}
use Rattle.coherence.proofs.NextNumbers.{interrupt_place, processor_own}
use Rattle.coherence.proofs.Orderly.{now, Follows}
use Rattle.coherence.proofs.Rising.{Pairs}
use Rattle.coherence.proofs.Slots.{awaits}
use Rattle.coherence.proofs.Standing.{stands_only}
use Rattle.coherence.proofs.Tally.{crosses}
use Rattle.coherence.specs.Promise.{Stands}
use Rattle.coherence.specs.Steps.{Effect, by_processor}
use Rattle.coherence.specs.Worlds.{World, processor_at, no_processor}

pub pairs_one : {X : Type 0} (R : X → X → Type 0) (o : Option X) → Pairs R (option_to_list o)
pairs_one R None = tt
pairs_one R (Some x) = (tt, tt)

-- one message or none
pub posted_one : (l : List (Message ℕ)) (o : Option (Message ℕ)) (y : Message ℕ) → l ≡ option_to_list o → Stands l y → o ≡ Some y
posted_one l o y is there = stands_only o y (subst (λ (k : List (Message ℕ)). Stands k y) is there)

module _ {A B : Type 0} (w : World A B) where
  -- A message that is delivered, as the oldest of its pair.
  pub record Comes (f : Figures) (m : Message ℕ) (to : ℕ) : Type 0 where
    pub at : ℕ
    pub there : slice_get w.messages at ≡ Some m
    pub turn : oldest_of_pair w.messages at ≡ None
    pub well : Well f m
    pub receiver : m.receiver ≡ to

  pub now_of : (p : ℕ) → p < 4 → now w p ≡ (processor_at w p).clock.global
  now_of p small = rw (lt-ltb p 4 small, now, clock_at) refl

  module _ (shape : Shape w) (p : ℕ) (small : p < 4) (i : processor.Input) (r : Reaction (Processor ℕ)) (h : processor.reaction (processor_at w p) p i ≡ Some r) where
    abbrev s : Processor ℕ
    s = processor_at w p

    abbrev e : Effect A B
    e = by_processor w p r

    here : processor_at e.next p ≡ r.next
    here = get_or-set_same w.processors p r.next no_processor (omega (arith, shape.processors))

    others : (q : ℕ) → (q ≡ p → ⊥) → processor_at e.next q ≡ processor_at w q
    others q apart = get_or-set_other w.processors p q r.next no_processor apart

    starts : (y : Message ℕ) → Stands (sent r.sent) y → (n q : ℕ) → carries n q y ≡ true → Sent w n q y
    starts y there n q c =
        let x = processor_starts s p i r h y (posted_one (sent r.sent) (posted r.sent) y (processor_posts s p i r h) there) n q c in
        called (omega (arith, x.0))
        (subst (λ (k : ℕ). q ≡ next_number w k) (sym x.0) (x.1 ∙ sym (processor_own w p small)))
        (subst (λ (k : ℕ). y.clock ≡ now w k) (sym x.0) (x.2 ∙ sym (now_of p small)))
        x.3

    no_values : (q d : ℕ) → q < 4 → d < 2 → (y : Message ℕ) → Stands (sent r.sent) y → crosses 18 (device_node d) q y ≡ true → Brings w e q d y
    no_values q d low two y there value =
        absurd (both_ways (crosses 18 (device_node d) q y) (processor_values s p i r h y (posted_one (sent r.sent) (posted r.sent) y (processor_posts s p i r h) there) (device_node d) q) value)

    abbrev Rests : ℕ → ℕ → Type 0
    Rests q d = (awaits (processor_at w q) d ≡ 0) ⊎ ((m : Message ℕ) × Value w q d m × (m.clock < now e.next q))

    abbrev Filled : ℕ → ℕ → ℕ → Type 0
    Filled q d v = (slot_at (processor_at w q).slots d ≡ Came v) ⊎ ((m : Message ℕ) × Value w q d m × (first_word m.words ≡ v))

    module _ (does : (x : Entry) → r.entry ≡ Some x → Does w x) (rests : (d : ℕ) → d < 2 → awaits r.next d ≡ 0 → Rests p d) (filled : (d v : ℕ) → d < 2 → slot_at r.next.slots d ≡ Came v → Filled p d v) where
      slots : (q d : ℕ) → q < 4 → d < 2 → awaits (processor_at e.next q) d ≡ 0 → Rests q d
      slots q d low two none = go (cases_eq q p)
        where
          go : (q ≡ p) ⊎ (q ≡ p → ⊥) → Rests q d
          go (inl same) =
              subst (λ (k : ℕ). Rests k d) (sym same)
              (rests d two (subst (λ (x : Processor ℕ). awaits x d ≡ 0) here (subst (λ (k : ℕ). awaits (processor_at e.next k) d ≡ 0) same none)))
          go (inr apart) = inl (subst (λ (x : Processor ℕ). awaits x d ≡ 0) (others q apart) none)

      came : (q d v : ℕ) → q < 4 → d < 2 → slot_at (processor_at e.next q).slots d ≡ Came v → Filled q d v
      came q d v low two is = go (cases_eq q p)
        where
          go : (q ≡ p) ⊎ (q ≡ p → ⊥) → Filled q d v
          go (inl same) =
              subst (λ (k : ℕ). Filled k d v) (sym same)
              (filled d v two (subst (λ (x : Processor ℕ). slot_at x.slots d ≡ Came v) here (subst (λ (k : ℕ). slot_at (processor_at e.next k).slots d ≡ Came v) same is)))
          go (inr apart) = inl (subst (λ (x : Processor ℕ). slot_at x.slots d ≡ Came v) (others q apart) is)

      by_processors : Errands w e
      by_processors = record {
        sends = starts;
        together = subst (λ (l : List (Message ℕ)). Pairs Follows l) (sym (processor_posts s p i r h)) (pairs_one Follows (posted r.sent));
        homes = λ b n q low c. in_home b low c refl refl;
        does = does;
        values = no_values;
        slots = slots;
        came = came;
        outs = λ d b two low none. inl none;
      }

    pub at_calls : processor.message_of i ≡ None → Errands w e
    at_calls call =
        by_processors
        (λ x does.
        let k = processor_does s p i r h call x does in
        on_memory (omega (arith, k.0)) k.1 k.2 (λ d two. subst (λ (n : ℕ). awaits (processor_at w n) d ≡ 0) (sym k.0) (k.3 d two)))
        (λ d two none. inl (slot_rests s p i r h call d two none))
        (λ d v two is. inl (slot_filled s p i r h call d v is))

    pub at_messages : (f : Figures) (m : Message ℕ) → processor.message_of i ≡ Some m → Comes f m p → Errands w e
    at_messages f m told comes =
        by_processors
        (λ x does.
        let k = processor_interrupted s p i r h m told (interrupt_place f m comes.well (processor_interrupts s p i r h m told x does) ∙ comes.receiver) x does in
        delivered comes.at m comes.there comes.turn k.0 k.1 k.2)
        (λ d two none.
        ⊎_elim
        (λ value. inr (m, ((comes.at, comes.there), value), subst (λ (n : ℕ). m.clock < n) (sym passed) (value_passed s p i r h m told comes.receiver d two value)))
        (λ other. inl (slot_rests_at s p i r h m told comes.receiver d two other none))
        (cases_Bool (crosses 18 (device_node d) p m)))
        (λ d v two is.
        ⊎_elim
        (λ value. inr (m, ((comes.at, comes.there), value), slot_fills s p i r h m told comes.receiver d two v is value))
        (λ other. inl (slot_filled_at s p i r h m told comes.receiver d two v is other))
        (cases_Bool (crosses 18 (device_node d) p m)))
      where
        passed : now e.next p ≡ r.next.clock.global
        passed = ap (λ (c : Clock ℕ). c.global) (processor_clock w p r.next shape.processors small)
