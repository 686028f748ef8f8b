-- A device's words are the current values of its space: only an STio in it writes there, and it writes the device's word.
use Rattle.std.proofs.Common.{◌≡◌, ℕ, ◌/◌, ◌%◌, ◌<◌, true, false, cond, ◌&&◌, ◌||◌, eqb, ◌⊎◌, List, ◌++◌, length, get_or, set, Some, None, Option, sym, refl, ap, ◌∙◌, subst, inl, inr, arith}
use Rattle.bridge.proofs.Clocks as bridge
use Rattle.bridge.proofs.Writing as bridge_writing
use Rattle.bridge.specs.Laws.{rewritten}
use Rattle.device.specs.Meaning.{Meaning, Laws}
use Rattle.home.specs.Reactions.{received}
use Rattle.message.specs.declared.message.Message.{Message}
use Rattle.ordering.specs.Operations.{is, is_write, is_block}
use Rattle.ordering.specs.Words.{first_word}
use Rattle.ordering.specs.declared.operation.Operation.{Operation}
use Rattle.ordering.specs.declared.operation.Operation.TheVariants.{LdIo, StIo}
use Rattle.ordering.specs.declared.operation.Words.{Words}
use Rattle.processor.specs.Laws.{EachReaction}
use Rattle.std.proofs.lemmas.List.{append-nil, get_or-set_same, get_or-set_other}
use Rattle.std.proofs.lemmas.Bool.{cases_eq, ne_eqb, eq-eqb, false≢true, and_right}
use Rattle.std.proofs.lemmas.Bool.Decides.{nat_tests}
use Rattle.std.specs.Option.{option_to_list}
use Rattle.trail.specs.declared.address.Address.{Address}
use Rattle.trail.specs.declared.entry.Entry.{Entry}
use Rattle.coherence.proofs.Arising.{Arises, at_processor, at_home, at_first, at_second, never}
use Rattle.coherence.proofs.HomeClocks.{HomeTimely, home_timely}
use Rattle.coherence.proofs.Reading.{current, current_push, current_kept}
use Rattle.coherence.proofs.Stepping.{after}
use Rattle.coherence.proofs.Timing.{came_so}
use Rattle.coherence.specs.Makings.{Making, make}
use Rattle.coherence.specs.Promise.{at_making}
use Rattle.coherence.specs.Steps.{Effect}
use Rattle.coherence.specs.Worlds.{World, processor_at, home_at}

abbrev pub address : ℕ → ℕ → Address
address s n = record { space = s; word = n }

-- an operation of a processor's own is on memory, one that reaches it an interrupt
processor_spaces : EachReaction (λ s n i r. (e : Entry) → r.entry ≡ Some e → (e.space ≡ 0) ⊎ (e.space ≡ 3))
processor_spaces s n i r h e k = grind (arith, nat_tests)

-- an STio at place p puts its value there, an LDio nothing
entered : (o : Operation) (s t p n cur : ℕ) (vs : Words) (ws : List ℕ) → (is LdIo o || is StIo o) ≡ true → t ≡ s → p < length ws → cur ≡ get_or ws n 0
    → cond (is_write o && (eqb t s && eqb (cond (is_block o) (n / 4) n) p)) (get_or vs.at (cond (is_block o) (n % 4) 0) 0) cur
    ≡ get_or (cond (is StIo o) (set ws p (first_word vs)) ws) n 0
entered LdIo s t p n cur vs ws h same small now = now
entered StIo s t p n cur vs ws h same small now = rw (eq-eqb t s same) (go (cases_eq n p))
  where
    go : (n ≡ p) ⊎ (n ≡ p → ⊥) → cond (eqb n p) (first_word vs) cur ≡ get_or (set ws p (first_word vs)) n 0
    go (inl at) = rw (eq-eqb n p at) (sym (ap (λ (i : ℕ). get_or (set ws p (first_word vs)) i 0) at ∙ get_or-set_same ws p (first_word vs) 0 small))
    go (inr apart) = rw (ne_eqb n p apart) (now ∙ sym (get_or-set_other ws p n (first_word vs) 0 apart))
entered _ s t p n cur vs ws h same small now = absurd (false≢true h)

module _ (start : Address → ℕ) (trail : List Entry) where
  -- what is entered in another space changes nothing here
  elsewhere : (o : Option Entry) (a : Address) → ((x : Entry) → o ≡ Some x → x.space ≡ a.space → ⊥)
      → current start (trail ++ option_to_list o) a ≡ current start trail a
  elsewhere None a other = ap (λ (es : List Entry). current start es a) (append-nil trail)
  elsewhere (Some x) a other = current_kept start trail x a (rw (ne_eqb x.space a.space (other x refl)) (and_right (is_write x.operation) false refl))

  -- what is entered in a device's space, s, is what the device's words become
  here : (s : ℕ) (ws : List ℕ) (o : Option Entry)
      → ((x : Entry) → o ≡ Some x → (x.space ≡ s) × ((is LdIo x.operation || is StIo x.operation) ≡ true) × (x.place < length ws))
      → ((n : ℕ) → current start trail (address s n) ≡ get_or ws n 0)
      → (n : ℕ) → current start (trail ++ option_to_list o) (address s n) ≡ get_or (rewritten ws o) n 0
  here s ws None word now n = elsewhere None (address s n) (λ x h. never cc) ∙ now n
  here s ws (Some x) word now n =
      let w = word x refl in
      current_push start trail x (address s n)
      ∙ entered x.operation s x.space x.place n (current start trail (address s n)) x.values ws w.1 w.0 w.2 (now n)

module _ {A B : Type 0} (ma : Meaning A) (mb : Meaning B) (la : Laws ma) (lb : Laws mb) (k : Making A B) where
  abbrev start : Address → ℕ
  start = at_making ma mb k

  -- The words that each device means are the current values of its space.
  pub record Mirrored (w : World A B) : Type 0 where
    pub first : (n : ℕ) → current start w.trail (address 1 n) ≡ get_or (ma.words w.first.device) n 0
    pub second : (n : ℕ) → current start w.trail (address 2 n) ≡ get_or (mb.words w.second.device) n 0

  pub mirrored_made : Mirrored (make ma mb k)
  mirrored_made = record { first = λ n. refl; second = λ n. refl }

  module _ (w : World A B) (m : Mirrored w) (ms : List (Message ℕ)) where
    -- memory and interrupts are no device's space
    by_others : (o : Option Entry) → ((x : Entry) → o ≡ Some x → (x.space ≡ 0) ⊎ (x.space ≡ 3)) → (s n : ℕ) → (s ≡ 1) ⊎ (s ≡ 2)
        → current start (w.trail ++ option_to_list o) (address s n) ≡ current start w.trail (address s n)
    by_others o space s n device = elsewhere start w.trail o (address s n) (λ x is same. apart x (space x is) device same)
      where
        apart : (x : Entry) → (x.space ≡ 0) ⊎ (x.space ≡ 3) → (s ≡ 1) ⊎ (s ≡ 2) → x.space ≡ s → ⊥
        apart x (inl a) (inl b) same = omega arith
        apart x (inl a) (inr b) same = omega arith
        apart x (inr a) (inl b) same = omega arith
        apart x (inr a) (inr b) same = omega arith

    pub mirrored_kept : (e : Effect A B) → Arises ma mb w e → Mirrored (after w ms e)
    mirrored_kept e (at_processor p small i r h is) =
        let other = by_others r.entry (processor_spaces (processor_at w p) p i r h) in
        subst (λ (x : Effect A B). Mirrored (after w ms x)) (sym is)
        (record { first = λ n. other 1 n (inl refl) ∙ m.first n; second = λ n. other 2 n (inr refl) ∙ m.second n })
    mirrored_kept e (at_home b small x r h is) =
        let t = came_so (received (home_at w b) b x) (HomeTimely (home_at w b).clock b) r h (home_timely (home_at w b) b x) in
        let other = by_others r.entry (λ y k. inl (t.enters y k).space) in
        subst (λ (x : Effect A B). Mirrored (after w ms x)) (sym is)
        (record { first = λ n. other 1 n (inl refl) ∙ m.first n; second = λ n. other 2 n (inr refl) ∙ m.second n })
    mirrored_kept e (at_first i r h is) =
        let law = bridge_writing.only_stores_write ma la in
        let stamped = (bridge.entries_are_stamped ma).stamps w.first 0 i r h in
        let ws = ma.words w.first.device in
        subst (λ (x : Effect A B). Mirrored (after w ms x)) (sym is)
        (record {
          first = λ n.
              here start w.trail 1 ws r.entry (λ x k. ((stamped x k).1, (law.places w.first 0 i r h x k).0, (law.places w.first 0 i r h x k).1)) m.first n
              ∙ ap (λ (vs : List ℕ). get_or vs n 0) (sym (law.words w.first 0 i r h));
          second = λ n. elsewhere start w.trail r.entry (address 2 n) (λ x k same. let one = (stamped x k).1 in omega arith) ∙ m.second n;
        })
    mirrored_kept e (at_second i r h is) =
        let law = bridge_writing.only_stores_write mb lb in
        let stamped = (bridge.entries_are_stamped mb).stamps w.second 1 i r h in
        let ws = mb.words w.second.device in
        subst (λ (x : Effect A B). Mirrored (after w ms x)) (sym is)
        (record {
          first = λ n. elsewhere start w.trail r.entry (address 1 n) (λ x k same. let two = (stamped x k).1 in omega arith) ∙ m.first n;
          second = λ n.
              here start w.trail 2 ws r.entry (λ x k. ((stamped x k).1, (law.places w.second 1 i r h x k).0, (law.places w.second 1 i r h x k).1)) m.second n
              ∙ ap (λ (vs : List ℕ). get_or vs n 0) (sym (law.words w.second 1 i r h));
        })
