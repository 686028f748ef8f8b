-- The numbers of every node at rest are within their end: a call that would take one past it is not committed.
use Rattle.std.proofs.Common.{◌≡◌, ℕ, ◌+◌, ◌<◌, true, ◌&&◌, leb, List, length, get_or, set, replicate, sym, refl, ap, ◌∙◌, subst, ⊎_elim, arith}
use Rattle.device.specs.Meaning.{Meaning}
use Rattle.home.specs.Homes.{new_home}
use Rattle.home.specs.declared.machine.Home.{Home}
use Rattle.message.specs.declared.message.Message.{Message}
use Rattle.ordering.specs.Clocks.{number_end, is_within}
use Rattle.processor.specs.States.{made, numbers_within}
use Rattle.processor.specs.declared.state.Processor.{Processor}
use Rattle.std.proofs.lemmas.List.FromFn.{get_or-map-range_with_len}
use Rattle.std.proofs.lemmas.List.{get_or-set_same, get_or-set_other, get_or_past, get_or-replicate}
use Rattle.std.proofs.lemmas.Bool.{and_parts, and_from, cases_lt, cases_eq}
use Rattle.coherence.proofs.Arising.{Arises, at_processor, at_home, at_first, at_second}
use Rattle.coherence.proofs.Clocks.{Shape}
use Rattle.coherence.proofs.Stepping.{after}
use Rattle.coherence.specs.Makings.{Making, rest_fits, is_fit, make, block_words}
use Rattle.coherence.specs.Steps.{Effect, bridge_within}
use Rattle.coherence.specs.Worlds.{World, processor_at, home_at, no_processor, no_home}

-- What each of a table has, once one is replaced by what has it too.
pub each_set : {X : Type 0} (P : X → Type 0) (xs : List X) (i : ℕ) (x d : X) → i < length xs → P x → ((j : ℕ) → P (get_or xs j d)) → (j : ℕ) → P (get_or (set xs i x) j d)
each_set P xs i x d small new old j =
    ⊎_elim
    (λ (same : j ≡ i). subst (λ (k : ℕ). P (get_or (set xs i x) k d)) (sym same) (subst P (sym (get_or-set_same xs i x d small)) new))
    (λ apart. subst P (sym (get_or-set_other xs i j x d apart)) (old j))
    (cases_eq j i)

module _ {A B : Type 0} where
  pub record NumbersWithin (w : World A B) : Type 0 where
    pub processors : (p : ℕ) → numbers_within (processor_at w p) ≡ true
    pub homes : (b : ℕ) → is_within (home_at w b).clock ≡ true
    pub first : bridge_within w.first ≡ true
    pub second : bridge_within w.second ≡ true

module _ {A B : Type 0} (ma : Meaning A) (mb : Meaning B) where
  -- the node that moves is within its end, and the others stay
  pub numbers_kept : (w : World A B) (ms : List (Message ℕ)) (e : Effect A B) → Shape w → NumbersWithin w → Arises ma mb w e → e.within ≡ true → NumbersWithin (after w ms e)
  numbers_kept w ms e s n (at_processor p small i r h is) within =
      subst (λ (x : Effect A B). NumbersWithin (after w ms x)) (sym is) (record {
        processors = each_set (λ (q : Processor ℕ). numbers_within q ≡ true) w.processors p r.next no_processor (omega (arith, s.processors)) (sym (ap (λ (x : Effect A B). x.within) is) ∙ within) n.processors;
        homes = n.homes;
        first = n.first;
        second = n.second;
      })
  numbers_kept w ms e s n (at_home b small m r h is) within =
      subst (λ (x : Effect A B). NumbersWithin (after w ms x)) (sym is) (record {
        processors = n.processors;
        homes = each_set (λ (q : Home ℕ). is_within q.clock ≡ true) w.homes b r.next no_home (omega (arith, s.homes)) (sym (ap (λ (x : Effect A B). x.within) is) ∙ within) n.homes;
        first = n.first;
        second = n.second;
      })
  numbers_kept w ms e s n (at_first i r h is) within =
      subst (λ (x : Effect A B). NumbersWithin (after w ms x)) (sym is) (record {
        processors = n.processors;
        homes = n.homes;
        first = sym (ap (λ (x : Effect A B). x.within) is) ∙ within;
        second = n.second;
      })
  numbers_kept w ms e s n (at_second i r h is) within =
      subst (λ (x : Effect A B). NumbersWithin (after w ms x)) (sym is) (record {
        processors = n.processors;
        homes = n.homes;
        first = n.first;
        second = sym (ap (λ (x : Effect A B). x.within) is) ∙ within;
      })

  -- a board within its figures begins with a clock that is
  pub numbers_made : (k : Making A B) → is_fit ma mb k ≡ true → NumbersWithin (make ma mb k)
  numbers_made k fit = record {
    processors = λ p.
        ⊎_elim
        (λ lt. subst (λ (q : Processor ℕ). numbers_within q ≡ true) (sym (get_or-replicate 4 p (made k.clock) no_processor lt)) both)
        (λ le. subst (λ (q : Processor ℕ). numbers_within q ≡ true) (sym (get_or_past (replicate 4 (made k.clock)) p no_processor le)) refl)
        (cases_lt p 4);
    homes = λ b.
        ⊎_elim
        (λ lt. subst (λ (q : Home ℕ). is_within q.clock ≡ true) (sym (get_or-map-range_with_len (λ j. new_home k.clock (block_words k.words j)) 0 16 b b no_home lt (omega arith))) one)
        (λ le. subst (λ (q : Home ℕ). is_within q.clock ≡ true) (sym (get_or_past (make ma mb k).homes b no_home le)) refl)
        (cases_lt b 16);
    first = both;
    second = both;
  }
    where
      small : leb k.clock number_end ≡ true
      small =
          let some = and_parts (leb 1 k.processors) (leb k.processors 4 && rest_fits ma mb k) fit in
          let rest = and_parts (leb k.processors 4) (rest_fits ma mb k) some.1 in
          (and_parts _ _ (and_parts _ _ (and_parts _ _ (and_parts _ _ (and_parts _ _ rest.1).0).0).0).0).0

      one : is_within (record { global = k.clock; local = 0 }) ≡ true
      one = and_from (leb k.clock number_end) (leb 0 number_end) small refl

      both : (is_within (record { global = k.clock; local = 0 }) && leb 0 (number_end + 1)) ≡ true
      both = and_from (is_within (record { global = k.clock; local = 0 })) (leb 0 (number_end + 1)) one refl
