-- The clocks of nodes, and what an effect does to them.
use Rattle.std.proofs.Common.{◌≡◌, ℕ, ◌+◌, ◌-◌, ◌<◌, ◌≤◌, Bool, true, false, cond, eqb, ltb, ◌⊎◌, length, is_some, Some, refl, ap, arith}
use Rattle.bridge.specs.declared.state.Bridge.{Bridge}
use Rattle.home.specs.declared.machine.Home.{Home}
use Rattle.message.specs.Nodes.{home_node}
use Rattle.ordering.specs.Stamps.{stamped}
use Rattle.ordering.specs.declared.clock.Clock.{Clock}
use Rattle.std.proofs.lemmas.List.{get_or-set_same, get_or-set_other}
use Rattle.std.proofs.lemmas.Bool.{lt-ltb, le-ltb, ltb-false, ne_eqb}
use Rattle.trail.specs.declared.entry.Entry.{Entry}
use Rattle.coherence.specs.Steps.{Effect}
use Rattle.coherence.specs.Worlds.{World, processor_at, home_at, with_processor, with_home, with_first, with_second, no_processor, no_home}
use Rattle.processor.specs.declared.state.Processor.{Processor}
use Rattle.ordering.specs.Clocks.{Earlier}

module _ {A B : Type 0} where
  -- The clock of a node.
  abbrev pub clock_at : World A B → ℕ → Clock ℕ
  clock_at w n =
      cond (ltb n 4) (processor_at w n).clock
      (cond (eqb n 4) w.first.clock
      (cond (eqb n 5) w.second.clock
      (cond (ltb n 16) no_home.clock (home_at w (n - 16)).clock)))

  -- Four processors and sixteen homes; a board within its figures has no more processors than that.
  pub record Shape (w : World A B) : Type 0 where
    pub processors : length w.processors ≡ 4
    pub homes : length w.homes ≡ 16
    pub few : w.fit ≡ true → w.count ≤ 4

  -- An effect moves the clock of its node alone, and never back; an operation takes it on and is stamped with it.
  pub record Timely (w : World A B) (e : Effect A B) : Type 0 where
    pub others : (n : ℕ) → (n ≡ e.node → ⊥) → clock_at e.next n ≡ clock_at w n
    pub onward : (clock_at e.next e.node ≡ clock_at w e.node) ⊎ Earlier (clock_at w e.node) (clock_at e.next e.node)
    pub stamps : (x : Entry) → e.entry ≡ Some x → x.stamp ≡ stamped (clock_at e.next e.node) e.node
    pub rises : is_some e.entry ≡ true → Earlier (clock_at w e.node) (clock_at e.next e.node)

  module _ (w : World A B) (p : ℕ) (s : Processor ℕ) where
    pub processor_clock : length w.processors ≡ 4 → p < 4 → clock_at (with_processor w p s) p ≡ s.clock
    processor_clock four small =
        rw (lt-ltb p 4 small) (ap (λ (q : Processor ℕ). q.clock) (get_or-set_same w.processors p s no_processor (omega arith)))

    pub processor_others : (n : ℕ) → (n ≡ p → ⊥) → clock_at (with_processor w p s) n ≡ clock_at w n
    processor_others n apart =
        ap (λ (q : Processor ℕ). cond (ltb n 4) q.clock (cond (eqb n 4) w.first.clock (cond (eqb n 5) w.second.clock (cond (ltb n 16) no_home.clock (home_at w (n - 16)).clock))))
        (get_or-set_other w.processors p n s no_processor apart)

  module _ (w : World A B) (b : ℕ) (h : Home ℕ) where
    pub home_clock : length w.homes ≡ 16 → b < 16 → clock_at (with_home w b h) (home_node b) ≡ h.clock
    home_clock sixteen small =
        let place : 16 + b - 16 ≡ b = omega arith in
        rw (le-ltb (16 + b) 4 (omega arith), ne_eqb (16 + b) 4 (omega arith), ne_eqb (16 + b) 5 (omega arith), le-ltb (16 + b) 16 (omega arith), place)
        (ap (λ (x : Home ℕ). x.clock) (get_or-set_same w.homes b h no_home (omega arith)))

    pub home_others : (n : ℕ) → (n ≡ home_node b → ⊥) → clock_at (with_home w b h) n ≡ clock_at w n
    home_others n apart =
        ap (λ (c : Clock ℕ). cond (ltb n 4) (processor_at w n).clock (cond (eqb n 4) w.first.clock (cond (eqb n 5) w.second.clock c))) (go (ltb n 16) refl)
      where
        go : (x : Bool) → ltb n 16 ≡ x → cond x no_home.clock (home_at (with_home w b h) (n - 16)).clock ≡ cond x no_home.clock (home_at w (n - 16)).clock
        go true small = refl
        go false large =
            let past = ltb-false n 16 large in
            let other : n - 16 ≡ b → ⊥ = λ same. apart (omega arith) in
            ap (λ (x : Home ℕ). x.clock) (get_or-set_other w.homes b (n - 16) h no_home other)

  pub first_others : (w : World A B) (d : Bridge A ℕ) (n : ℕ) → (n ≡ 4 → ⊥) → clock_at (with_first w d) n ≡ clock_at w n
  first_others w d n apart = rw (ne_eqb n 4 apart) refl

  pub second_others : (w : World A B) (d : Bridge B ℕ) (n : ℕ) → (n ≡ 5 → ⊥) → clock_at (with_second w d) n ≡ clock_at w n
  second_others w d n apart = rw (ne_eqb n 5 apart) refl
