-- Every effect is timely: it moves its own node's clock alone, and never back.
use Rattle.std.proofs.Common.{◌≡◌, ℕ, ◌+◌, ◌-◌, ◌<◌, true, ◌⊎◌, is_some, IfSome, Some, Option, sym, refl, subst, inl, inr, ⊎_elim, arith}
use Rattle.bridge.proofs.Clocks as bridge
use Rattle.bridge.specs.Inputs as bridge_input
use Rattle.bridge.specs.declared.state.Bridge.{Bridge}
use Rattle.device.specs.Meaning.{Meaning}
use Rattle.home.specs.Reactions.{received}
use Rattle.home.specs.declared.machine.Home.{Home}
use Rattle.message.specs.declared.message.Message.{Message}
use Rattle.message.specs.declared.reaction.Reaction.{Reaction}
use Rattle.ordering.specs.Stamps.{stamped}
use Rattle.ordering.specs.declared.clock.Clock.{Clock}
use Rattle.processor.proofs.Stamping as processor
use Rattle.processor.specs.Inputs as processor_input
use Rattle.processor.specs.declared.state.Processor.{Processor}
use Rattle.std.proofs.lemmas.Bool.{lt-ltb, le-ltb, ne_eqb}
use Rattle.trail.specs.declared.entry.Entry.{Entry}
use Rattle.coherence.proofs.Arising.{Arises, at_processor, at_home, at_first, at_second}
use Rattle.coherence.proofs.Clocks.{clock_at, Shape, Timely, processor_clock, processor_others, home_clock, home_others, first_others, second_others}
use Rattle.coherence.proofs.HomeClocks.{HomeTimely, home_timely}
use Rattle.coherence.specs.Steps.{Effect, by_processor, by_home, by_first, by_second}
use Rattle.coherence.specs.Worlds.{World, processor_at, home_at}
use Rattle.ordering.specs.Clocks.{Earlier}

-- what holds of what came
pub came_so : (o : Option (Reaction (Home ℕ))) (P : Reaction (Home ℕ) → Type 0) (r : Reaction (Home ℕ)) → o ≡ Some r → IfSome o P → P r
came_so o P r is f = let Q : Option (Reaction (Home ℕ)) → Type 0 = λ x. IfSome x P in subst Q is f

module _ {A B : Type 0} where
  -- from the clock of the node before and after
  from_clocks : (w : World A B) (e : Effect A B) (old new : Clock ℕ) → clock_at w e.node ≡ old → clock_at e.next e.node ≡ new
      → ((n : ℕ) → (n ≡ e.node → ⊥) → clock_at e.next n ≡ clock_at w n)
      → (new ≡ old) ⊎ Earlier old new
      → ((x : Entry) → e.entry ≡ Some x → x.stamp ≡ stamped new e.node)
      → (is_some e.entry ≡ true → Earlier old new)
      → Timely w e
  from_clocks w e old new is_old is_new others onward stamps rises = record {
    others = others;
    onward = rw (is_old, is_new) onward;
    stamps = λ x h. rw is_new (stamps x h);
    rises = λ h. rw (is_old, is_new) (rises h);
  }

  module _ (w : World A B) (shape : Shape w) where
    by_processors : (p : ℕ) → p < 4 → (i : processor_input.Input) (r : Reaction (Processor ℕ)) → processor_input.reaction (processor_at w p) p i ≡ Some r
        → Timely w (by_processor w p r)
    by_processors p small i r h =
        let s = processor_at w p in
        from_clocks w (by_processor w p r) s.clock r.next.clock
        (rw (lt-ltb p 4 small) refl)
        (processor_clock w p r.next shape.processors small)
        (processor_others w p r.next)
        ((processor.clocks_go_on).never_back s p i r h)
        ((processor.entries_are_stamped).stamps s p i r h)
        ((processor.clocks_go_on).at_operations s p i r h)

    by_homes : (b : ℕ) → b < 16 → (m : Message ℕ) (r : Reaction (Home ℕ)) → received (home_at w b) b m ≡ Some r → Timely w (by_home w b r)
    by_homes b small m r h =
        let k = home_at w b in
        let t = came_so (received k b m) (HomeTimely k.clock b) r h (home_timely k b m) in
        let place : 16 + b - 16 ≡ b = omega arith in
        from_clocks w (by_home w b r) k.clock r.next.clock
        (rw (le-ltb (16 + b) 4 (omega arith), ne_eqb (16 + b) 4 (omega arith), ne_eqb (16 + b) 5 (omega arith), le-ltb (16 + b) 16 (omega arith), place) refl)
        (home_clock w b r.next shape.homes small)
        (home_others w b r.next)
        (⊎_elim inl (λ up. inr (inl up)) t.onward)
        t.stamps
        (λ some. inl (t.rises some))

    by_firsts : (ma : Meaning A) (i : bridge_input.Input) (r : Reaction (Bridge A ℕ)) → bridge_input.reaction ma 0 w.first i ≡ Some r → Timely w (by_first w r)
    by_firsts ma i r h =
        from_clocks w (by_first w r) w.first.clock r.next.clock refl refl (first_others w r.next)
        ((bridge.clocks_go_on ma).never_back w.first 0 i r h)
        (λ x is. ((bridge.entries_are_stamped ma).stamps w.first 0 i r h x is).0)
        ((bridge.clocks_go_on ma).at_operations w.first 0 i r h)

    by_seconds : (mb : Meaning B) (i : bridge_input.Input) (r : Reaction (Bridge B ℕ)) → bridge_input.reaction mb 1 w.second i ≡ Some r → Timely w (by_second w r)
    by_seconds mb i r h =
        from_clocks w (by_second w r) w.second.clock r.next.clock refl refl (second_others w r.next)
        ((bridge.clocks_go_on mb).never_back w.second 1 i r h)
        (λ x is. ((bridge.entries_are_stamped mb).stamps w.second 1 i r h x is).0)
        ((bridge.clocks_go_on mb).at_operations w.second 1 i r h)

    pub timely : (ma : Meaning A) (mb : Meaning B) (e : Effect A B) → Arises ma mb w e → Timely w e
    timely ma mb e (at_processor p small i r h is) = subst (Timely w) (sym is) (by_processors p small i r h)
    timely ma mb e (at_home b small m r h is) = subst (Timely w) (sym is) (by_homes b small m r h)
    timely ma mb e (at_first i r h is) = subst (Timely w) (sym is) (by_firsts ma i r h)
    timely ma mb e (at_second i r h is) = subst (Timely w) (sym is) (by_seconds mb i r h)
