-- Over every run: the figures stay, numbers at rest are within their end, homes keep well-formed requests of the board, and
-- every waiting message is well formed.
use Rattle.std.proofs.Common.{◌≡◌, ℕ, ◌+◌, ◌<◌, ◌≤◌, true, ltb, List, get_or, take, drop, set, IfSome, Option, sym, refl, ap, ◌∙◌, subst, ⊎_elim, arith}
use Rattle.bridge.specs.Inputs as bridge
use Rattle.device.specs.Meaning.{Meaning, Laws}
use Rattle.home.specs.Homes.{new_home}
use Rattle.home.specs.declared.machine.Home.{Home}
use Rattle.message.specs.Checks.{has_processor}
use Rattle.message.specs.Reactions.{sent}
use Rattle.message.specs.declared.figures.Figures.{Figures}
use Rattle.message.specs.declared.reaction.Reaction.{Reaction}
use Rattle.processor.specs.Inputs as processor
use Rattle.std.proofs.lemmas.List.FromFn.{get_or-map-range_with_len}
use Rattle.std.proofs.ByRecursion.{All-append, All-take, All-drop}
use Rattle.std.proofs.lemmas.List.{get_or-set_same, get_or-set_other}
use Rattle.std.proofs.lemmas.Bool.{and_from, lt-ltb, both_ways, cases_eq}
use Rattle.std.specs.List.{AllByRecursion as All}
use Rattle.coherence.proofs.Clocks.{Shape}
use Rattle.coherence.proofs.Meeting.{Meets, at_call, at_first_wish, at_second_wish, to_processor, to_home, to_first, to_second, meets, meets_arises}
use Rattle.coherence.proofs.FormsBridges.{bridge_sends}
use Rattle.coherence.proofs.FormsBuilt.{Well}
use Rattle.coherence.proofs.FormsFigures.{figures_kept}
use Rattle.coherence.proofs.FormsHomes.{HomeGood, home_good}
use Rattle.coherence.proofs.FormsKept.{HomeWell, nobody_on_board}
use Rattle.coherence.proofs.FormsNumbers.{NumbersWithin, numbers_kept, numbers_made}
use Rattle.coherence.proofs.FormsProcessors.{processor_sends}
use Rattle.coherence.proofs.Rising.{all_nth}
use Rattle.coherence.proofs.Running.{over_calls, shape_kept, shape_made}
use Rattle.coherence.proofs.Stepping.{steps}
use Rattle.coherence.specs.Histories.{began, run}
use Rattle.coherence.specs.Promise.{MessagesAreFormed}
use Rattle.coherence.specs.Makings.{Making, make, block_words}
use Rattle.coherence.specs.Steps.{Effect, figures, waiting, step}
use Rattle.coherence.specs.Worlds.{World, processor_at, home_at, no_home}
use Rattle.coherence.specs.declared.call.Call.{Call}
use Rattle.coherence.specs.declared.call.Call.TheVariants.{Deliver}

abbrev pub HomesWell : {A B : Type 0} → Figures → World A B → Type 0
HomesWell f w = (b : ℕ) → b < 16 → HomeWell f b (home_at w b)

module _ {A B : Type 0} (ma : Meaning A) (mb : Meaning B) where
  -- What an effect sends is well formed, and so is what the homes then keep.
  record Good (f : Figures) (e : Effect A B) : Type 0 where
    sends : All (Well f) (sent e.sent)
    homes : HomesWell f e.next

  module _ (w : World A B) (shape : Shape w) (few : w.count ≤ 4) (homes : HomesWell (figures ma mb w) w) where
    on_board : (p : ℕ) → p < w.count → has_processor (figures ma mb w) p ≡ true
    on_board p small = and_from (ltb p 4) (ltb p w.count) (lt-ltb p 4 (omega arith)) (lt-ltb p w.count small)

    home_put : (b : ℕ) → b < 16 → (h : Home ℕ) → HomeWell (figures ma mb w) b h → (j : ℕ) → j < 16 → HomeWell (figures ma mb w) j (get_or (set w.homes b h) j no_home)
    home_put b small h well j low =
        ⊎_elim
        (λ (same : j ≡ b).
        subst (λ (k : ℕ). HomeWell (figures ma mb w) k (get_or (set w.homes b h) k no_home)) (sym same)
        (subst (HomeWell (figures ma mb w) b) (sym (get_or-set_same w.homes b h no_home (omega (arith, shape.homes)))) well))
        (λ apart. subst (HomeWell (figures ma mb w) j) (sym (get_or-set_other w.homes b j h no_home apart)) (homes j low))
        (cases_eq j b)

    effect_good : (c : Call) (e : Effect A B) → Meets ma mb w c e → e.within ≡ true → Good (figures ma mb w) e
    effect_good c e (at_call p small i r asks own ok rest h is) within =
        subst (Good (figures ma mb w)) (sym is) (record {
          sends = processor_sends (figures ma mb w) p (on_board p small) (processor_at w p) i r ok h (sym (ap (λ (x : Effect A B). x.within) is) ∙ within);
          homes = homes;
        })
    effect_good c e (at_first_wish r asks h is) within =
        subst (Good (figures ma mb w)) (sym is) (record {
          sends = bridge_sends ma (figures ma mb w) 0 refl refl w.first (bridge.Act w.count) r (refl, few) h (sym (ap (λ (x : Effect A B). x.within) is) ∙ within);
          homes = homes;
        })
    effect_good c e (at_second_wish r asks h is) within =
        subst (Good (figures ma mb w)) (sym is) (record {
          sends = bridge_sends mb (figures ma mb w) 1 refl refl w.second (bridge.Act w.count) r (refl, few) h (sym (ap (λ (x : Effect A B). x.within) is) ∙ within);
          homes = homes;
        })
    effect_good c e (to_processor p small m r goes h is) within =
        subst (Good (figures ma mb w)) (sym is) (record {
          sends = processor_sends (figures ma mb w) p (on_board p small) (processor_at w p) (processor.Receive m) r goes.well h (sym (ap (λ (x : Effect A B). x.within) is) ∙ within);
          homes = homes;
        })
    effect_good c e (to_home b small m r goes h is) within =
        let Q : Option (Reaction (Home ℕ)) → Type 0 = λ o. IfSome o (HomeGood (figures ma mb w) b) in
        let good : HomeGood (figures ma mb w) b r = subst Q h (home_good (figures ma mb w) b small (home_at w b) m (homes b small) goes.well goes.receiver) in
        subst (Good (figures ma mb w)) (sym is) (record {
          sends = good.sends (sym (ap (λ (x : Effect A B). x.within) is) ∙ within);
          homes = home_put b small r.next good.next;
        })
    effect_good c e (to_first m r goes h is) within =
        subst (Good (figures ma mb w)) (sym is) (record {
          sends = bridge_sends ma (figures ma mb w) 0 refl refl w.first (bridge.Receive m) r (goes.well, goes.receiver) h (sym (ap (λ (x : Effect A B). x.within) is) ∙ within);
          homes = homes;
        })
    effect_good c e (to_second m r goes h is) within =
        subst (Good (figures ma mb w)) (sym is) (record {
          sends = bridge_sends mb (figures ma mb w) 1 refl refl w.second (bridge.Receive m) r (goes.well, goes.receiver) h (sym (ap (λ (x : Effect A B). x.within) is) ∙ within);
          homes = homes;
        })

  -- what still waits is what waited
  still_well : (f : Figures) (c : Call) (w : World A B) → All (Well f) w.messages → All (Well f) (waiting ma mb c w)
  still_well f (Deliver i) w all = All-append (Well f) (take i w.messages) (drop (i + 1) w.messages) (All-take (Well f) i w.messages all) (All-drop (Well f) (i + 1) w.messages all)
  still_well f _ w all = all

  -- A world of a board with these figures.
  pub record Formed (f : Figures) (w : World A B) : Type 0 where
    pub shape : Shape w
    pub same : figures ma mb w ≡ f
    pub numbers : w.fit ≡ true → NumbersWithin w
    pub homes : HomesWell f w
    pub messages : All (Well f) w.messages

  module _ (la : Laws ma) (lb : Laws mb) where
    pub formed_kept : (f : Figures) (c : Call) (w : World A B) → Formed f w → Formed f (step ma mb c w).1
    formed_kept f c w t = steps ma mb (Formed f) c w t (λ e fit is within.
        let ms = waiting ma mb c w in
        let a = meets_arises ma mb w (t.shape.few fit) c e (meets ma mb w c e is) in
        let known : HomesWell (figures ma mb w) w = subst (λ (g : Figures). HomesWell g w) (sym t.same) t.homes in
        let good : Good f e = subst (λ (g : Figures). Good g e) t.same (effect_good w t.shape (t.shape.few fit) known c e (meets ma mb w c e is) within) in
        record {
          shape = shape_kept ma mb w ms e t.shape a;
          same = figures_kept ma mb la lb w ms e a ∙ t.same;
          numbers = λ _. numbers_kept ma mb w ms e t.shape (t.numbers fit) a within;
          homes = good.homes;
          messages = All-append (Well f) ms (sent e.sent) (still_well f c w t.messages) good.sends;
        })

    pub formed_made : (k : Making A B) → Formed (figures ma mb (make ma mb k)) (make ma mb k)
    formed_made k = record {
      shape = shape_made ma mb k;
      same = refl;
      numbers = numbers_made ma mb k;
      homes = λ b small.
          subst (HomeWell (figures ma mb (make ma mb k)) b) (sym (get_or-map-range_with_len (λ j. new_home k.clock (block_words k.words j)) 0 16 b b no_home small (omega arith)))
          (record { holders = nobody_on_board (figures ma mb (make ma mb k)); awaited = nobody_on_board (figures ma mb (make ma mb k)); request = λ free. absurd (both_ways true free refl) });
      messages = tt;
    }

    pub formed : (k : Making A B) (calls : List Call) → Formed (figures ma mb (make ma mb k)) (run ma mb k calls).world
    formed k calls = over_calls ma mb (Formed (figures ma mb (make ma mb k))) (formed_kept (figures ma mb (make ma mb k))) (began ma mb k) calls (formed_made k)

    -- The figures of a run are those of its making, and by them every waiting message is well formed.
    pub figures_stay : (k : Making A B) (calls : List Call) → figures ma mb (run ma mb k calls).world ≡ figures ma mb (make ma mb k)
    figures_stay k calls = (formed k calls).same

    pub waiting_are_well_formed : (k : Making A B) (calls : List Call) → All (Well (figures ma mb (run ma mb k calls).world)) (run ma mb k calls).world.messages
    waiting_are_well_formed k calls =
        subst (λ (g : Figures). All (Well g) (run ma mb k calls).world.messages) (sym (figures_stay k calls)) (formed k calls).messages

    pub messages_are_formed : MessagesAreFormed ma mb
    messages_are_formed k calls m stands =
        all_nth (Well (figures ma mb (run ma mb k calls).world)) (run ma mb k calls).world.messages stands.0 m (waiting_are_well_formed k calls) stands.1
