-- The order of operations holds at the making, and every call keeps it: operations are done in order, and what loads and
-- collects tell is in their entries.
use Rattle.std.proofs.Common.{◌≡◌, ℕ, zero, suc, ◌<◌, ◌≤◌, true, false, List, [], ◌∷◌, Ok, sym, refl, ◌∙◌, subst, ⊎_elim, arith}
use Rattle.device.specs.Meaning.{Meaning}
use Rattle.home.specs.Homes.{new_home}
use Rattle.home.specs.declared.machine.Home.{Home}
use Rattle.message.specs.declared.figures.Figures.{Figures}
use Rattle.processor.specs.Slots.{slot_at}
use Rattle.processor.specs.States.{made}
use Rattle.processor.specs.declared.slot.Slot.TheVariants.{Free, Came}
use Rattle.std.proofs.lemmas.List.FromFn.{get_or-map-range_with_len}
use Rattle.std.proofs.lemmas.Bool.{both_ways}
use Rattle.coherence.proofs.Arising.{never}
use Rattle.coherence.proofs.Carrying.{serves}
use Rattle.coherence.proofs.Clocks.{Timely}
use Rattle.coherence.proofs.ClearedKept.{messages_clear, homes_clear, channels_kept}
use Rattle.coherence.proofs.Errands.{Errands}
use Rattle.coherence.proofs.ErrandsAtBridges.{errands}
use Rattle.coherence.proofs.FetchesKept.{slots_kept, values_kept, blocks_kept}
use Rattle.coherence.proofs.FittingKept.{IssuesWell, issues_well}
use Rattle.coherence.proofs.Growing.{issued_either}
use Rattle.coherence.proofs.InOrderKept.{in_order_kept}
use Rattle.coherence.proofs.Meeting.{Meets, meets, meets_arises}
use Rattle.coherence.proofs.Orderly.{Orderly, InLine, Truthful, Known}
use Rattle.coherence.proofs.Recording.{grown, records}
use Rattle.coherence.proofs.Standing.{none_stands}
use Rattle.coherence.proofs.TellingKept.{told_kept}
use Rattle.coherence.proofs.Timing.{timely}
use Rattle.coherence.proofs.TruthfulKept.{asked_on, brought_on, came_on}
use Rattle.coherence.specs.Histories.{History, began, called_on, after_calls, run}
use Rattle.coherence.specs.Makings.{Making, make, block_words}
use Rattle.coherence.specs.Promise.{InOrder, TrulyTold}
use Rattle.coherence.specs.Steps.{Effect, effect}
use Rattle.coherence.specs.Worlds.{World, processor_at, home_at, no_home}
use Rattle.coherence.specs.declared.call.Call.{Call}

module _ {A B : Type 0} (ma : Meaning A) (mb : Meaning B) where
  module _ (f : Figures) (c : Call) (h : History A B) (e : Effect A B) (fit : h.world.fit ≡ true) (is_effect : effect ma mb c h.world ≡ Ok e) (known : Known ma mb f h) (later : Known ma mb f (grown ma mb c h e)) where
    abbrev w : World A B
    w = h.world

    few : w.count ≤ 4
    few = known.formed.shape.few fit

    met : Meets ma mb w c e
    met = meets ma mb w c e is_effect

    time : Timely w e
    time = timely w known.formed.shape ma mb e (meets_arises ma mb w few c e met)

    runs : Errands w e
    runs = errands w ma mb known.formed.shape few known.tracked c e met

    new : IssuesWell ma mb w c
    new = issues_well ma mb w few c e met

    line_kept : InLine h → InLine (grown ma mb c h e)
    line_kept line = record {
      fitting = λ x there. ⊎_elim (line.fitting x) (new.fits x) (issued_either ma mb f c h e known later time x there);
      in_order = in_order_kept ma mb f c h e known later time runs line;
      messages = messages_clear ma mb f c h e known later time runs line;
      homes = homes_clear ma mb f c h e known later time runs line;
      channels = channels_kept ma mb f c h e known later time runs line;
      slots = slots_kept ma mb f c h e known later time runs line;
      values = values_kept ma mb f c h e known later time runs line;
      blocks = blocks_kept ma mb f c h e known later time runs line;
    }

    truth_kept : Truthful h → Truthful (grown ma mb c h e)
    truth_kept truth = record {
      asked = λ p d small two. asked_on ma mb f c h e known later time runs new truth p d small two;
      brought = λ p d small two. brought_on ma mb f c h e known later time runs new truth p d small two;
      came = λ p d v small two. came_on ma mb f c h e known later time runs new truth p d small two v;
      told = told_kept ma mb f c h e known later time truth few met;
    }

    -- An accepted call keeps the order of operations, given what else is known before and after it.
    pub orderly_kept : Orderly h → Orderly (grown ma mb c h e)
    orderly_kept old = record { in_line = line_kept old.in_line; truthful = truth_kept old.truthful }

  -- So does any call.
  pub orderly_called : (f : Figures) (c : Call) (h : History A B) → Known ma mb f h → Orderly h → Known ma mb f (called_on ma mb c h) → Orderly (called_on ma mb c h)
  orderly_called f c h known old =
      records ma mb (λ (x : History A B). Known ma mb f x → Orderly x) c h (λ _. old)
      (λ e fit is_effect within later. orderly_kept f c h e fit is_effect known later old)

  -- At the making nothing is issued, done or under way.
  home_free : (k : Making A B) (b n s : ℕ) → b < 16 → serves n s (home_at (make ma mb k) b) ≡ false
  home_free k b n s small =
      subst (λ (x : Home ℕ). serves n s x ≡ false) (sym (get_or-map-range_with_len (λ j. new_home k.clock (block_words k.words j)) 0 16 b b no_home small (omega arith))) refl

  slot_free : (k : Making A B) (p d : ℕ) → p < 4 → d < 2 → slot_at (processor_at (make ma mb k) p).slots d ≡ Free
  slot_free k p d small two = go p small
    where
      slots : (j : ℕ) → j < 2 → slot_at (made k.clock).slots j ≡ Free
      slots zero low = refl
      slots (suc zero) low = refl
      slots (suc (suc j)) low = absurd (omega arith)

      go : (q : ℕ) → q < 4 → slot_at (processor_at (make ma mb k) q).slots d ≡ Free
      go zero low = slots d two
      go (suc zero) low = slots d two
      go (suc (suc zero)) low = slots d two
      go (suc (suc (suc zero))) low = slots d two
      go (suc (suc (suc (suc q)))) low = absurd (omega arith)

  pub orderly_made : (k : Making A B) → Orderly (began ma mb k)
  orderly_made k = record {
    in_line = record {
      fitting = λ x there. absurd (none_stands x there);
      in_order = λ x y sx sy first late. absurd (none_stands x sx);
      messages = λ m there. absurd (none_stands m there);
      homes = λ b n s small c. absurd (both_ways (serves n s (home_at (make ma mb k) b)) (home_free k b n s small) c);
      channels = tt;
      slots = λ p d small two none y there. absurd (none_stands y there);
      values = λ p d small two m there. absurd (none_stands m there);
      blocks = λ d b two small none y there. absurd (none_stands y there);
    };
    truthful = record {
      asked = λ p d small two m there. absurd (none_stands m there);
      brought = λ p d small two m there. absurd (none_stands m there);
      came = λ p d v small two filled. never (let both : Free ≡ Came v = sym (slot_free k p d small two) ∙ filled in cc);
      told = λ t there. absurd (none_stands t there);
    };
  }

  over_known : (f : Figures) (h : History A B) → ((calls : List Call) → Known ma mb f (after_calls ma mb h calls)) → Orderly h → (calls : List Call) → Orderly (after_calls ma mb h calls)
  over_known f h known old [] = old
  over_known f h known old (c ∷ cs) = over_known f (called_on ma mb c h) (λ ds. known (c ∷ ds)) (orderly_called f c h (known []) old (known (c ∷ []))) cs

  -- So it holds over every run, where the rest is known of every run of that making,
  pub orderly : (f : Figures) (k : Making A B) → ((calls : List Call) → Known ma mb f (run ma mb k calls)) → (calls : List Call) → Orderly (run ma mb k calls)
  orderly f k known calls = over_known f (began ma mb k) known (orderly_made k) calls

  -- and gives two parts of the order promise.
  pub in_order : (h : History A B) → Orderly h → InOrder h.issued h.world.trail
  in_order h o = o.in_line.in_order

  pub truly_told : (k : Making A B) (h : History A B) → Orderly h → TrulyTold ma mb k h.told h.world.trail
  truly_told k h o = o.truthful.told
