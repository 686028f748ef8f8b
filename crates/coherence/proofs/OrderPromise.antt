-- The whole order promise, for every making and every list of calls.
use Rattle.std.proofs.Common.{◌≡◌, ℕ, ◌<◌, true, List, ◌++◌, Some, None, Option, sym, refl, subst}
use Rattle.device.specs.Meaning.{Meaning, Laws}
use Rattle.message.specs.declared.figures.Figures.{Figures}
use Rattle.std.proofs.ByRecursion.{All-weaker}
use Rattle.std.proofs.lemmas.List.{append-nil}
use Rattle.std.specs.Option.{option_to_list}
use Rattle.std.specs.List.{AllByRecursion as All}
use Rattle.trail.specs.declared.entry.Entry.{Entry}
use Rattle.coherence.proofs.Arising.{Arises}
use Rattle.coherence.proofs.Blocks.{block}
use Rattle.coherence.proofs.Currency.{all_rise, reads_now}
use Rattle.coherence.proofs.DeviceWords.{Mirrored, mirrored_kept, mirrored_made}
use Rattle.coherence.proofs.FormsBuilt.{Well}
use Rattle.coherence.proofs.Keeping.{Kept, fitted, kept_kept, kept_made}
use Rattle.coherence.proofs.Meeting.{Meets, meets, meets_arises}
use Rattle.coherence.proofs.Moving.{passes}
use Rattle.coherence.proofs.Numbers.{entries_are_unique, numbered}
use Rattle.coherence.proofs.Orderly.{Known}
use Rattle.coherence.proofs.OrderlyKept.{in_order, orderly, truly_told}
use Rattle.coherence.proofs.Reading.{ByOrder, by_order_push, current_promise}
use Rattle.coherence.proofs.Rising.{Rising, rising_push}
use Rattle.coherence.proofs.Ruled.{ruled}
use Rattle.coherence.proofs.Running.{Timed, over_calls, timed_kept, timed_made}
use Rattle.coherence.proofs.Spaces.{Placed, placed_kept}
use Rattle.coherence.proofs.Stepping.{after, steps}
use Rattle.coherence.proofs.Timing.{timely}
use Rattle.coherence.proofs.TokensKept.{near_block}
use Rattle.coherence.proofs.Tracking.{tracked}
use Rattle.coherence.proofs.Values.{Values}
use Rattle.coherence.proofs.ValuesKept.{values_made, values_passed}
use Rattle.coherence.specs.Histories.{began, run}
use Rattle.coherence.specs.Makings.{Making, make}
use Rattle.coherence.specs.Promise.{OrderKept, OrderPromise, at_making}
use Rattle.coherence.specs.Steps.{Effect, figures, step, waiting}
use Rattle.coherence.specs.Worlds.{World}
use Rattle.coherence.specs.declared.call.Call.{Call}

module _ {A B : Type 0} (ma : Meaning A) (mb : Meaning B) (la : Laws ma) (lb : Laws mb) (k : Making A B) where
  abbrev figures_made : Figures
  figures_made = figures ma mb (make ma mb k)

  -- What every world of a run keeps.
  record Whole (w : World A B) : Type 0 where
    kept : Kept ma mb figures_made w
    timed : Timed ma mb w
    placed : All Placed w.trail
    mirrored : Mirrored ma mb la lb k w
    values : (b : ℕ) → b < 16 → Values b (at_making ma mb k) (block b w)
    rising : Rising w.trail
    by_order : ByOrder (at_making ma mb k) w.trail

  module _ (c : Call) (w : World A B) (t : Whole w) (e : Effect A B) (fit : w.fit ≡ true) (meeting : Meets ma mb w c e) where
    arises : Arises ma mb w e
    arises = meets_arises ma mb w (t.timed.shape.few fit) c e meeting

    -- the trail with the entry that comes, if one does
    rising_kept : Rising (w.trail ++ option_to_list e.entry)
    rising_kept = go e.entry refl
      where
        go : (o : Option Entry) → e.entry ≡ o → Rising (w.trail ++ option_to_list o)
        go None is = subst Rising (sym (append-nil w.trail)) t.rising
        go (Some x) is =
            rising_push w.trail x t.rising
            (all_rise ma mb la lb (at_making ma mb k) figures_made w fit t.kept t.values c e meeting x is arises (timely w t.timed.shape ma mb e arises) t.timed.dated t.placed)

    by_order_kept : ByOrder (at_making ma mb k) (w.trail ++ option_to_list e.entry)
    by_order_kept = go e.entry refl
      where
        go : (o : Option Entry) → e.entry ≡ o → ByOrder (at_making ma mb k) (w.trail ++ option_to_list o)
        go None is = subst (ByOrder (at_making ma mb k)) (sym (append-nil w.trail)) t.by_order
        go (Some x) is = by_order_push (at_making ma mb k) w.trail x t.by_order (reads_now ma mb la lb k figures_made w fit t.kept t.values t.mirrored c e meeting arises x is)

  whole_kept : (c : Call) (w : World A B) → Whole w → Whole (step ma mb c w).1
  whole_kept c w t = record {
    kept = kept_kept ma mb la lb figures_made c w t.kept;
    timed = timed_kept ma mb c w t.timed;
    placed = steps ma mb (λ v. All Placed v.trail) c w t.placed (λ e fit is within. placed_kept ma mb la lb w e (arises c w t e fit (meets ma mb w c e is)) t.placed);
    mirrored = steps ma mb (Mirrored ma mb la lb k) c w t.mirrored (λ e fit is within. mirrored_kept ma mb la lb k w t.mirrored (waiting ma mb c w) e (arises c w t e fit (meets ma mb w c e is)));
    values = λ b low. steps ma mb (λ v. Values b (at_making ma mb k) (block b v)) c w (t.values b low) (λ e fit is within.
        values_passed b (at_making ma mb k) (block b w) (block b (after w (waiting ma mb c w) e)) (near_block b w) (t.kept.tokens b low) (t.values b low)
        (passes ma mb la lb w (fitted ma mb figures_made w fit t.kept) b low c e (meets ma mb w c e is)));
    rising = steps ma mb (λ v. Rising v.trail) c w t.rising (λ e fit is within. rising_kept c w t e fit (meets ma mb w c e is));
    by_order = steps ma mb (λ v. ByOrder (at_making ma mb k) v.trail) c w t.by_order (λ e fit is within. by_order_kept c w t e fit (meets ma mb w c e is));
  }

  whole_made : Whole (make ma mb k)
  whole_made = record {
    kept = kept_made ma mb la lb k;
    timed = timed_made ma mb k;
    placed = tt;
    mirrored = mirrored_made ma mb la lb k;
    values = values_made ma mb k;
    rising = tt;
    by_order = tt;
  }

  whole : (calls : List Call) → Whole (run ma mb k calls).world
  whole calls = over_calls ma mb Whole whole_kept (began ma mb k) calls whole_made

  -- what the order of operations needs of a run
  known : (calls : List Call) → Known ma mb figures_made (run ma mb k calls)
  known calls =
      let t = whole calls in
      let w = (run ma mb k calls).world in
      record {
        formed = t.kept.formed;
        dated = t.timed.dated;
        seated = All-weaker Placed _ (λ e p. p.seated) w.trail t.placed;
        tracked = tracked w t.kept.tokens figures_made t.kept.formed.messages;
        numbered = numbered ma mb k calls;
      }

  order_kept : (calls : List Call) → OrderKept ma mb k (run ma mb k calls)
  order_kept calls =
      let t = whole calls in
      let h = run ma mb k calls in
      let o = orderly ma mb figures_made k known calls in
      record {
        unique = entries_are_unique ma mb k calls;
        in_order = in_order ma mb h o;
        current = current_promise ma mb k h.world.trail t.rising t.by_order;
        truly_told = truly_told ma mb k h o;
        ruled = ruled ma mb k h.world t.kept.tokens (numbered ma mb k calls).slots (subst (λ (g : Figures). All (Well g) h.world.messages) (sym t.kept.formed.same) t.kept.formed.messages);
      }

pub order_promise : {A B : Type 0} (ma : Meaning A) (mb : Meaning B) → Laws ma → Laws mb → OrderPromise ma mb
order_promise ma mb la lb k calls = order_kept ma mb la lb k calls
