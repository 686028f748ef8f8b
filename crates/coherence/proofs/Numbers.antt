-- Over every run each numbered operation is done, carried or served once and as it was issued, and slots and what is on
-- its way to them balance; so party and number tell entries apart.
use Rattle.std.proofs.Common.{◌≡◌, ℕ, ◌<◌, ◌≤◌, false, List, sym, refl, subst, arith}
use Rattle.device.specs.Meaning.{Meaning}
use Rattle.home.specs.Homes.{new_home}
use Rattle.home.specs.declared.machine.Home.{Home}
use Rattle.std.proofs.lemmas.List.FromFn.{get_or-map-range_with_len}
use Rattle.std.proofs.lemmas.Bool.{both_ways}
use Rattle.coherence.proofs.AccountsKept.{accounted_kept}
use Rattle.coherence.proofs.Balance.{balanced_kept, balanced_made}
use Rattle.coherence.proofs.Carrying.{Numbered, serves}
use Rattle.coherence.proofs.Clocks.{Shape}
use Rattle.coherence.proofs.Meeting.{Meets, meets, meets_arises}
use Rattle.coherence.proofs.Recording.{grown, over_histories, records}
use Rattle.coherence.proofs.Running.{shape_kept, shape_made, stamps_are_unique}
use Rattle.coherence.proofs.SlotsKept.{Tabled, slots_kept, slots_made, tabled_kept, tabled_made}
use Rattle.coherence.proofs.Unique.{unique_numbers}
use Rattle.coherence.specs.Histories.{History, began, called_on, run}
use Rattle.coherence.specs.Makings.{Making, block_words, make}
use Rattle.coherence.specs.Promise.{Unique}
use Rattle.coherence.specs.Steps.{Effect, waiting}
use Rattle.coherence.specs.Worlds.{home_at, no_home}
use Rattle.coherence.specs.declared.call.Call.{Call}

module _ {A B : Type 0} (ma : Meaning A) (mb : Meaning B) where
  -- every effect of a call
  pub numbered_kept : (c : Call) (h : History A B) → Shape h.world → h.world.count ≤ 4 → Tabled h.world → Numbered h
      → (e : Effect A B) → Meets ma mb h.world c e → Numbered (grown ma mb c h e)
  numbered_kept c h shape few tables t e meeting = record {
    balanced = balanced_kept ma mb h.world shape few t.balanced c e meeting;
    accounted = accounted_kept ma mb h.world shape few h.issued t.accounted c e meeting;
    slots = slots_kept ma mb h.world shape few tables t.slots c e meeting;
  }

  -- at the making nothing is issued
  numbered_made : (k : Making A B) → Numbered (began ma mb k)
  numbered_made k = record {
    balanced = balanced_made ma mb k;
    accounted = record {
      entries = tt;
      messages = tt;
      homes = λ b n s small serving. absurd (both_ways (serves n s (home_at (make ma mb k) b)) (idle b n s small) serving);
      numbers = tt;
      rising = tt;
    };
    slots = slots_made ma mb k;
  }
    where
      idle : (b n s : ℕ) → b < 16 → serves n s (home_at (make ma mb k) b) ≡ false
      idle b n s small =
          subst (λ (h : Home ℕ). serves n s h ≡ false) (sym (get_or-map-range_with_len (λ j. new_home k.clock (block_words k.words j)) 0 16 b b no_home small (omega arith))) refl

  -- A history's world with its four processors and sixteen homes, whole tables, and operations numbered.
  pub record Numbering (h : History A B) : Type 0 where
    pub shape : Shape h.world
    pub tables : Tabled h.world
    pub numbered : Numbered h

  numbering_kept : (c : Call) (h : History A B) → Numbering h → Numbering (called_on ma mb c h)
  numbering_kept c h t = records ma mb Numbering c h t (λ e fit is within.
      let few = t.shape.few fit in
      let meeting = meets ma mb h.world c e is in
      let ms = waiting ma mb c h.world in
      record {
        shape = shape_kept ma mb h.world ms e t.shape (meets_arises ma mb h.world few c e meeting);
        tables = tabled_kept ma mb h.world t.shape few c e meeting t.tables ms;
        numbered = numbered_kept c h t.shape few t.tables t.numbered e meeting;
      })

  pub numbering : (k : Making A B) (calls : List Call) → Numbering (run ma mb k calls)
  numbering k calls = over_histories ma mb Numbering numbering_kept (began ma mb k) calls (record { shape = shape_made ma mb k; tables = tabled_made ma mb k; numbered = numbered_made k })

  pub numbered : (k : Making A B) (calls : List Call) → Numbered (run ma mb k calls)
  numbered k calls = (numbering k calls).numbered

  -- no two entries have one stamp, or one party and number
  pub entries_are_unique : (k : Making A B) (calls : List Call) → Unique (run ma mb k calls).world.trail
  entries_are_unique k calls = record {
    stamps = stamps_are_unique ma mb k calls;
    numbers = unique_numbers (run ma mb k calls).world (numbered k calls).balanced;
  }
