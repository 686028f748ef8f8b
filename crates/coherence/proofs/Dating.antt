-- The trail lies in the past of the clocks, so no two entries have one stamp.
use Rattle.std.proofs.lemmas.Bool.Decides.{nat_tests}
use Rattle.std.proofs.Common.{◌≡◌, ℕ, ◌≤◌, ◌⊎◌, [], ◌++◌, Some, None, Option, sym, subst, inl, inr, arith}
use Rattle.ordering.specs.declared.clock.Clock.{Clock}
use Rattle.ordering.specs.declared.stamp.Stamp.{Stamp}
use Rattle.std.proofs.ByRecursion.{All-weaker, All-append, All-push}
use Rattle.std.proofs.lemmas.List.{append-nil}
use Rattle.std.proofs.lemmas.Bool.{cases_eq}
use Rattle.std.specs.Option.{option_to_list}
use Rattle.std.specs.List.{AllByRecursion as All}
use Rattle.trail.specs.declared.entry.Entry.{Entry}
use Rattle.coherence.proofs.Clocks.{clock_at, Timely}
use Rattle.coherence.proofs.Rising.{Differ, Apart, apart_push}
use Rattle.coherence.specs.Steps.{Effect}
use Rattle.coherence.specs.Worlds.{World}
use Rattle.ordering.specs.Clocks.{Earlier}

-- A stamp that a clock has shown.
abbrev pub Past : Clock ℕ → Stamp → Type 0
Past c s = (s.global ≤ c.global) × (s.global ≡ c.global → s.local ≤ c.local)

past_onward : (c d : Clock ℕ) (s : Stamp) → Past c s → (d ≡ c) ⊎ Earlier c d → Past d s
past_onward c d s past (inl same) = subst (λ (k : Clock ℕ). Past k s) (sym same) past
past_onward c d s past (inr (inl up)) = (omega (arith, past.0), λ h. absurd (omega (arith, past.0)))
past_onward c d s past (inr (inr up)) = (omega (arith, past.0, up.0), λ h. let l = past.1 (omega (arith, up.0)) in omega (arith, up.1))

module _ {A B : Type 0} where
  abbrev pub Dated : World A B → Entry → Type 0
  Dated w x = Past (clock_at w x.stamp.node) x.stamp

  module _ (w : World A B) (e : Effect A B) (t : Timely w e) where
    still_dated : (x : Entry) → Dated w x → Dated e.next x
    still_dated x past = go (cases_eq x.stamp.node e.node)
      where
        go : (x.stamp.node ≡ e.node) ⊎ (x.stamp.node ≡ e.node → ⊥) → Dated e.next x
        go (inl same) =
            let old : Past (clock_at w e.node) x.stamp = subst (λ (n : ℕ). Past (clock_at w n) x.stamp) same past in
            subst (λ (n : ℕ). Past (clock_at e.next n) x.stamp) (sym same) (past_onward (clock_at w e.node) (clock_at e.next e.node) x.stamp old t.onward)
        go (inr apart) = subst (λ (k : Clock ℕ). Past k x.stamp) (sym (t.others x.stamp.node apart)) past

    new_dated : (x : Entry) → e.entry ≡ Some x → Dated e.next x
    new_dated x is = grind (arith, nat_tests)

    new_differs : (x : Entry) → e.entry ≡ Some x → (f : Entry) → Dated w f → Differ f x
    new_differs x is f past same = grind (arith, nat_tests)

    pub dates : (o : Option Entry) → e.entry ≡ o → All (Dated w) w.trail → All (Dated e.next) (w.trail ++ option_to_list o)
    dates None is all = All-append (Dated e.next) w.trail [] (All-weaker (Dated w) (Dated e.next) still_dated w.trail all) tt
    dates (Some x) is all = All-push (Dated e.next) w.trail x (All-weaker (Dated w) (Dated e.next) still_dated w.trail all) (new_dated x is)

    pub differs : (o : Option Entry) → e.entry ≡ o → All (Dated w) w.trail → Apart w.trail → Apart (w.trail ++ option_to_list o)
    differs None is all apart = subst Apart (sym (append-nil w.trail)) apart
    differs (Some x) is all apart = apart_push w.trail x apart (All-weaker (Dated w) (λ (f : Entry). Differ f x) (new_differs x is) w.trail all)
