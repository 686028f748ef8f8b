-- What calls issue, and the numbers that come next: only the node that reacts moves its own on.
use Rattle.std.proofs.Common.{◌≡◌, ℕ, ◌<◌, ◌≤◌, true, ◌⊎◌, length, get_or, set, Some, None, Option, sym, refl, ap, subst, inl, inr, arith, ◌∙◌}
use Rattle.bridge.specs.declared.state.Bridge.{Bridge}
use Rattle.device.specs.Meaning.{Meaning}
use Rattle.message.proofs.Soundness.{well_formed_are_sound}
use Rattle.message.specs.Kinds.{is_request, same_kind}
use Rattle.message.specs.Nodes.{home_node}
use Rattle.message.specs.declared.figures.Figures.{Figures}
use Rattle.message.specs.declared.kind.Kind.TheVariants as kind
use Rattle.message.specs.declared.message.Message.{Message}
use Rattle.processor.specs.Inputs as processor
use Rattle.processor.specs.declared.state.Processor.{Processor}
use Rattle.std.proofs.lemmas.List.{get_or-set_other, get_or-set_same}
use Rattle.std.proofs.lemmas.Bool.{cases_eq, lt-ltb, or_left}
use Rattle.std.proofs.lemmas.Bool.Decides.{nat_tests}
use Rattle.std.proofs.lemmas.Option.{none-some}
use Rattle.std.specs.Option.{option_map}
use Rattle.coherence.proofs.AccountsProcessors.{own_access}
use Rattle.coherence.proofs.Carrying.{issued_as, next_number}
use Rattle.coherence.proofs.FormsBuilt.{Well}
use Rattle.coherence.proofs.Meeting.{Asks, Goes}
use Rattle.coherence.specs.Histories.{Issued, issues}
use Rattle.coherence.specs.Worlds.{World, processor_at, with_processor, with_first, with_second, no_processor}
use Rattle.coherence.specs.declared.call.Call.{Call}
use Rattle.coherence.specs.declared.call.Call.TheVariants.{Request, Collect, GiveUp, Act, Deliver, Poll}

-- an interrupt's place is its receiver, and a request's block is its home's
pub interrupt_place : (f : Figures) (m : Message ℕ) → Well f m → same_kind m.kind kind.Int ≡ true → m.place ≡ m.receiver
interrupt_place f m well is = grind (arith, nat_tests)

pub request_place : (f : Figures) (m : Message ℕ) (b : ℕ) → Well f m → m.receiver ≡ home_node b → is_request m.kind ≡ true → m.place ≡ b
request_place f m b well to asks = let home = (well_formed_are_sound f m well).receiver (or_left (is_request m.kind) _ asks) in omega arith

pub none_issued : (o : Option Issued) → o ≡ None → (x : Issued) → o ≡ Some x → ⊥
none_issued o none x is = none-some x (sym none ∙ is)

module _ {A B : Type 0} (w : World A B) where
  -- the next numbers after one node's reaction
  pub processor_own : (p : ℕ) → p < 4 → next_number w p ≡ (processor_at w p).sequence
  processor_own p small = rw (lt-ltb p 4 small) refl

  pub processor_new : (p : ℕ) → p < 4 → length w.processors ≡ 4 → (x : Processor ℕ) → next_number (with_processor w p x) p ≡ x.sequence
  processor_new p small four x = rw (lt-ltb p 4 small) (ap (λ (y : Processor ℕ). y.sequence) (get_or-set_same w.processors p x no_processor (omega arith)))

  pub processor_other : (p : ℕ) (x : Processor ℕ) (n : ℕ) → (n ≡ p → ⊥) → next_number (with_processor w p x) n ≡ next_number w n
  processor_other p x n apart = let old : get_or (set w.processors p x) n no_processor ≡ processor_at w n = get_or-set_other w.processors p n x no_processor apart in rw old refl

  pub processor_onward : (p : ℕ) → p < 4 → length w.processors ≡ 4 → (x : Processor ℕ) → (processor_at w p).sequence ≤ x.sequence → (n : ℕ) → next_number w n ≤ next_number (with_processor w p x) n
  processor_onward p small four x up n = go (cases_eq n p)
    where
      go : (n ≡ p) ⊎ (n ≡ p → ⊥) → next_number w n ≤ next_number (with_processor w p x) n
      go (inl same) =
          subst (λ (m : ℕ). next_number w m ≤ next_number (with_processor w p x) m) (sym same)
          (let old = processor_own p small in let new = processor_new p small four x in omega arith)
      go (inr apart) = let same = processor_other p x n apart in omega arith

  pub first_onward : (x : Bridge A ℕ) → w.first.sequence ≤ x.sequence → (n : ℕ) → next_number w n ≤ next_number (with_first w x) n
  first_onward x up n = grind (arith, nat_tests)

  pub second_onward : (x : Bridge B ℕ) → w.second.sequence ≤ x.sequence → (n : ℕ) → next_number w n ≤ next_number (with_second w x) n
  second_onward x up n = grind (arith, nat_tests)

module _ {A B : Type 0} (ma : Meaning A) (mb : Meaning B) (w : World A B) where
  -- what a call of a processor issues
  pub call_issues : (c : Call) (p : ℕ) (i : processor.Input) → Asks c p i → issues ma mb c w ≡ option_map (issued_as p (processor_at w p).sequence) (own_access i)
  call_issues (Request p b k) q i asks = rw asks.3 refl
  call_issues (Collect p d) q i asks = rw asks.1 refl
  call_issues (GiveUp p d) q i asks = rw asks.1 refl
  call_issues (Act d) q i asks = absurd asks
  call_issues (Deliver n) q i asks = absurd asks
  call_issues (Poll p) q i asks = rw asks.1 refl
  call_issues _ q i asks = rw (asks.0, asks.1) refl

  -- a delivery issues nothing
  pub delivery_issues : (c : Call) (m : Message ℕ) (to : ℕ) → Goes ma mb w c m to → issues ma mb c w ≡ None
  delivery_issues c m to goes = ap (λ (x : Call). issues ma mb x w) goes.call
