-- Over every run, block by block: the tokens, and the bounds of the entries. So every waiting message has a rule.
use Rattle.std.proofs.Common.{◌≡◌, ℕ, ◌<◌, true, List, length, sym, refl, ap, ◌∙◌, subst, inl}
use Rattle.bridge.specs.Inputs as bridge
use Rattle.device.specs.Meaning.{Meaning, Laws}
use Rattle.message.specs.declared.figures.Figures.{Figures}
use Rattle.message.specs.declared.message.Message.{Message}
use Rattle.coherence.proofs.Blocks.{Block, block}
use Rattle.coherence.proofs.Bounds.{Bounds}
use Rattle.coherence.proofs.BoundsKept.{bounds_moved}
use Rattle.coherence.proofs.Forms.{Formed, HomesWell, formed_kept, formed_made}
use Rattle.coherence.proofs.Meeting.{Meets, at_call, at_first_wish, at_second_wish, to_processor, to_home, to_first, to_second, meets}
use Rattle.coherence.proofs.Moves.{Passes, once, twice}
use Rattle.coherence.proofs.Moving.{Fitted, passes}
use Rattle.coherence.proofs.SlotsKept.{Tabled, tabled_kept, tabled_made}
use Rattle.coherence.proofs.Stepping.{after, steps}
use Rattle.coherence.proofs.Tables.{bridge_requests_stay}
use Rattle.coherence.proofs.Tokens.{Tokens}
use Rattle.coherence.proofs.TokensFinished.{Near}
use Rattle.coherence.proofs.TokensKept.{near_block, tokens_after, tokens_made, tokens_moved}
use Rattle.coherence.specs.Makings.{Making, make}
use Rattle.coherence.specs.Steps.{Effect, figures, step, waiting}
use Rattle.coherence.specs.Worlds.{World}
use Rattle.coherence.specs.declared.call.Call.{Call}

-- the bounds over one move or two
pub bounds_passed : (b : ℕ) (x y : Block) → Near x → Tokens x → Bounds x → Passes b x y → Bounds y
bounds_passed b x y near t bounds (once m) = bounds_moved b x y t bounds m
bounds_passed b x y near t bounds (twice z m n) = bounds_moved b z y (tokens_moved b x z t (inl near) m) (bounds_moved b x z t bounds m) n

module _ {A B : Type 0} (ma : Meaning A) (mb : Meaning B) where
  pub record Kept (f : Figures) (w : World A B) : Type 0 where
    pub formed : Formed ma mb f w
    pub tabled : Tabled w
    pub first : length w.first.requests.at ≡ 16
    pub second : length w.second.requests.at ≡ 16
    pub tokens : (b : ℕ) → b < 16 → Tokens (block b w)
    pub bounds : (b : ℕ) → b < 16 → Bounds (block b w)

  pub fitted : (f : Figures) (w : World A B) → w.fit ≡ true → Kept f w → Fitted ma mb w
  fitted f w fit k = record {
    shape = k.formed.shape;
    few = k.formed.shape.few fit;
    tabled = k.tabled;
    first = k.first;
    second = k.second;
    homes = subst (λ (g : Figures). HomesWell g w) (sym k.formed.same) k.formed.homes;
  }

  -- the tables of the devices' nodes stay whole
  first_kept : (w : World A B) (ms : List (Message ℕ)) (c : Call) (e : Effect A B) → Meets ma mb w c e → length (after w ms e).first.requests.at ≡ length w.first.requests.at
  first_kept w ms c e (at_call p small i r asks own ok rest h is) = ap (λ (x : Effect A B). length x.next.first.requests.at) is
  first_kept w ms c e (at_first_wish r act h is) = ap (λ (x : Effect A B). length x.next.first.requests.at) is ∙ bridge_requests_stay ma w.first 0 (bridge.Act w.count) r h
  first_kept w ms c e (at_second_wish r act h is) = ap (λ (x : Effect A B). length x.next.first.requests.at) is
  first_kept w ms c e (to_processor p small m r way h is) = ap (λ (x : Effect A B). length x.next.first.requests.at) is
  first_kept w ms c e (to_home b small m r way h is) = ap (λ (x : Effect A B). length x.next.first.requests.at) is
  first_kept w ms c e (to_first m r way h is) = ap (λ (x : Effect A B). length x.next.first.requests.at) is ∙ bridge_requests_stay ma w.first 0 (bridge.Receive m) r h
  first_kept w ms c e (to_second m r way h is) = ap (λ (x : Effect A B). length x.next.first.requests.at) is

  second_kept : (w : World A B) (ms : List (Message ℕ)) (c : Call) (e : Effect A B) → Meets ma mb w c e → length (after w ms e).second.requests.at ≡ length w.second.requests.at
  second_kept w ms c e (at_call p small i r asks own ok rest h is) = ap (λ (x : Effect A B). length x.next.second.requests.at) is
  second_kept w ms c e (at_first_wish r act h is) = ap (λ (x : Effect A B). length x.next.second.requests.at) is
  second_kept w ms c e (at_second_wish r act h is) = ap (λ (x : Effect A B). length x.next.second.requests.at) is ∙ bridge_requests_stay mb w.second 1 (bridge.Act w.count) r h
  second_kept w ms c e (to_processor p small m r way h is) = ap (λ (x : Effect A B). length x.next.second.requests.at) is
  second_kept w ms c e (to_home b small m r way h is) = ap (λ (x : Effect A B). length x.next.second.requests.at) is
  second_kept w ms c e (to_first m r way h is) = ap (λ (x : Effect A B). length x.next.second.requests.at) is
  second_kept w ms c e (to_second m r way h is) = ap (λ (x : Effect A B). length x.next.second.requests.at) is ∙ bridge_requests_stay mb w.second 1 (bridge.Receive m) r h

  module _ (la : Laws ma) (lb : Laws mb) where
    pub kept_kept : (f : Figures) (c : Call) (w : World A B) → Kept f w → Kept f (step ma mb c w).1
    kept_kept f c w k = record {
      formed = formed_kept ma mb la lb f c w k.formed;
      tabled = steps ma mb Tabled c w k.tabled (λ e fit is within. tabled_kept ma mb w k.formed.shape (k.formed.shape.few fit) c e (meets ma mb w c e is) k.tabled (waiting ma mb c w));
      first = steps ma mb (λ v. length v.first.requests.at ≡ 16) c w k.first (λ e fit is within. first_kept w (waiting ma mb c w) c e (meets ma mb w c e is) ∙ k.first);
      second = steps ma mb (λ v. length v.second.requests.at ≡ 16) c w k.second (λ e fit is within. second_kept w (waiting ma mb c w) c e (meets ma mb w c e is) ∙ k.second);
      tokens = λ b low. steps ma mb (λ v. Tokens (block b v)) c w (k.tokens b low) (λ e fit is within.
          tokens_after b w (after w (waiting ma mb c w) e) (k.tokens b low) (passes ma mb la lb w (fitted f w fit k) b low c e (meets ma mb w c e is)));
      bounds = λ b low. steps ma mb (λ v. Bounds (block b v)) c w (k.bounds b low) (λ e fit is within.
          bounds_passed b (block b w) (block b (after w (waiting ma mb c w) e)) (near_block b w) (k.tokens b low) (k.bounds b low) (passes ma mb la lb w (fitted f w fit k) b low c e (meets ma mb w c e is)));
    }

    pub kept_made : (k : Making A B) → Kept (figures ma mb (make ma mb k)) (make ma mb k)
    kept_made k = record {
      formed = formed_made ma mb la lb k;
      tabled = tabled_made ma mb k;
      first = refl;
      second = refl;
      tokens = tokens_made ma mb k;
      bounds = λ b low. tt;
    }
