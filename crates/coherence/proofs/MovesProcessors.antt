-- What a processor's reaction is for a block: one of the moves.
use Rattle.std.proofs.Common.{◌≡◌, ℕ, ◌<◌, ◌≤◌, true, false, cond, eqb, ltb, ◌⊎◌, List, ◌++◌, get_or, set, Some, None, filter, Option, sym, refl, ap, ◌∙◌, inl, inr, arith}
use Rattle.message.specs.Reactions.{sent}
use Rattle.message.specs.Requests.{out}
use Rattle.message.specs.declared.kind.Kind.{Kind}
use Rattle.message.specs.declared.message.Message.{Message}
use Rattle.message.specs.declared.reaction.Reaction.{Reaction}
use Rattle.processor.specs.Inputs.{Input, reaction}
use Rattle.processor.specs.Lines.{line_at}
use Rattle.processor.specs.declared.state.Processor.{Processor}
use Rattle.std.proofs.lemmas.List.{get_or-set_same, get_or-set_other}
use Rattle.std.proofs.lemmas.Bool.{cases_Bool, cases_eq, eq-eqb, eqb-true, ne_eqb, ltb-false}
use Rattle.std.specs.Option.{option_to_list}
use Rattle.coherence.proofs.Blocks.{Block, block, about, on}
use Rattle.coherence.proofs.Clocks.{Shape}
use Rattle.coherence.proofs.Moves.{Moves, rests, LinePut, OutPut, LinesStay, OutsStay}
use Rattle.coherence.proofs.MovesElsewhere.{Touches, lines_elsewhere, outs_elsewhere, globals_rise, enters_elsewhere}
use Rattle.coherence.proofs.Posts.{kept_added}
use Rattle.coherence.proofs.Stepping.{after}
use Rattle.coherence.specs.Steps.{by_processor}
use Rattle.coherence.specs.Worlds.{World, processor_at, no_processor}

module _ {A B : Type 0} (w : World A B) (shape : Shape w) (p : ℕ) (small : p < 4) where
  -- a part of each processor, once processor p is in state s
  pub put : {X : Type 0} (f : Processor ℕ → X) (s : Processor ℕ) (q : ℕ)
      → f (get_or (set w.processors p s) q no_processor) ≡ cond (eqb p q) (f s) (f (processor_at w q))
  put f s q = go (cases_eq q p)
    where
      go : (q ≡ p) ⊎ (q ≡ p → ⊥) → f (get_or (set w.processors p s) q no_processor) ≡ cond (eqb p q) (f s) (f (processor_at w q))
      go (inl same) =
          rw (eq-eqb p q (sym same))
          (ap f (ap (λ (n : ℕ). get_or (set w.processors p s) n no_processor) same ∙ get_or-set_same w.processors p s no_processor (let four = shape.processors in omega arith)))
      go (inr apart) = rw (ne_eqb p q (λ e. apart (sym e))) (ap f (get_or-set_other w.processors p q s no_processor apart))

  pub kept : {X : Type 0} (f : Processor ℕ → X) (s : Processor ℕ) → f s ≡ f (processor_at w p) → (q : ℕ)
      → f (get_or (set w.processors p s) q no_processor) ≡ f (processor_at w q)
  kept f s same q = put f s q ∙ go (cases_Bool (eqb p q))
    where
      go : (eqb p q ≡ true) ⊎ (eqb p q ≡ false) → cond (eqb p q) (f s) (f (processor_at w q)) ≡ f (processor_at w q)
      go (inl here) = rw here (same ∙ ap (λ (n : ℕ). f (processor_at w n)) (eqb-true p q here))
      go (inr there) = rw there refl

  module _ (b : ℕ) (ms : List (Message ℕ)) (r : Reaction (Processor ℕ)) where
    abbrev pub x : Block
    x = block b w

    abbrev pub y : Block
    y = block b (after w ms (by_processor w p r))

    pub lines_put : LinePut b x y p (line_at r.next.lines b)
    lines_put = put (λ s. line_at s.lines b) r.next

    pub lines_stay : line_at r.next.lines b ≡ line_at (processor_at w p).lines b → LinesStay b x y
    lines_stay = kept (λ s. line_at s.lines b) r.next

    pub outs_put : OutPut b x y p (out r.next.requests b)
    outs_put q = go (cases_Bool (ltb q 4))
      where
        go : (ltb q 4 ≡ true) ⊎ (ltb q 4 ≡ false) → y.out q ≡ cond (eqb p q) (out r.next.requests b) (x.out q)
        go (inl low) = rw low (put (λ s. out s.requests b) r.next q)
        go (inr high) = let past = ltb-false q 4 high in rw (high, ne_eqb p q (omega arith)) refl

    pub outs_stay : out r.next.requests b ≡ out (processor_at w p).requests b → OutsStay b x y
    outs_stay same q = ap (λ (o : Option Kind). cond (ltb q 4) o (cond (eqb q 4) (out w.first.requests b) (cond (eqb q 5) (out w.second.requests b) None))) (kept (λ s. out s.requests b) r.next same q)

    pub clocks_rise : (processor_at w p).clock.global ≤ r.next.clock.global → (q : ℕ) → x.clock q ≤ y.clock q
    clocks_rise up q = go (cases_Bool (eqb p q))
      where
        go : (eqb p q ≡ true) ⊎ (eqb p q ≡ false) → x.clock q ≤ y.clock q
        go (inl here) =
            let new : y.clock q ≡ r.next.clock.global = put (λ s. s.clock.global) r.next q ∙ rw here refl in
            let old : x.clock q ≡ (processor_at w p).clock.global = ap (λ (n : ℕ). (processor_at w n).clock.global) (sym (eqb-true p q here)) in
            omega arith
        go (inr there) =
            let new : y.clock q ≡ x.clock q = put (λ s. s.clock.global) r.next q ∙ rw there refl in
            omega arith

    -- what is about another block
    pub processor_rests : (i : Input) → reaction (processor_at w p) p i ≡ Some r → (Touches b i → ⊥)
        → filter (about b) (ms ++ sent r.sent) ≡ filter (about b) w.messages → Moves b x y
    processor_rests i h other same = rests (record {
      lines = lines_stay (lines_elsewhere b (processor_at w p) p i r h other);
      outs = outs_stay (outs_elsewhere b (processor_at w p) p i r h other);
      clocks = clocks_rise (globals_rise (processor_at w p) p i r h);
      home = refl;
      messages = same;
      trail = kept_added (on b) w.trail (option_to_list r.entry) (enters_elsewhere b (processor_at w p) p i r h other);
    })
