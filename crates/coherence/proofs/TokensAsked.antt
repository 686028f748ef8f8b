-- Tokens after a processor gives way to INV or DOWN.
use Rattle.std.proofs.Common.{◌≡◌, ℕ, false, [], ◌∷◌, refl, ap, ◌∙◌, arith}
use Rattle.message.specs.declared.message.Message.{Message}
use Rattle.ordering.specs.Words.{no_words}
use Rattle.ordering.specs.declared.operation.Words.{Words}
use Rattle.processor.specs.declared.line.Line.{Line}
use Rattle.processor.specs.declared.line.Line.TheVariants.{Invalid, Shared, Exclusive}
use Rattle.std.proofs.lemmas.Bool.{both_ways}
use Rattle.coherence.proofs.Blocks.{Block, posted_all, token}
use Rattle.coherence.proofs.Counting.{indicator_most}
use Rattle.coherence.proofs.Moves.{GivesWay}
use Rattle.coherence.proofs.Shifts.{Swaps, TimedReply, moved_here, moved_there, node_moves, put_there, swaps}
use Rattle.coherence.proofs.Tokens.{AskedFor, Gathered, Held, Tokens, is_reply}

module _ (b : ℕ) (x y : Block) (t : Tokens x) (p : ℕ) (ws : Words) (m a : Message ℕ) where
  -- What is known of the node before and after, as numbers.
  record Facts (old new : Line) (c d : ℕ) : Type 0 where
    asked : AskedFor (y.out p) x.home x.messages p
    gathered : Gathered x.home x.messages p
    copies : Held (x.line p) (y.out p) x.home x.messages p
    swaps : Swaps x y p old new c d

  module _ {old new : Line} {c d : ℕ} {back : Words} (g : GivesWay b x y p old new c d back m a) where
    facts : Facts old new c d
    facts = record {
      asked = rw (g.outs p) (t.asked p);
      gathered = t.gathered p;
      copies = rw (g.outs p) (t.copies p);
      swaps = swaps x y p old new c d g.was (g.lines p)
          (moved_here x.messages y.messages m c p g.class g.end a d g.class_back g.end_back g.messages);
    }

    gave_way : is_reply d ≡ false → AskedFor (y.out p) x.home y.messages p → Gathered x.home y.messages p
        → Held (y.line p) (y.out p) x.home y.messages p → Tokens y
    gave_way silent asked gathered copies =
        node_moves x y p t
        (record {
          home = g.home;
          lines = λ q. put_there p q new (x.line q) (y.line q) (g.lines q);
          outs = λ q _. g.outs q;
          counts = moved_there x.messages y.messages m c p g.class g.end a d g.class_back g.end_back g.messages;
        })
        asked gathered copies
        (posted_all (TimedReply x.home) x.messages (m ∷ []) (a ∷ []) y.messages g.messages t.clocks
        ((λ is. absurd (both_ways (is_reply (token a)) (ap is_reply g.class_back ∙ silent) is)), tt))

  pub invalidated_shared : GivesWay b x y p (Shared ws) Invalid 10 12 no_words m a → Tokens y
  invalidated_shared g =
      let f = facts g in
      gave_way g refl (omega (arith, f.swaps.count)) (omega (arith, f.swaps.count, indicator_most))
      (omega (arith, f.swaps.count, indicator_most))

  pub invalidated_owned : GivesWay b x y p (Exclusive ws) Invalid 10 41 ws m a → Tokens y
  invalidated_owned g =
      let f = facts g in
      gave_way g refl (omega (arith, f.swaps.count)) (omega (arith, f.swaps.count, indicator_most))
      (omega (arith, f.swaps.count, indicator_most))

  pub downgraded : GivesWay b x y p (Exclusive ws) (Shared ws) 11 41 ws m a → Tokens y
  downgraded g =
      let f = facts g in
      gave_way g refl (omega (arith, f.swaps.count)) (omega (arith, f.swaps.count, indicator_most))
      (omega (arith, f.swaps.count, indicator_most))
