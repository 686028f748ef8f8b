-- Tokens after a node takes the reply to its request.
use Rattle.std.proofs.Common.{◌≡◌, ℕ, ◌+◌, ◌<◌, ◌≤◌, eqb, [], ◌∷◌, None, refl, ap, arith}
use Rattle.message.specs.Kinds.{kind_number}
use Rattle.message.specs.Messages.{plain}
use Rattle.message.specs.Nodes.{home_node}
use Rattle.message.specs.declared.kind.Kind.{Kind}
use Rattle.message.specs.declared.kind.Kind.TheVariants as kind
use Rattle.message.specs.declared.message.Message.{Message}
use Rattle.ordering.specs.declared.operation.Words.{Words}
use Rattle.processor.specs.declared.line.Line.{Line}
use Rattle.processor.specs.declared.line.Line.TheVariants.{Shared, Exclusive}
use Rattle.std.proofs.lemmas.Bool.{false≢true}
use Rattle.coherence.proofs.Blocks.{Block, posted_all}
use Rattle.coherence.proofs.Counting.{indicator, indicator_most}
use Rattle.coherence.proofs.Moves.{Takes}
use Rattle.coherence.proofs.Shifts.{Swaps, TimedReply, moved_here, moved_there, node_moves, put_here, put_there, swaps}
use Rattle.coherence.proofs.Sole.{copies_add}
use Rattle.coherence.proofs.Tokens.{AskedFor, Gathered, Held, Tokens, held, out_is, owned, shared}

module _ (b : ℕ) (x y : Block) (t : Tokens x) (p : ℕ) (m : Message ℕ) where
  abbrev back : Message ℕ
  back = plain kind.Taken p (home_node b) b

  -- What is known of the node before and after, as numbers.
  record Facts (k : Kind) (old new : Line) (c : ℕ) : Type 0 where
    asked : AskedFor (x.out p) x.home x.messages p
    gathered : Gathered x.home x.messages p
    copies : Held (x.line p) (x.out p) x.home x.messages p
    copy : held (x.line p) ≡ shared (x.line p) + owned (x.line p)
    out_then : (n : ℕ) → out_is (x.out p) n ≡ indicator (eqb (kind_number k) n)
    out_now : (n : ℕ) → out_is (y.out p) n ≡ 0
    swaps : Swaps x y p old new c 20

  module _ {k : Kind} {old new : Line} {c : ℕ} (g : Takes b x y p k old new c m) where
    facts : Facts k old new c
    facts = record {
      asked = t.asked p;
      gathered = t.gathered p;
      copies = t.copies p;
      copy = copies_add (x.line p);
      out_then = λ n. ap (λ o. out_is o n) g.asked;
      out_now = λ n. ap (λ o. out_is o n) (put_here p None (x.out p) (y.out p) (g.outs p));
      swaps = swaps x y p old new c 20 g.was (g.lines p)
          (moved_here x.messages y.messages m c p g.class g.end back 20 refl refl g.messages);
    }

    taken : AskedFor (y.out p) x.home y.messages p → Gathered x.home y.messages p
        → Held (y.line p) (y.out p) x.home y.messages p → Tokens y
    taken asked gathered copies =
        node_moves x y p t
        (record {
          home = g.home;
          lines = λ q. put_there p q new (x.line q) (y.line q) (g.lines q);
          outs = λ q. put_there p q None (x.out q) (y.out q) (g.outs q);
          counts = moved_there x.messages y.messages m c p g.class g.end back 20 refl refl g.messages;
        })
        asked gathered copies
        (posted_all (TimedReply x.home) x.messages (m ∷ []) (back ∷ []) y.messages g.messages t.clocks
        ((λ is. absurd (false≢true is)), tt))

  pub took_shared : p < 4 → Takes b x y p kind.Gets (x.line p) (Shared m.words) 13 m → Tokens y
  took_shared side g =
      let f = facts g in
      taken g (omega (arith, f.swaps.count, f.out_then, f.out_now)) (omega (arith, f.swaps.count, indicator_most))
      (omega (arith, f.swaps.count, f.out_then, f.out_now, indicator_most))

  pub took_owned : p < 4 → Takes b x y p kind.Getx (x.line p) (Exclusive m.words) 14 m → Tokens y
  took_owned side g =
      let f = facts g in
      taken g (omega (arith, f.swaps.count, f.out_then, f.out_now)) (omega (arith, f.swaps.count, indicator_most))
      (omega (arith, f.swaps.count, f.out_then, f.out_now, indicator_most))

  pub given_back : p < 4 → Takes b x y p kind.Wb (x.line p) (x.line p) 16 m → Tokens y
  given_back side g =
      let f = facts g in
      taken g (omega (arith, f.swaps.count, f.out_then, f.out_now)) (omega (arith, f.swaps.count, indicator_most))
      (omega (arith, f.swaps.count, f.out_then, f.out_now, indicator_most))

  pub landed : 4 ≤ p → Takes b x y p kind.Rblk (x.line p) (x.line p) 17 m → Tokens y
  landed side g =
      let f = facts g in
      taken g (omega (arith, f.swaps.count, f.out_then, f.out_now)) (omega (arith, f.swaps.count, indicator_most))
      (omega (arith, f.swaps.count, f.out_then, f.out_now, indicator_most))

  pub took_done : 4 ≤ p → Takes b x y p kind.Wblk (x.line p) (x.line p) 42 m → Tokens y
  took_done side g =
      let f = facts g in
      taken g (omega (arith, f.swaps.count, f.out_then, f.out_now)) (omega (arith, f.swaps.count, indicator_most))
      (omega (arith, f.swaps.count, f.out_then, f.out_now, indicator_most))

  pub bettered : (ws : Words) → p < 4 → Takes b x y p kind.Upg (Shared ws) (Exclusive ws) 15 m → Tokens y
  bettered ws side g =
      let f = facts g in
      taken g (omega (arith, f.swaps.count, f.out_then, f.out_now)) (omega (arith, f.swaps.count, indicator_most))
      (omega (arith, f.swaps.count, f.out_then, f.out_now, indicator_most))
