-- What each reaction of a processor that is about a block is, written out.
use Rattle.std.proofs.Common.{arith}
use Rattle.std.proofs.lemmas.Bool.Decides.{nat_tests}
use Rattle.std.proofs.Common.{◌≡◌, ℕ, true, ltb, Some, None, sym, refl}
use Rattle.message.specs.Messages.{plain}
use Rattle.message.specs.Reactions.{quiet, sending, doing}
use Rattle.message.specs.Nodes.{home_node}
use Rattle.message.specs.Requests.{out, is_out}
use Rattle.message.specs.declared.kind.Kind.{Kind}
use Rattle.message.specs.declared.kind.Kind.TheVariants as kind
use Rattle.message.specs.declared.message.Message.{Message}
use Rattle.message.specs.declared.reaction.Reaction.{Reaction}
use Rattle.ordering.specs.declared.operation.Operation.TheVariants.{Ld, St}
use Rattle.ordering.specs.declared.operation.Words.{Words}
use Rattle.processor.specs.Calls.{operation_entry, operated, load, store, request, fits}
use Rattle.processor.specs.Inputs.{accepted}
use Rattle.processor.specs.Lines.{line_at, held_words, block_of, word_of, with_word}
use Rattle.processor.specs.Receive.{Outcome, giving_way, invalidated, downgraded, taking, taking_line, shared, owned, granted, done, nacked}
use Rattle.processor.specs.States.{at_line, at_request}
use Rattle.processor.specs.declared.line.Line.{Line}
use Rattle.processor.specs.declared.line.Line.TheVariants.{Invalid, Shared, Exclusive}
use Rattle.processor.specs.declared.state.Processor.{Processor}
use Rattle.std.proofs.lemmas.Option.{same_Some}
use Rattle.coherence.proofs.Arising.{never}

module _ (s : Processor ℕ) (n : ℕ) (r : Reaction (Processor ℕ)) where
  -- A load reads a held line, a store writes an owned one.
  abbrev pub load_done : ℕ → Words → Reaction (Processor ℕ)
  load_done w ws = doing (operation_entry s n Ld w (word_of ws w)) (Some (word_of ws w)) (operated s)

  pub loaded : (w : ℕ) → accepted (load s n w) ≡ Some r → (ws : Words) × (held_words (line_at s.lines (block_of w)) ≡ Some ws) × (r ≡ load_done w ws)
  loaded w h = grind (arith, nat_tests)

  abbrev pub store_done : ℕ → ℕ → Words → Reaction (Processor ℕ)
  store_done w v ws = doing (operation_entry s n St w v) None (at_line (block_of w) (Exclusive (with_word ws w v)) (operated s))

  pub stored : (w v : ℕ) → accepted (store s n w v) ≡ Some r → (ws : Words) × (line_at s.lines (block_of w) ≡ Exclusive ws) × (r ≡ store_done w v ws)
  stored w v h = grind (arith, nat_tests)

  -- A request fits the line, and none was out.
  abbrev pub request_sent : ℕ → Kind → Reaction (Processor ℕ)
  request_sent b k = sending (plain k n (home_node b) b) (at_request b (Some k) s)

  pub requested : (b : ℕ) (k : Kind) → accepted (request s n b k) ≡ Some r
      → (ltb b 16 ≡ true) × (fits (line_at s.lines b) k ≡ true) × (out s.requests b ≡ None) × (r ≡ request_sent b k)
  requested b k h = grind (arith, nat_tests)

  module _ (m : Message ℕ) where
    -- INV finds the line Shared or Exclusive, DOWN finds it Exclusive.
    pub data Invalidates : Type 0 where
      shared_copy : (ws : Words) → line_at s.lines m.place ≡ Shared ws → r ≡ giving_way s n m Invalid None → Invalidates
      owned_copy : (ws : Words) → line_at s.lines m.place ≡ Exclusive ws → r ≡ giving_way s n m Invalid (Some ws) → Invalidates

    pub invalidates : invalidated s n m ≡ Some r → Invalidates
    invalidates is = go (line_at s.lines m.place) refl is
      where
        go : (l : Line) → line_at s.lines m.place ≡ l
            → ◌≡◌ {A = Outcome} (elim l [
              | Invalid ↦ None
              | Shared ws ↦ Some (giving_way s n m Invalid None)
              | Exclusive ws ↦ Some (giving_way s n m Invalid (Some ws))
            ]) (Some r) → Invalidates
        go Invalid at is = never cc
        go (Shared ws) at is = shared_copy ws at (sym (same_Some (giving_way s n m Invalid None) r is))
        go (Exclusive ws) at is = owned_copy ws at (sym (same_Some (giving_way s n m Invalid (Some ws)) r is))

    pub downgrades : downgraded s n m ≡ Some r → (ws : Words) × (line_at s.lines m.place ≡ Exclusive ws) × (r ≡ giving_way s n m (Shared ws) (Some ws))
    downgrades is = grind (arith, nat_tests)

    -- the request that is answered
    pub is_asked : (k : Kind) → is_out s.requests m.place k ≡ true → out s.requests m.place ≡ Some k
    is_asked k is = grind (arith, nat_tests)

    pub shares : shared s n m ≡ Some r → (out s.requests m.place ≡ Some kind.Gets) × (r ≡ taking_line s n m (Shared m.words))
    shares is = grind (arith, nat_tests)

    pub owns : owned s n m ≡ Some r → (out s.requests m.place ≡ Some kind.Getx) × (r ≡ taking_line s n m (Exclusive m.words))
    owns is = grind (arith, nat_tests)

    pub betters : granted s n m ≡ Some r
        → (out s.requests m.place ≡ Some kind.Upg) × (ws : Words) × (line_at s.lines m.place ≡ Shared ws) × (r ≡ taking_line s n m (Exclusive ws))
    betters is = grind (arith, nat_tests)

    pub gives_back : done s n m ≡ Some r → (out s.requests m.place ≡ Some kind.Wb) × (r ≡ taking s n m)
    gives_back is = grind (arith, nat_tests)

    pub ends : nacked s m ≡ Some r → (k : Kind) × (m.refused ≡ Some k) × (out s.requests m.place ≡ Some k) × (r ≡ quiet (at_request m.place None s))
    ends is = grind (arith, nat_tests)
