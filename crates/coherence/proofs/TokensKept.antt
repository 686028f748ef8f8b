-- Every move of a block keeps its tokens, and so do two in turn; and they stand at the making.
use Rattle.std.proofs.Common.{◌≡◌, ℕ, ◌<◌, ◌≤◌, eqb, ltb, ◌⊎◌, [], get_or, replicate, None, sym, refl, ap, ◌∙◌, inl, inr, arith}
use Rattle.device.specs.Meaning.{Meaning}
use Rattle.home.specs.Homes.{new_directory, new_home}
use Rattle.home.specs.declared.machine.Home.{Home}
use Rattle.message.specs.Requests.{out}
use Rattle.ordering.specs.declared.operation.Words.{Words}
use Rattle.processor.specs.Lines.{line_at, with_word}
use Rattle.processor.specs.States.{made}
use Rattle.processor.specs.declared.line.Line.{Line}
use Rattle.processor.specs.declared.line.Line.TheVariants.{Invalid, Exclusive}
use Rattle.processor.specs.declared.state.Processor.{Processor}
use Rattle.std.proofs.lemmas.List.FromFn.{get_or-map-range_with_len}
use Rattle.std.proofs.lemmas.List.{get_or_past, get_or-replicate}
use Rattle.std.proofs.lemmas.Bool.{false≢true, ltb-true, cases_lt, cond-false, cond_both, le-ltb, ne_eqb}
use Rattle.trail.specs.declared.entry.Entry.{Entry}
use Rattle.coherence.proofs.Blocks.{Block, block, hits, pending, pending_is, request_out}
use Rattle.coherence.proofs.Counting.{count_none, indicator}
use Rattle.coherence.proofs.Moves.{Finishes, Moves, Passes, Stores, once, twice, rests, loads, stores, requests, invalidates_shared, invalidates_owned, downgrades, shares, owns, betters, gives_back, lands, stored, nacked, again, refuses, asks_holders, hears, finishes, frees}
use Rattle.coherence.proofs.FormsKept.{nobody_has}
use Rattle.coherence.proofs.Shifts.{each, put_here, put_there}
use Rattle.coherence.proofs.Tokens.{Tokens, held, out_is, owned, shared}
use Rattle.coherence.proofs.TokensAsked.{downgraded, invalidated_owned, invalidated_shared}
use Rattle.coherence.proofs.TokensFinished.{Near, finished_tokens}
use Rattle.coherence.proofs.TokensFreed.{freed}
use Rattle.coherence.proofs.TokensGathering.{gathering_tokens}
use Rattle.coherence.proofs.TokensHeard.{heard_tokens}
use Rattle.coherence.proofs.TokensReplies.{bettered, given_back, landed, took_done, took_owned, took_shared}
use Rattle.coherence.proofs.TokensRequests.{refused, requested, sent_again, sent_back}
use Rattle.coherence.specs.Makings.{Making, block_words, make}
use Rattle.coherence.specs.Worlds.{World, no_home, no_processor}

-- Two lines as good as each other.
pub record Alike (l k : Line) : Type 0 where
  pub held : held l ≡ held k
  pub shared : shared l ≡ shared k
  pub owned : owned l ≡ owned k

pub same_line : (l k : Line) → l ≡ k → Alike l k
same_line l k is = record { held = ap held is; shared = ap shared is; owned = ap owned is }

-- Where home, messages and requests stay, and no line gets better or worse.
undisturbed : (x y : Block) → Tokens x → ((q : ℕ) → Alike (y.line q) (x.line q)) → ((q : ℕ) → y.out q ≡ x.out q)
    → y.home ≡ x.home → y.messages ≡ x.messages → Tokens y
undisturbed x y t lines outs home messages = record {
  asked = λ q. rw (outs q, home, messages) (t.asked q);
  gathered = λ q. rw (home, messages) (t.gathered q);
  copies = λ q. rw (outs q, home, messages) (let k = t.copies q in let l = lines q in omega arith);
  one = rw home t.one;
  some = rw home t.some;
  owner_asked = rw home t.owner_asked;
  holders_four = rw home t.holders_four;
  awaited_four = rw home t.awaited_four;
  asks = rw home t.asks;
  clocks = rw (home, messages) t.clocks;
}

module _ (b : ℕ) (x y : Block) (t : Tokens x) where
  when_stored : (p w v : ℕ) (ws : Words) (e : Entry) → Stores b x y p w v ws e → Tokens y
  when_stored p w v ws e g = undisturbed x y t
      (each p (λ q. Alike (y.line q) (x.line q)) here
      (λ q apart. same_line (y.line q) (x.line q) (put_there p q (Exclusive (with_word ws w v)) (x.line q) (y.line q) (g.lines q) apart)))
      g.outs g.home g.messages
    where
      here : Alike (y.line p) (x.line p)
      here =
          let now = put_here p (Exclusive (with_word ws w v)) (x.line p) (y.line p) (g.lines p) in
          record {
            held = ap held now ∙ sym (ap held g.owned);
            shared = ap shared now ∙ sym (ap shared g.owned);
            owned = ap owned now ∙ sym (ap owned g.owned);
          }

  -- Near is needed where the home finishes, and is the same before and after.
  when_finished : Near x ⊎ Near y → Finishes b x y → Tokens y
  when_finished (inl near) g = finished_tokens b x y t near g
  when_finished (inr near) g = finished_tokens b x y t (λ q far. sym (g.outs q) ∙ near q far) g

  pub tokens_moved : Near x ⊎ Near y → Moves b x y → Tokens y
  tokens_moved near (rests g) = undisturbed x y t (λ q. same_line (y.line q) (x.line q) (g.lines q)) g.outs g.home g.messages
  tokens_moved near (loads p w ws e g) = undisturbed x y t (λ q. same_line (y.line q) (x.line q) (g.lines q)) g.outs g.home g.messages
  tokens_moved near (stores p w v ws e g) = when_stored p w v ws e g
  tokens_moved near (requests n k m g) = requested b x y t n k m g
  tokens_moved near (invalidates_shared p ws m a g) = invalidated_shared b x y t p ws m a g
  tokens_moved near (invalidates_owned p ws m a g) = invalidated_owned b x y t p ws m a g
  tokens_moved near (downgrades p ws m a g) = downgraded b x y t p ws m a g
  tokens_moved near (shares p m small g) = took_shared b x y t p m small g
  tokens_moved near (owns p m small g) = took_owned b x y t p m small g
  tokens_moved near (betters p ws m small g) = bettered b x y t p m ws small g
  tokens_moved near (gives_back p m small g) = given_back b x y t p m small g
  tokens_moved near (lands n m large g) = landed b x y t n m large g
  tokens_moved near (stored n m large g) = took_done b x y t n m large g
  tokens_moved near (nacked p k m is g) = refused b x y t p k m is g
  tokens_moved near (again n k m a is g) = sent_again b x y t n k m a is g
  tokens_moved near (refuses n k m a is g) = sent_back b x y t n k m a is g
  tokens_moved near (asks_holders m planned asked g) = gathering_tokens b x y t m planned asked g
  tokens_moved near (hears m g) = heard_tokens b x y t m g
  tokens_moved near (finishes g) = when_finished near g
  tokens_moved near (frees n m g) = freed b x y t n m g

pub tokens_passed : (b : ℕ) (x y : Block) → Near x → Near y → Tokens x → Passes b x y → Tokens y
tokens_passed b x y before after t (once m) = tokens_moved b x y t (inl before) m
tokens_passed b x y before after t (twice z m n) = tokens_moved b z y (tokens_moved b x z t (inl before) m) (inr after) n

-- A block that nobody has anything of.
quiet : (x : Block) → ((q : ℕ) → x.line q ≡ Invalid) → ((q : ℕ) → x.out q ≡ None) → x.home.directory ≡ new_directory → x.messages ≡ [] → Tokens x
quiet x lines outs new none = record {
  asked = λ q. let o = out_now q in rw (new, none) (omega (arith, empty));
  gathered = λ q. let h = ap indicator (nobody_has q) in rw (new, none) (omega (arith, empty));
  copies = λ q. let o = out_now q in let h = ap indicator (nobody_has q) in let l = line_now q in rw (new, none) (omega (arith, empty));
  one = rw new (λ p q _. let here = ap indicator (nobody_has p) in let there = ap indicator (nobody_has q) in omega arith);
  some = rw new (omega arith);
  owner_asked = rw new (omega arith);
  holders_four = rw new refl;
  awaited_four = rw new refl;
  asks = rw new (λ is. absurd (false≢true is));
  clocks = rw none tt;
}
  where
    empty : (c q : ℕ) → pending [] c q ≡ 0
    empty c q = pending_is [] c q ∙ count_none (hits c q)

    out_now : (q : ℕ) → (c : ℕ) → out_is (x.out q) c ≡ 0
    out_now q c = ap (λ o. out_is o c) (outs q)

    line_now : (q : ℕ) → Alike (x.line q) Invalid
    line_now q = same_line (x.line q) Invalid (lines q)

module _ {A B : Type 0} where
  -- No other node has a request out.
  pub near_block : (b : ℕ) (w : World A B) → Near (block b w)
  near_block b w q far =
      cond-false (ltb q 4) _ _ (le-ltb q 4 (omega arith)) ∙ cond-false (eqb q 4) _ _ (ne_eqb q 4 (λ is. omega arith)) ∙ cond-false (eqb q 5) _ _ (ne_eqb q 5 (λ is. omega arith))

  pub tokens_after : (b : ℕ) (w v : World A B) → Tokens (block b w) → Passes b (block b w) (block b v) → Tokens (block b v)
  tokens_after b w v = tokens_passed b (block b w) (block b v) (near_block b w) (near_block b v)

  module _ (ma : Meaning A) (mb : Meaning B) where
    pub tokens_made : (k : Making A B) (b : ℕ) → b < 16 → Tokens (block b (make ma mb k))
    tokens_made k b small = quiet (block b (make ma mb k)) (λ q. lines q (cases_lt q 4)) outs
        (ap (λ (h : Home ℕ). h.directory) (get_or-map-range_with_len (λ j. new_home k.clock (block_words k.words j)) 0 16 b b no_home small (omega arith))) refl
      where
        lines : (q : ℕ) → (q < 4) ⊎ (4 ≤ q) → line_at (get_or (replicate 4 (made k.clock)) q no_processor).lines b ≡ Invalid
        lines q (inl near) = ap (λ (s : Processor ℕ). line_at s.lines b) (get_or-replicate 4 q (made k.clock) no_processor near) ∙ get_or-replicate 16 b Invalid Invalid small
        lines q (inr far) = ap (λ (s : Processor ℕ). line_at s.lines b) (get_or_past (replicate 4 (made k.clock)) q no_processor far)

        none : out (record { at = replicate 16 None }) b ≡ None
        none = get_or-replicate 16 b None None small

        outs : (q : ℕ) → request_out (make ma mb k) b q ≡ None
        outs q =
            cond_both (ltb q 4) _ _ (λ o. o ≡ None)
            (λ near. ap (λ (s : Processor ℕ). out s.requests b) (get_or-replicate 4 q (made k.clock) no_processor (ltb-true q 4 near)) ∙ none)
            (λ _. cond_both (eqb q 4) _ _ (λ o. o ≡ None) (λ _. none) (λ _. cond_both (eqb q 5) _ _ (λ o. o ≡ None) (λ _. none) (λ _. refl)))
