-- Every move of a block keeps its values, and so do two in turn, and they stand at the making; and whatever a move reads is
-- what stands in the block.
use Rattle.std.proofs.Common.{◌≡◌, ℕ, zero, suc, ◌+◌, ◌*◌, ◌<◌, [], ◌∷◌, ◌++◌, length, get_or, sym, refl, ap, ◌∙◌, subst, inl, arith}
use Rattle.device.specs.Meaning.{Meaning}
use Rattle.home.specs.Directories.{round_of}
use Rattle.home.specs.Homes.{new_home}
use Rattle.home.specs.declared.machine.Home.{Home}
use Rattle.message.specs.Kinds.{kind_number}
use Rattle.ordering.specs.Operations.{is_read}
use Rattle.processor.specs.Lines.{held_words}
use Rattle.std.proofs.lemmas.List.FromFn.{get_or-map-range_with_len}
use Rattle.std.proofs.lemmas.Bool.{false≢true}
use Rattle.std.proofs.lemmas.Option.{same_Some}
use Rattle.trail.specs.declared.address.Address.{Address}
use Rattle.trail.specs.declared.entry.Entry.{Entry}
use Rattle.coherence.proofs.Arising.{never}
use Rattle.coherence.proofs.Adding.{Enters, enters, finish, grown, last_entry, load, nothing, store}
use Rattle.coherence.proofs.BoundsQuiet.{fit_request}
use Rattle.coherence.proofs.Blocks.{Block, block}
use Rattle.coherence.proofs.Classes.{refusal_of}
use Rattle.coherence.proofs.Counting.{indicator}
use Rattle.coherence.proofs.Moves.{Moves, Passes, once, twice, rests, loads, stores, requests, invalidates_shared, invalidates_owned, downgrades, shares, owns, betters, gives_back, lands, stored, nacked, again, refuses, asks_holders, hears, finishes, frees}
use Rattle.coherence.proofs.FormsKept.{nobody_has}
use Rattle.coherence.proofs.Reading.{Reads, current, no_read}
use Rattle.coherence.proofs.Sole.{copies_add, held_most}
use Rattle.coherence.proofs.Tokens.{Tokens, held, holder, out_is}
use Rattle.coherence.proofs.TokensFinished.{Near}
use Rattle.coherence.proofs.TokensKept.{tokens_made, tokens_moved}
use Rattle.coherence.proofs.Values.{Says, Values, now}
use Rattle.coherence.proofs.ValuesCopies.{brought, gives_values, hears_values, takes_copy_values}
use Rattle.coherence.proofs.ValuesFinished.{finishes_reads, finishes_values}
use Rattle.coherence.proofs.ValuesOperations.{loads_reads, loads_values, none_held, stores_values}
use Rattle.coherence.proofs.ValuesQuiet.{asks_values, frees_values, nacked_values, refusal_bare, request_bare, requests_values, rests_values, returns_values, takes_values}
use Rattle.coherence.specs.Makings.{Making, block_words, make}
use Rattle.coherence.specs.Promise.{at_making}
use Rattle.coherence.specs.Worlds.{no_home}

module _ (b : ℕ) (start : Address → ℕ) (x y : Block) (t : Tokens x) (v : Values b start x) where
  pub values_moved : Moves b x y → Values b start y
  values_moved (rests g) = rests_values b start x y v g
  values_moved (loads p w ws e g) = loads_values b start x y v p w ws e g
  values_moved (stores p w n ws e g) = stores_values b start x y v t p w n ws e g
  values_moved (requests n k m g) = requests_values b start x y v n k m (fit_request n (x.line n) k g.fit) g
  values_moved (invalidates_shared p ws m a g) =
      gives_values b start x y v p _ _ 10 12 _ m a g (λ vs is. never cc) refl (omega arith) (λ is. absurd (false≢true is)) refl
  values_moved (invalidates_owned p ws m a g) =
      gives_values b start x y v p _ _ 10 41 _ m a g (λ vs is. never cc) refl (omega arith) (λ _. refl) (v.copies p ws (ap held_words g.was)).four
  values_moved (downgrades p ws m a g) =
      gives_values b start x y v p _ _ 11 41 _ m a g (λ vs is. is) refl (omega arith) (λ _. refl) (v.copies p ws (ap held_words g.was)).four
  values_moved (shares p m small g) =
      let missing = (t.copies p).missing in
      let asks = ap (λ o. out_is o 1) g.asked in
      let sum = copies_add (x.line p) in
      takes_copy_values b start x y v p _ _ _ 13 m g
      (λ ws is. subst (Says (now b start x.trail)) (same_Some m.words ws is) (brought b start x y v p _ _ _ 13 m g refl)) refl (omega arith)
  values_moved (owns p m small g) =
      let sum = copies_add (x.line p) in
      let most = held_most (x.line p) in
      takes_copy_values b start x y v p _ _ _ 14 m g
      (λ ws is. subst (Says (now b start x.trail)) (same_Some m.words ws is) (brought b start x y v p _ _ _ 14 m g refl)) refl (omega arith)
  values_moved (betters p ws m small g) =
      takes_copy_values b start x y v p _ _ _ 15 m g (λ vs is. v.copies p vs (ap held_words g.was ∙ is)) refl (omega arith)
  values_moved (gives_back p m small g) = takes_values b start x y v p _ 16 m refl g
  values_moved (lands n m large g) = takes_values b start x y v n _ 17 m refl g
  values_moved (stored n m large g) = takes_values b start x y v n _ 42 m refl g
  values_moved (nacked p k m is g) = nacked_values b start x y v p k m is g
  values_moved (again n k m a is g) = returns_values b start x y v n (refusal_of k) (kind_number k) m a (refusal_bare k is) (request_bare k is) g
  values_moved (refuses n k m a is g) = returns_values b start x y v n (kind_number k) (refusal_of k) m a (request_bare k is) (refusal_bare k is) g
  values_moved (asks_holders m planned asked g) = asks_values b start x y v m planned asked g
  values_moved (hears m g) = hears_values b start x y v m g
  values_moved (finishes g) = finishes_values b start x y t v g
  values_moved (frees n m g) = frees_values b start x y v n m g

  -- Where a move adds an entry, what it read stood there.
  pub values_read : Moves b x y → (e : Entry) → y.trail ≡ x.trail ++ e ∷ [] → Reads (current start x.trail) e
  values_read move e added = go (enters b x y move)
    where
      go : Enters b x y → Reads (current start x.trail) e
      go (nothing same) = absurd (grown x.trail e (sym same ∙ added))
      go (load p w ws f g) =
          subst (Reads (current start x.trail)) (last_entry x.trail f e (sym g.trail ∙ added))
          (loads_reads b start x y v p w ws f g)
      go (store p w n ws f g) =
          subst (Reads (current start x.trail)) (last_entry x.trail f e (sym g.trail ∙ added))
          (no_read (current start x.trail) f (ap is_read g.entry.operation))
      go (finish g) = finishes_reads b start x y t v g e added

module _ {A B : Type 0} (ma : Meaning A) (mb : Meaning B) (k : Making A B) where
  -- the words of a block at the making, one by one
  at_start : (b i : ℕ) → i < 4 → get_or (block_words k.words b).at i 0 ≡ get_or k.words (4 * b + i) 0
  at_start b zero low = ap (λ (n : ℕ). get_or k.words n 0) (omega arith)
  at_start b (suc zero) low = refl
  at_start b (suc (suc zero)) low = refl
  at_start b (suc (suc (suc zero))) low = refl
  at_start b (suc (suc (suc (suc i)))) low = absurd (omega arith)

  pub values_made : (b : ℕ) → b < 16 → Values b (at_making ma mb k) (block b (make ma mb k))
  values_made b small = record {
    copies = λ q ws is. absurd (none_held ((block b (make ma mb k)).line q) ws (none q) is);
    home_four = ap (λ (h : Home ℕ). length h.words.at) new;
    home = λ _ i low. ap (λ (h : Home ℕ). get_or h.words.at i 0) new ∙ at_start b i low;
    carried = tt;
    four = tt;
    request_four = ap (λ (h : Home ℕ). length (round_of h.directory).request.words.at) new;
  }
    where
      new : (block b (make ma mb k)).home ≡ new_home k.clock (block_words k.words b)
      new = get_or-map-range_with_len (λ j. new_home k.clock (block_words k.words j)) 0 16 b b no_home small (omega arith)

      none : (q : ℕ) → held ((block b (make ma mb k)).line q) ≡ 0
      none q =
          let copy = ((tokens_made ma mb k b small).copies q).copy in
          let nobody : holder (block b (make ma mb k)).home q ≡ 0 = ap (λ (h : Home ℕ). holder h q) new ∙ ap indicator (nobody_has q) in
          omega arith

-- One move, or two in turn.
pub values_passed : (b : ℕ) (start : Address → ℕ) (x y : Block) → Near x → Tokens x → Values b start x → Passes b x y → Values b start y
values_passed b start x y near t v (once m) = values_moved b start x y t v m
values_passed b start x y near t v (twice z m n) = values_moved b start z y (tokens_moved b x z t (inl near) m) (values_moved b start x z t v m) n
