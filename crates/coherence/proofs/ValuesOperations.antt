-- Operations of a processor on a block: a load reads what stands in the block, and after a store the owner's copy is what
-- stands there.
use Rattle.std.proofs.Common.{◌≡◌, ℕ, ◌+◌, ◌*◌, ◌/◌, ◌%◌, ◌<◌, Bool, true, false, cond, ◌&&◌, ◌||◌, eqb, ltb, ◌⊎◌, List, [], ◌∷◌, ◌++◌, length, get_or, set, Some, sym, refl, ap, ◌∙◌, subst, inl, inr, ⊎_elim, arith}
use Rattle.home.specs.Directories.{round_of}
use Rattle.home.specs.declared.machine.Home.{Home}
use Rattle.message.specs.declared.message.Message.{Message}
use Rattle.ordering.specs.Operations.{is_block, is_write}
use Rattle.ordering.specs.Words.{one_word}
use Rattle.ordering.specs.declared.operation.Operation.{Operation}
use Rattle.ordering.specs.declared.operation.Operation.TheVariants.{Ld, St}
use Rattle.ordering.specs.declared.operation.Words.{Words}
use Rattle.processor.specs.Lines.{held_words, word_of, with_word}
use Rattle.processor.specs.declared.line.Line.{Line}
use Rattle.processor.specs.declared.line.Line.TheVariants.{Invalid, Shared, Exclusive}
use Rattle.std.proofs.ByRecursion.{all-has, All-weaker}
use Rattle.std.proofs.lemmas.List.{get_or-set_other, get_or-set_same, length-set}
use Rattle.std.proofs.lemmas.Bool.{and_from, and_left, both_ways, cases_Bool, cases_eq, eq-eqb, eqb-true, ltb-true, ne_eqb, or_cases}
use Rattle.std.proofs.lemmas.Option.{same_Some}
use Rattle.std.specs.List.{ContainsAt as Has, AllByRecursion as All}
use Rattle.trail.specs.Addresses.{covers}
use Rattle.trail.specs.declared.address.Address.{Address}
use Rattle.trail.specs.declared.entry.Entry.{Entry}
use Rattle.coherence.proofs.Arising.{never}
use Rattle.coherence.proofs.Blocks.{Block, all_from_has, hits, peer, pending, pending_is, token}
use Rattle.coherence.proofs.Bounds.{posted_same}
use Rattle.coherence.proofs.Counting.{none_passes}
use Rattle.coherence.proofs.DeviceWords.{address}
use Rattle.coherence.proofs.Moves.{Loads, Operates, Stores}
use Rattle.coherence.proofs.Reading.{Reads, current, current_kept, current_push}
use Rattle.coherence.proofs.Shifts.{put_here, put_there}
use Rattle.coherence.proofs.Sole.{no_data, sole}
use Rattle.coherence.proofs.Tokens.{Tokens, held, owned}
use Rattle.coherence.proofs.Values.{Bare, Data, Says, Values, bare_data, carries, now, valued_on, valued_still}

-- What is no write changes nothing that stands there.
pub now_kept : (b : ℕ) (start : Address → ℕ) (before after : List Entry) (e : Entry) → is_write e.operation ≡ false → after ≡ before ++ e ∷ []
    → (i : ℕ) → now b start after i ≡ now b start before i
now_kept b start before after e reads is i =
    ap (λ (es : List Entry). now b start es i) is
    ∙ current_kept start before e (address 0 (4 * b + i)) (and_left (is_write e.operation) (covers e (address 0 (4 * b + i))) reads)

-- No data waits where none is counted.
pub none_carried : (ms : List (Message ℕ)) → ((q : ℕ) → (pending ms 13 q ≡ 0) × (pending ms 14 q ≡ 0) × (pending ms 41 q ≡ 0)) → All Bare ms
none_carried ms none = all_from_has Bare ms (λ m has. go m has (cases_Bool (carries (token m))))
  where
    not_there : (c : ℕ) (m : Message ℕ) → Has ms m → pending ms c (peer m) ≡ 0 → eqb (token m) c ≡ true → ⊥
    not_there c m has zero is =
        let others = none_passes (hits c (peer m)) ms (sym (pending_is ms c (peer m)) ∙ zero) in
        both_ways (hits c (peer m) m) (all-has (λ n. hits c (peer m) n ≡ false) ms m others has) (and_from (eqb (token m) c) (eqb (peer m) (peer m)) is (eq-eqb (peer m) (peer m) refl))

    go : (m : Message ℕ) → Has ms m → (carries (token m) ≡ true) ⊎ (carries (token m) ≡ false) → Bare m
    go m has (inr is) = is
    go m has (inl is) =
        let z = none (peer m) in
        absurd (⊎_elim (not_there 13 m has z.0) (λ rest. ⊎_elim (not_there 14 m has z.1) (not_there 41 m has z.2) (or_cases (eqb (token m) 14) (eqb (token m) 41) rest))
        (or_cases (eqb (token m) 13) (eqb (token m) 14 || eqb (token m) 41) is))

-- a line that is not held has no words
pub none_held : (l : Line) (ws : Words) → held l ≡ 0 → held_words l ≡ Some ws → ⊥
none_held Invalid ws none is = never cc
none_held (Shared v) ws none is = omega arith
none_held (Exclusive v) ws none is = omega arith

-- What a load of a processor reads, and what stands in the block after its store.
module _ (p w c : ℕ) (e : Entry) where
  loads_read : (b : ℕ) (start : Address → ℕ) (trail : List Entry) (ws : Words) → w / 4 ≡ b → Says (now b start trail) ws → Operates p w Ld (word_of ws w) c e
      → Reads (current start trail) e
  loads_read b start trail ws at says o reads n has =
      let block : is_block e.operation ≡ false = ap is_block o.operation in
      let low : n < 1 = ltb-true n 1 (sym (ap (λ (t : Bool). ltb n (cond t 4 1)) block) ∙ has) in
      let zero : n ≡ 0 = omega arith in
      let place : 4 * b + w % 4 ≡ cond (is_block e.operation) (4 * e.place + n) e.place =
      (omega arith) ∙ sym o.place ∙ sym (ap (λ (t : Bool). cond t (4 * e.place + n) e.place) block) in
      ap (λ (vs : Words). get_or vs.at n 0) o.values
      ∙ ap (λ (i : ℕ). get_or (one_word (word_of ws w)).at i 0) zero
      ∙ says.words (w % 4) (omega arith)
      ∙ ap (λ (i : ℕ). current start trail (address 0 i)) place
      ∙ ap (λ (s : ℕ). current start trail (address s (cond (is_block e.operation) (4 * e.place + n) e.place))) (sym o.space)

  stores_now : (v b : ℕ) (start : Address → ℕ) (trail : List Entry) → w / 4 ≡ b → Operates p w St v c e
      → (i : ℕ) → i < 4 → now b start (trail ++ e ∷ []) i ≡ cond (eqb i (w % 4)) v (now b start trail i)
  stores_now v b start trail at o i low =
      current_push start trail e (address 0 (4 * b + i))
      ∙ ap (λ (k : Operation). written k e.space e.place e.values) o.operation
      ∙ ap (λ (s : ℕ). written St s e.place e.values) o.space
      ∙ ap (λ (q : ℕ). written St 0 q e.values) o.place
      ∙ ap (λ (vs : Words). written St 0 w vs) o.values
      ∙ ap (λ (t : Bool). cond t v (now b start trail i)) (same (cases_eq i (w % 4)))
    where
      written : Operation → ℕ → ℕ → Words → ℕ
      written k s q vs =
          cond (is_write k && (eqb s 0 && eqb (cond (is_block k) ((4 * b + i) / 4) (4 * b + i)) q))
          (get_or vs.at (cond (is_block k) ((4 * b + i) % 4) 0) 0) (now b start trail i)

      same : (i ≡ w % 4) ⊎ (i ≡ w % 4 → ⊥) → eqb (4 * b + i) w ≡ eqb i (w % 4)
      same (inl is) = eq-eqb (4 * b + i) w (omega arith) ∙ sym (eq-eqb i (w % 4) is)
      same (inr apart) = ne_eqb (4 * b + i) w (λ is. apart (omega arith)) ∙ sym (ne_eqb i (w % 4) apart)

module _ (b : ℕ) (start : Address → ℕ) (x y : Block) (v : Values b start x) where
  module _ (p w : ℕ) (ws : Words) (e : Entry) (r : Loads b x y p w ws e) where
    pub loads_values : Values b start y
    loads_values =
        valued_still (now b start x.trail) (now b start y.trail) y.line y.home y.messages
        (λ i _. now_kept b start x.trail y.trail e (ap is_write r.entry.operation) r.trail i)
        (valued_on _ x y [] [] v r.lines (ap (λ (h : Home ℕ). h.words) r.home)
        (ap (λ (h : Home ℕ). length (round_of h.directory).request.words.at) r.home ∙ v.request_four) (posted_same x.messages y.messages r.messages) tt tt tt)

    pub loads_reads : Reads (current start x.trail) e
    loads_reads = loads_read p w (x.clock p) e b start x.trail ws r.word (v.copies p ws r.held) r.entry

  module _ (t : Tokens x) (p w n : ℕ) (ws : Words) (e : Entry) (r : Stores b x y p w n ws e) where
    owns : owned (x.line p) ≡ 1
    owns = ap owned r.owned

    new : (i : ℕ) → i < 4 → now b start y.trail i ≡ cond (eqb i (w % 4)) n (now b start x.trail i)
    new i low = ap (λ (es : List Entry). now b start es i) r.trail ∙ stores_now p w (x.clock p) e n b start x.trail r.word r.entry i low

    -- the owner's words with the new one
    rewritten : Says (now b start y.trail) (with_word ws w n)
    rewritten =
        let says = v.copies p ws (ap held_words r.owned) in
        record { four = length-set ws.at (w % 4) n ∙ says.four; words = λ i low. go says i low (cases_eq i (w % 4)) ∙ sym (new i low) }
      where
        go : Says (now b start x.trail) ws → (i : ℕ) → i < 4 → (i ≡ w % 4) ⊎ (i ≡ w % 4 → ⊥)
            → get_or (set ws.at (w % 4) n) i 0 ≡ cond (eqb i (w % 4)) n (now b start x.trail i)
        go says i low (inl is) =
            rw (eq-eqb i (w % 4) is) (ap (λ (j : ℕ). get_or (set ws.at (w % 4) n) j 0) is ∙ get_or-set_same ws.at (w % 4) n 0 (let four = says.four in omega arith))
        go says i low (inr apart) = rw (ne_eqb i (w % 4) apart) (get_or-set_other ws.at (w % 4) i n 0 apart ∙ says.words i low)

    pub stores_values : Values b start y
    stores_values = record {
      copies = λ q vs is. copy q vs (cases_Bool (eqb p q)) is;
      home_four = ap (λ (h : Home ℕ). length h.words.at) r.home ∙ v.home_four;
      home = λ none i low. absurd (let both = none p in let line = ap owned here in omega arith);
      carried = subst (All (Data (now b start y.trail))) (sym r.messages)
          (All-weaker Bare (Data (now b start y.trail)) (bare_data (now b start y.trail)) x.messages (none_carried x.messages (no_data x t p owns)));
      four = subst (All (λ (m : Message ℕ). length m.words.at ≡ 4)) (sym r.messages) v.four;
      request_four = ap (λ (h : Home ℕ). length (round_of h.directory).request.words.at) r.home ∙ v.request_four;
    }
      where
        here : y.line p ≡ Exclusive (with_word ws w n)
        here = put_here p (Exclusive (with_word ws w n)) (x.line p) (y.line p) (r.lines p)

        copy : (q : ℕ) (vs : Words) → (eqb p q ≡ true) ⊎ (eqb p q ≡ false) → held_words (y.line q) ≡ Some vs → Says (now b start y.trail) vs
        copy q vs (inl same) is =
            let line : y.line q ≡ Exclusive (with_word ws w n) = ap y.line (sym (eqb-true p q same)) ∙ here in
            let words : with_word ws w n ≡ vs = same_Some (with_word ws w n) vs (sym (ap held_words line) ∙ is) in
            subst (Says (now b start y.trail)) words rewritten
        copy q vs (inr apart) is =
            let none : held (x.line q) ≡ 0 = sole x t p owns q (λ s. both_ways (eqb p q) apart (eq-eqb p q s)) in
            absurd (none_held (x.line q) vs none (sym (ap held_words (put_there p q (Exclusive (with_word ws w n)) (x.line q) (y.line q) (r.lines q) apart)) ∙ is))
