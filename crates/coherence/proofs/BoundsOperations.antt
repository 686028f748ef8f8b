-- Operations on a block: the new entry has its bounds, and is above every entry of another node that may conflict with it.
use Rattle.std.proofs.Common.{◌≡◌, ℕ, ◌<◌, Bool, true, false, cond, eqb, ◌⊎◌, [], Some, sym, refl, ap, ◌∙◌, subst, inl, inr, ⊎_elim, arith}
use Rattle.ordering.specs.Operations.{is_write}
use Rattle.ordering.specs.declared.operation.Words.{Words}
use Rattle.processor.specs.Lines.{held_words, with_word}
use Rattle.processor.specs.declared.line.Line.{Line}
use Rattle.processor.specs.declared.line.Line.TheVariants.{Invalid, Shared, Exclusive}
use Rattle.std.proofs.ByRecursion.{All-push, All-weaker}
use Rattle.std.proofs.lemmas.Bool.{both_ways, cases_Bool, cases_eq, eqb-true, or_cases}
use Rattle.std.specs.List.{AllByRecursion as All}
use Rattle.trail.specs.declared.entry.Entry.{Entry}
use Rattle.coherence.proofs.Arising.{never}
use Rattle.coherence.proofs.Blocks.{Block, all_from_has, peer}
use Rattle.coherence.proofs.Bounds.{Acknowledged, Bounded, Bounds, Fresh, bounded_on, is_ack, posted_same, same_bound}
use Rattle.coherence.proofs.BoundsCopies.{no_acks_of}
use Rattle.coherence.proofs.Moves.{Loads, Stores}
use Rattle.coherence.proofs.Sole.{copies_add, held_most, sole}
use Rattle.coherence.proofs.Tokens.{Tokens, held, owned, shared}
use Rattle.coherence.proofs.TokensKept.{Alike, same_line}

holding : (l : Line) (ws : Words) → held_words l ≡ Some ws → held l ≡ 1
holding Invalid ws is = never cc
holding (Shared v) ws is = refl
holding (Exclusive v) ws is = refl

-- a held copy is shared or owned
which : (l : Line) → held l ≡ 1 → (shared l ≡ 1) ⊎ (owned l ≡ 1)
which Invalid is = absurd (omega arith)
which (Shared v) is = inl refl
which (Exclusive v) is = inr refl

module _ (b : ℕ) (x y : Block) (t : Tokens x) (bounds : Bounds x) where
  abbrev BoundedIn : Block → Entry → Type 0
  BoundedIn z e = Bounded z.line z.clock z.home z.messages e

  -- A load: writes of others are below the clock of whoever holds a copy.
  module _ (p w : ℕ) (ws : Words) (e : Entry) (r : Loads b x y p w ws e) where
    holds : held (x.line p) ≡ 1
    holds = holding (x.line p) ws r.held

    reads : is_write e.operation ≡ false
    reads = ap is_write r.entry.operation

    pub loads_fresh : Fresh x.trail e
    loads_fresh =
        All-weaker (BoundedIn x) _ (λ f old conflict apart.
        let write : is_write f.operation ≡ true = ⊎_elim (λ h. h) (λ h. absurd (both_ways (is_write e.operation) reads h)) (or_cases (is_write f.operation) (is_write e.operation) conflict) in
        let other : f.stamp.node ≡ p → ⊥ = λ at. apart (at ∙ sym r.entry.node) in
        let below : f.stamp.global < x.clock p = ⊎_elim (λ s. old.sharer p s write) (λ o. old.owner p o other) (which (x.line p) holds) in
        let at = r.entry.global in
        omega arith) x.trail bounds

    new_load : BoundedIn y e
    new_load =
        let n = r.entry.node in
        record {
          known = λ none. absurd (let line : held (y.line e.stamp.node) ≡ 1 = ap (λ (q : ℕ). held (y.line q)) n ∙ ap held (r.lines p) ∙ holds in omega arith);
          written = λ write. absurd (both_ways (is_write e.operation) reads write);
          owner = λ q is apart.
              let own : owned (x.line q) ≡ 1 = sym (ap owned (r.lines q)) ∙ is in
              let none = sole x t q own p (λ s. apart (n ∙ sym s)) in
              absurd (omega (arith, holds));
          sharer = λ q is write. absurd (both_ways (is_write e.operation) reads write);
          past = λ low. let at = r.entry.global in let same = ap y.clock n in let clock = r.clocks p in omega arith;
          acknowledged = all_from_has (Acknowledged y.line e) y.messages (λ m has ack from. record {
            writes = λ write. absurd (both_ways (is_write e.operation) reads write);
            all = λ none. absurd (let line : held (y.line (peer m)) ≡ 1 = ap (λ (q : ℕ). held (y.line q)) (sym from ∙ n) ∙ ap held (r.lines p) ∙ holds in omega arith);
          });
        }

    pub loads_bounds : Bounds y
    loads_bounds =
        subst (All (BoundedIn y)) (sym r.trail)
        (All-push (BoundedIn y) x.trail e
        (All-weaker (BoundedIn x) (BoundedIn y)
        (bounded_on x y [] [] (λ q. same_line (y.line q) (x.line q) (r.lines q)) (λ q. let c = r.clocks q in omega arith) (same_bound r.home) (posted_same x.messages y.messages r.messages) tt tt) x.trail bounds)
        new_load)

  -- A store: everything of others is below the owner's clock.
  module _ (p w v : ℕ) (ws : Words) (e : Entry) (r : Stores b x y p w v ws e) where
    owns : owned (x.line p) ≡ 1
    owns = ap owned r.owned

    pub stores_fresh : Fresh x.trail e
    stores_fresh =
        All-weaker (BoundedIn x) _ (λ f old conflict apart.
        let below = old.owner p owns (λ at. apart (at ∙ sym r.entry.node)) in
        let at = r.entry.global in
        omega arith) x.trail bounds

    line_now : (q : ℕ) → Alike (y.line q) (x.line q)
    line_now q = go (cases_Bool (eqb p q))
      where
        go : (eqb p q ≡ true) ⊎ (eqb p q ≡ false) → Alike (y.line q) (x.line q)
        go (inl same) =
            let new : y.line q ≡ Exclusive (with_word ws w v) = r.lines q ∙ ap (λ (t : Bool). cond t (Exclusive (with_word ws w v)) (x.line q)) same in
            let old : x.line q ≡ Exclusive ws = ap x.line (sym (eqb-true p q same)) ∙ r.owned in
            record { held = ap held new ∙ sym (ap held old); shared = ap shared new ∙ sym (ap shared old); owned = ap owned new ∙ sym (ap owned old) }
        go (inr apart) = same_line (y.line q) (x.line q) (r.lines q ∙ ap (λ (t : Bool). cond t (Exclusive (with_word ws w v)) (x.line q)) apart)

    new_store : BoundedIn y e
    new_store =
        let n = r.entry.node in
        let mine : (q : ℕ) → q ≡ p → owned (y.line q) ≡ 1 = λ q at. (line_now q).owned ∙ ap (λ (k : ℕ). owned (x.line k)) at ∙ owns in
        let none_else : (q : ℕ) → (p ≡ q → ⊥) → held (y.line q) ≡ 0 = λ q apart. (line_now q).held ∙ sole x t p owns q apart in
        record {
          known = λ none. absurd (let o = mine e.stamp.node n in let s = copies_add (y.line e.stamp.node) in omega arith);
          written = λ _ none. absurd (let o = mine e.stamp.node n in omega arith);
          owner = λ q is apart. absurd (let z = none_else q (λ s. apart (n ∙ s)) in let s = copies_add (y.line q) in omega arith);
          sharer = λ q is _. absurd (⊎_elim (λ at. let o = mine q (sym at) in let s = copies_add (y.line q) in let most = held_most (y.line q) in (let no_way : ⊥ = omega arith in no_way))
              (λ apart. let z = none_else q apart in let s = copies_add (y.line q) in (let no_way : ⊥ = omega arith in no_way)) (cases_eq p q));
          past = λ low. let at = r.entry.global in let same = ap y.clock n in let clock = r.clocks p in omega arith;
          acknowledged = subst (All (Acknowledged y.line e)) (sym r.messages)
              (All-weaker (λ m. is_ack m ≡ true → peer m ≡ p → ⊥) (Acknowledged y.line e) (λ m none ack from. absurd (none ack (sym from ∙ n))) x.messages
              (let up = (t.copies p).given_up in no_acks_of x.messages p (omega (arith, owns)) (omega (arith, owns))));
        }

    pub stores_bounds : Bounds y
    stores_bounds =
        subst (All (BoundedIn y)) (sym r.trail)
        (All-push (BoundedIn y) x.trail e
        (All-weaker (BoundedIn x) (BoundedIn y)
        (bounded_on x y [] [] line_now (λ q. let c = r.clocks q in omega arith) (same_bound r.home) (posted_same x.messages y.messages r.messages) tt tt) x.trail bounds)
        new_store)
