-- An Exclusive copy is the only one, and no data is on its way while it lasts; and a home that has heard all has nothing asked
-- on its way, and no Exclusive copy is left.
use Rattle.std.proofs.lemmas.Bool.Decides.{nat_tests}
use Rattle.std.proofs.Common.{◌≡◌, ℕ, zero, suc, ◌+◌, ◌≤◌, true, false, length, sym, refl, ap, ◌∙◌, ⊎_elim, arith}
use Rattle.home.specs.Directories.{round_of}
use Rattle.home.specs.Sets.{has, is_empty}
use Rattle.home.specs.Sets.{Processors}
use Rattle.processor.specs.declared.line.Line.{Line}
use Rattle.processor.specs.declared.line.Line.TheVariants.{Invalid, Shared, Exclusive}
use Rattle.std.proofs.lemmas.List.{get_or_past}
use Rattle.std.proofs.lemmas.Bool.{cases_eq, not-true, or_parts}
use Rattle.coherence.proofs.Blocks.{Block, pending}
use Rattle.coherence.proofs.Counting.{indicator, indicator_most}
use Rattle.coherence.proofs.Tokens.{Tokens, shared, owned, held, gathering, holder, awaited, exclusive}

pub copies_add : (l : Line) → held l ≡ shared l + owned l
copies_add Invalid = refl
copies_add (Shared ws) = refl
copies_add (Exclusive ws) = refl

pub held_most : (l : Line) → held l ≤ 1
held_most Invalid = omega arith
held_most (Shared ws) = omega arith
held_most (Exclusive ws) = omega arith

-- an empty set has no member
pub empty_has : (s : Processors) → length s.at ≡ 4 → is_empty s ≡ true → (q : ℕ) → has s q ≡ false
empty_has s four none q =
    let all = or_parts (has s 0) _ (not-true _ none) in
    let three = or_parts (has s 1) _ all.1 in
    let two = or_parts (has s 2) (has s 3) three.1 in
    go q refl all.0 three.0 two.0 two.1
  where
    go : (p : ℕ) → p ≡ q → has s 0 ≡ false → has s 1 ≡ false → has s 2 ≡ false → has s 3 ≡ false → has s q ≡ false
    go zero is h0 h1 h2 h3 = ap (has s) (sym is) ∙ h0
    go (suc zero) is h0 h1 h2 h3 = ap (has s) (sym is) ∙ h1
    go (suc (suc zero)) is h0 h1 h2 h3 = ap (has s) (sym is) ∙ h2
    go (suc (suc (suc zero))) is h0 h1 h2 h3 = ap (has s) (sym is) ∙ h3
    go (suc (suc (suc (suc p)))) is h0 h1 h2 h3 = get_or_past s.at q false (omega arith)

module _ (x : Block) (t : Tokens x) where
  module _ (p : ℕ) (is : owned (x.line p) ≡ 1) where
    owner_holds : (exclusive x.home ≡ 1) × (holder x.home p ≡ 1)
    owner_holds = grind (arith, nat_tests)

    others_hold_none : (q : ℕ) → (p ≡ q → ⊥) → holder x.home q ≡ 0
    others_hold_none q apart = grind (arith, nat_tests)

    pub sole : (q : ℕ) → (p ≡ q → ⊥) → held (x.line q) ≡ 0
    sole q apart = grind (arith, nat_tests)

    no_copy_comes : (q : ℕ) → pending x.messages 14 q ≡ 0
    no_copy_comes q = ⊎_elim here there (cases_eq p q)
      where
        here : p ≡ q → pending x.messages 14 q ≡ 0
        here same =
            let mine : owned (x.line q) ≡ 1 = ap (λ n. owned (x.line n)) (sym same) ∙ is in
            let copy = (t.copies q).copy in
            let sum = copies_add (x.line q) in
            omega (arith, indicator_most)

        there : (p ≡ q → ⊥) → pending x.messages 14 q ≡ 0
        there apart =
            let none = others_hold_none q apart in
            let copy = (t.copies q).copy in
            omega arith

    no_words_back : (q : ℕ) → pending x.messages 41 q ≡ 0
    no_words_back q = ⊎_elim here there (cases_eq p q)
      where
        here : p ≡ q → pending x.messages 41 q ≡ 0
        here same =
            let mine : owned (x.line q) ≡ 1 = ap (λ n. owned (x.line n)) (sym same) ∙ is in
            let up = (t.copies q).given_up in
            omega arith

        there : (p ≡ q → ⊥) → pending x.messages 41 q ≡ 0
        there apart =
            let none = others_hold_none q apart in
            let waits = (t.gathered q).waits in
            let holds = (t.gathered q).holds in
            omega arith

    -- while p owns the block, no S-DATA, no X-DATA and no marked ACK waits
    pub no_data : (q : ℕ) → (pending x.messages 13 q ≡ 0) × (pending x.messages 14 q ≡ 0) × (pending x.messages 41 q ≡ 0)
    no_data q =
        let mine = owner_holds in
        let sharing = (t.copies q).sharing in
        (omega arith, no_copy_comes q, no_words_back q)

  none_awaited : is_empty (round_of x.home.directory).awaited ≡ true → (q : ℕ) → awaited x.home q ≡ 0
  none_awaited heard q = ap indicator (empty_has (round_of x.home.directory).awaited t.awaited_four heard q)

  -- where nobody is awaited, no INV, DOWN or ACK waits
  pub none_asked : is_empty (round_of x.home.directory).awaited ≡ true → (q : ℕ)
      → (pending x.messages 10 q ≡ 0) × (pending x.messages 11 q ≡ 0) × (pending x.messages 12 q ≡ 0) × (pending x.messages 41 q ≡ 0)
  none_asked heard q =
      let none = none_awaited heard q in
      let waits = (t.gathered q).waits in
      omega arith

  -- and where the home gathers so, no copy is Exclusive
  pub none_exclusive : is_empty (round_of x.home.directory).awaited ≡ true → gathering x.home ≡ 1 → exclusive x.home ≡ 0
  none_exclusive heard busy =
      let asked = t.owner_asked in
      let zeroth = none_awaited heard 0 in
      let first = none_awaited heard 1 in
      let second = none_awaited heard 2 in
      let third = none_awaited heard 3 in
      omega arith

  pub none_owned : is_empty (round_of x.home.directory).awaited ≡ true → gathering x.home ≡ 1 → (q : ℕ) → owned (x.line q) ≡ 0
  none_owned heard busy q =
      let none = none_exclusive heard busy in
      let own = (t.copies q).owner in
      omega arith
