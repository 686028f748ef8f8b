-- An entry covers the addresses of its words and no others.
use Rattle.std.proofs.Common.{◌≡◌, ℕ, ◌+◌, ◌*◌, ◌/◌, ◌%◌, Bool, true, false, cond, eqb, ltb, get_or, sym, refl, ap, arith}
use Rattle.ordering.specs.Operations.{is_block}
use Rattle.std.proofs.lemmas.Bool.{and_from, and_parts, eq-eqb, eqb-true, lt-ltb, ltb-true}
use Rattle.trail.specs.Addresses.{address_of, covers, has_word, CoversOwnWords}
use Rattle.trail.specs.declared.address.Address.{Address}
use Rattle.trail.specs.declared.entry.Entry.{Entry}

-- the word that a covered address is
abbrev word_at : Bool → ℕ → ℕ
word_at block n = cond block (n % 4) 0

module _ (place : ℕ) where
  own : (block : Bool) (w : ℕ) → ltb w (cond block 4 1) ≡ true → cond block (cond block (4 * place + w) place / 4) (cond block (4 * place + w) place) ≡ place
  own true w h = let lt = ltb-true w 4 h in omega arith
  own false w h = refl

  word : (block : Bool) (w : ℕ) → ltb w (cond block 4 1) ≡ true → word_at block (cond block (4 * place + w) place) ≡ w
  word true w h = let lt = ltb-true w 4 h in omega arith
  word false w h = let lt = ltb-true w 1 h in omega arith

  few : (block : Bool) (n : ℕ) → ltb (word_at block n) (cond block 4 1) ≡ true
  few true n = lt-ltb (n % 4) 4 (omega arith)
  few false n = refl

  back : (block : Bool) (n : ℕ) → cond block (n / 4) n ≡ place → n ≡ cond block (4 * place + word_at block n) place
  back true n h = omega arith
  back false n h = h

pub covers_own_words : CoversOwnWords
covers_own_words = record {
  own = λ e w h. and_from _ _ (eq-eqb e.space e.space refl) (eq-eqb _ _ (own e.place (is_block e.operation) w h));
  valued = λ e w h. ap (λ (i : ℕ). get_or e.values.at i 0) (word e.place (is_block e.operation) w h);
  only = only;
}
  where
    only : (e : Entry) (a : Address) → covers e a ≡ true → (w : ℕ) × (has_word e w ≡ true) × (a ≡ address_of e w)
    only e a h =
        let block = is_block e.operation in
        let parts = and_parts (eqb e.space a.space) (eqb (cond block (a.word / 4) a.word) e.place) h in
        let space : a.space ≡ e.space = sym (eqb-true e.space a.space parts.0) in
        let n = back e.place block a.word (eqb-true (cond block (a.word / 4) a.word) e.place parts.1) in
        (word_at block a.word, few e.place block a.word, λ i. record { space = space i; word = n i })
