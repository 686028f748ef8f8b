-- What stands at a word of a block is told by the entries on that block alone.
use Rattle.std.proofs.Common.{◌≡◌, ℕ, ◌/◌, Bool, true, false, cond, eqb, ◌⊎◌, List, [], ◌∷◌, filter, sym, refl, ap, ◌∙◌, inl, inr}
use Rattle.ordering.specs.Operations.{is_block, is_write}
use Rattle.std.proofs.lemmas.Bool.{and_from, and_parts, and_right, both_ways, cases_Bool, cond-false, eq-eqb, eqb-true}
use Rattle.trail.specs.Addresses.{covers, value_at}
use Rattle.trail.specs.declared.address.Address.{Address}
use Rattle.trail.specs.declared.entry.Entry.{Entry}
use Rattle.coherence.proofs.Blocks.{on}
use Rattle.coherence.proofs.Reading.{after, current}
use Rattle.coherence.proofs.Rising.{writes_to}

-- it depends on what stood there at the start, and nowhere else
current_same : (start other : Address → ℕ) (trail : List Entry) (a : Address) → start a ≡ other a → current start trail a ≡ current other trail a
current_same start other [] a same = same
current_same start other (e ∷ es) a same = current_same (after e start) (after e other) es a (ap (λ (n : ℕ). cond (writes_to a e) (value_at e a) n) same)

module _ (b : ℕ) (a : Address) (memory : a.space ≡ 0) (word : a.word / 4 ≡ b) where
  -- an entry that covers the word is on the block
  pub covers_on : (e : Entry) → covers e a ≡ true → on b e ≡ true
  covers_on e h = and_from _ _ (eq-eqb e.space 0 (eqb-true e.space a.space parts.0 ∙ memory)) (eq-eqb _ _ (place (is_block e.operation) (eqb-true _ e.place parts.1)))
    where
      parts : (eqb e.space a.space ≡ true) × (eqb (cond (is_block e.operation) (a.word / 4) a.word) e.place ≡ true)
      parts = and_parts (eqb e.space a.space) (eqb (cond (is_block e.operation) (a.word / 4) a.word) e.place) h

      place : (t : Bool) → cond t (a.word / 4) a.word ≡ e.place → cond t e.place (e.place / 4) ≡ b
      place true is = sym is ∙ word
      place false is = ap (λ (n : ℕ). n / 4) (sym is) ∙ word

  off_writes : (e : Entry) → on b e ≡ false → writes_to a e ≡ false
  off_writes e off = and_right (is_write e.operation) (covers e a) (go (cases_Bool (covers e a)))
    where
      go : (covers e a ≡ true) ⊎ (covers e a ≡ false) → covers e a ≡ false
      go (inl h) = absurd (both_ways (on b e) off (covers_on e h))
      go (inr h) = h

  pub current_about : (start : Address → ℕ) (trail : List Entry) → current start (filter (on b) trail) a ≡ current start trail a
  current_about start [] = refl
  current_about start (e ∷ es) = go (cases_Bool (on b e)) (λ other. current_about other es)
    where
      go : (on b e ≡ true) ⊎ (on b e ≡ false) → ((other : Address → ℕ) → current other (filter (on b) es) a ≡ current other es a)
          → current start (filter (on b) (e ∷ es)) a ≡ current start (e ∷ es) a
      go (inl is) rest = ap (λ (t : Bool). current start (cond t (e ∷ filter (on b) es) (filter (on b) es)) a) is ∙ rest (after e start)
      go (inr off) rest =
          ap (λ (t : Bool). current start (cond t (e ∷ filter (on b) es) (filter (on b) es)) a) off
          ∙ rest start
          ∙ current_same start (after e start) es a (sym (cond-false (writes_to a e) (value_at e a) (start a) (off_writes e off)))
