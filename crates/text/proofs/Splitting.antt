-- The lines of a text begin with the part before its first newline; lines that are written are read back.
use Rattle.std.proofs.Common.{◌≡◌, ℕ, ◌<◌, ◌==◌, ltb, true, false, cond, List, [], ◌∷◌, ◌++◌, length, drop, Some, None, Option, sym, refl, ap, ◌∙◌, arith, append_assoc, length-drop}
use Rattle.std.proofs.lemmas.Bool.Decides.{nat_tests}
use Rattle.std.proofs.lemmas.List.{append-nil, nil_from_length}
use Rattle.std.specs.List.{AllByRecursion}
use Rattle.text.specs.Parts.{before, after, left, begun, lines_of, first_part, other_parts, Whole, ended, LinesAreReadBack}

-- the bytes of a rest, none where there is none
abbrev bytes_of : Option (List ℕ) → List ℕ
bytes_of None = []
bytes_of (Some xs) = xs

opens : (x : ℕ) (xs : List ℕ) → lines_of (x ∷ xs) ≡ before 10 (x ∷ xs) ∷ lines_of (bytes_of (after 10 (x ∷ xs)))
opens x [] =
    elim (x == 10) as (λ b. cond b ([] ∷ []) ((x ∷ []) ∷ []) ≡ cond b [] (x ∷ []) ∷ lines_of (bytes_of (cond b (Some []) None))) [
      | true ↦ refl
      | false ↦ refl
    ]
opens x (y ∷ ys) =
    elim (x == 10) as (λ b. cond b ([] ∷ lines_of (y ∷ ys)) (begun x (lines_of (y ∷ ys)))
    ≡ cond b [] (x ∷ before 10 (y ∷ ys)) ∷ lines_of (bytes_of (cond b (Some (y ∷ ys)) (after 10 (y ∷ ys))))) [
      | true ↦ refl
      | false ↦ ap (begun x) (opens y ys)
    ]

module _ (bytes : List ℕ) where
  pub nothing_left : (at : ℕ) → ltb at (length bytes) ≡ false → lines_of (drop at bytes) ≡ []
  nothing_left at past = ap lines_of (nil_from_length (drop at bytes) (let n = length-drop at bytes in grind (arith, nat_tests)))

  -- what is left is what stands from the place on
  left_bytes : (at : ℕ) → bytes_of (left bytes at) ≡ drop at bytes
  left_bytes at = let none = nil_from_length (drop at bytes) in let n = length-drop at bytes in grind (arith, nat_tests)

  first_of : (xs l : List ℕ) (r : Option (List ℕ)) → 0 < length xs → first_part 10 (Some xs) ≡ Some l → r ≡ other_parts 10 (Some xs) → lines_of xs ≡ l ∷ lines_of (bytes_of r)
  first_of [] l r some is rest = absurd (omega arith)
  first_of (x ∷ xs) l r some is rest = let same : before 10 (x ∷ xs) ≡ l = cc in opens x xs ∙ ap (λ (m : List ℕ). m ∷ lines_of (bytes_of (after 10 (x ∷ xs)))) same ∙ ap (λ (o : Option (List ℕ)). l ∷ lines_of (bytes_of o)) (sym rest)

  -- the part that is read is the first line
  pub opened : (at next : ℕ) (l : List ℕ) → ltb at (length bytes) ≡ true → first_part 10 (left bytes at) ≡ Some l → left bytes next ≡ other_parts 10 (left bytes at)
      → lines_of (drop at bytes) ≡ l ∷ lines_of (drop next bytes)
  opened at next l inside part rest =
      let n = length-drop at bytes in
      let here : left bytes at ≡ Some (drop at bytes) = grind (arith, nat_tests) in
      first_of (drop at bytes) l (left bytes next) (grind (arith, nat_tests)) (rw here at part) (rw here at rest) ∙ ap (λ (xs : List ℕ). l ∷ lines_of xs) (left_bytes next)

-- a line that is ended, and one that is not
line : (l rest : List ℕ) → Whole l → lines_of (l ++ 10 ∷ rest) ≡ l ∷ lines_of rest
line [] rest whole = refl
line (x ∷ xs) rest whole = rw whole.0 (ap (begun x) (line xs rest whole.1))

last : (x : ℕ) (xs : List ℕ) → Whole (x ∷ xs) → lines_of (x ∷ xs) ≡ (x ∷ xs) ∷ []
last x [] whole = rw whole.0 refl
last x (y ∷ ys) whole = rw whole.0 (ap (begun x) (last y ys whole.1))

every : (ls : List (List ℕ)) (rest : List ℕ) → AllByRecursion Whole ls → lines_of (ended ls ++ rest) ≡ ls ++ lines_of rest
every [] rest all = refl
every (l ∷ ls) rest all =
    ap lines_of (append_assoc l (10 ∷ ended ls) rest)
    ∙ line l (ended ls ++ rest) all.0
    ∙ ap (λ (ms : List (List ℕ)). l ∷ ms) (every ls rest all.1)

pub lines_read : LinesAreReadBack
lines_read = record {
  all_ended = λ ls all. ap lines_of (sym (append-nil (ended ls))) ∙ every ls [] all ∙ append-nil ls;
  last_open = λ ls x xs all whole. every ls (x ∷ xs) all ∙ ap (λ (ms : List (List ℕ)). ls ++ ms) (last x xs whole);
}
