-- A line that is written is read as what it was.
use Rattle.std.proofs.Common.{◌≡◌, ℕ, ◌<◌, ◌==◌, ◌^◌, false, cond, List, [], ◌∷◌, ◌++◌, Some, None, Option, refl, ap, ◌∙◌, sym, subst}
use Rattle.std.specs.Prelude.{decimal}
use Rattle.std.specs.Option.{option_map}
use Prim.Native.Char.{code}
use Rattle.coherence.specs.declared.call.Call.{Call}
use Rattle.coherence.specs.declared.call.Call.TheVariants.{Load, Store, Request, LdIo, StIo, Collect, GiveUp, Act, Deliver, Poll}
use Rattle.text.proofs.Spelling.{numbers_read}
use Rattle.text.specs.Numbers.{parse_number, Tabless}
use Rattle.text.specs.Parts.{before, after, first_number, other_fields}
use Rattle.text.specs.Reading.{then_number, at_end}
use Rattle.script.specs.Forms.{first_letter, then_letter, last_number, is, one, two, three, four, lettered, opening}
use Rattle.script.specs.Written.{tabbed, letter_for, numbers_of, written, Short, LinesAreReadBack}

-- what is unread once the letter is, if these numbers are to come
abbrev rest : List ℕ → Option (List ℕ)
rest [] = None
rest (n ∷ ns) = Some (decimal n ++ tabbed ns)

-- up to the next tab
before_tabs : (ns : List ℕ) → before 9 (tabbed ns) ≡ []
before_tabs [] = refl
before_tabs (n ∷ ns) = refl

after_tabs : (ns : List ℕ) → after 9 (tabbed ns) ≡ rest ns
after_tabs [] = refl
after_tabs (n ∷ ns) = refl

part : (xs : List ℕ) (ns : List ℕ) → Tabless xs → before 9 (xs ++ tabbed ns) ≡ xs
part [] ns all = before_tabs ns
part (x ∷ xs) ns all = rw all.0 (ap (λ (ys : List ℕ). x ∷ ys) (part xs ns all.1))

others : (xs : List ℕ) (ns : List ℕ) → Tabless xs → after 9 (xs ++ tabbed ns) ≡ rest ns
others [] ns all = after_tabs ns
others (x ∷ xs) ns all = rw all.0 (others xs ns all.1)

module _ (n : ℕ) (ns : List ℕ) (short : n < 2 ^ 32) where
  number : first_number (rest (n ∷ ns)) ≡ Some n
  number = ap parse_number (part (decimal n) ns (numbers_read.tabless n short)) ∙ numbers_read.value n short

  left : other_fields (rest (n ∷ ns)) ≡ rest ns
  left = others (decimal n) ns (numbers_read.tabless n short)

-- these numbers stand in the fields, and nothing more
abbrev Holds : Option (List ℕ) → List ℕ → Type 0
Holds r [] = r ≡ None
Holds r (n ∷ ns) = (first_number r ≡ Some n) × Holds (other_fields r) ns

held : (ns : List ℕ) → Short ns → Holds (rest ns) ns
held [] short = refl
held (n ∷ ns) short = (number n ns short.0, subst (λ (r : Option (List ℕ)). Holds r ns) (sym (left n ns short.0)) (held ns short.1))

module _ {A : Type 0} where
  number_then : (r : Option (List ℕ)) (n : ℕ) (k : ℕ → Option (List ℕ) → Option A) → first_number r ≡ Some n → then_number r k ≡ k n (other_fields r)
  number_then r n k is = ap (λ (o : Option ℕ). elim o [ None ↦ None | Some m ↦ k m (other_fields r) ]) is

  letter_then : (r s : Option (List ℕ)) (x : ℕ) (k : ℕ → Option (List ℕ) → Option A) → first_letter r ≡ Some x → other_fields r ≡ s → then_letter r k ≡ k x s
  letter_then r s x k is more = ap (λ (o : Option ℕ). elim o [ None ↦ None | Some c ↦ k c (other_fields r) ]) is ∙ ap (k x) more

last_read : (r : Option (List ℕ)) (a : ℕ) → Holds r (a ∷ []) → last_number r ≡ Some a
last_read r a h = number_then r a (λ n s. at_end s n) h.0 ∙ ap (λ (s : Option (List ℕ)). at_end s a) h.1

module _ {A : Type 0} where
  one_read : (r : Option (List ℕ)) (a : ℕ) (f : ℕ → A) → Holds r (a ∷ []) → one r f ≡ Some (f a)
  one_read r a f h = ap (option_map f) (last_read r a h)

  two_read : (r : Option (List ℕ)) (a b : ℕ) (f : ℕ → ℕ → A) → Holds r (a ∷ b ∷ []) → two r f ≡ Some (f a b)
  two_read r a b f h = number_then r a (λ n s. one s (f n)) h.0 ∙ one_read (other_fields r) b (f a) h.1

  three_read : (r : Option (List ℕ)) (a b c : ℕ) (f : ℕ → ℕ → ℕ → A) → Holds r (a ∷ b ∷ c ∷ []) → three r f ≡ Some (f a b c)
  three_read r a b c f h = number_then r a (λ n s. two s (f n)) h.0 ∙ two_read (other_fields r) b c (f a) h.1

  four_read : (r : Option (List ℕ)) (a b c d : ℕ) (f : ℕ → ℕ → ℕ → ℕ → A) → Holds r (a ∷ b ∷ c ∷ d ∷ []) → four r f ≡ Some (f a b c d)
  four_read r a b c d f h = number_then r a (λ n s. three s (f n)) h.0 ∙ three_read (other_fields r) b c d (f a) h.1

call_read : (c : Call) (r : Option (List ℕ)) → Holds r (numbers_of c) → lettered (code (letter_for c)) r ≡ Some c
call_read (Load p n) r h = two_read r p n Load h
call_read (Store p n v) r h = three_read r p n v Store h
call_read (Request p b k) r h = three_read r p b k Request h
call_read (LdIo p d n) r h = three_read r p d n LdIo h
call_read (StIo p d n v) r h = four_read r p d n v StIo h
call_read (Collect p d) r h = two_read r p d Collect h
call_read (GiveUp p d) r h = two_read r p d GiveUp h
call_read (Act d) r h = one_read r d Act h
call_read (Deliver i) r h = one_read r i Deliver h
call_read (Poll p) r h = one_read r p Poll h

-- the letter stands alone in its field
module _ (x : ℕ) (plain : x == 9 ≡ false) (ns : List ℕ) where
  letter : first_letter (Some (x ∷ tabbed ns)) ≡ Some x
  letter = rw (plain, before_tabs ns) refl

  after_letter : other_fields (Some (x ∷ tabbed ns)) ≡ rest ns
  after_letter = rw plain (after_tabs ns)

plain_letter : (c : Call) → code (letter_for c) == 9 ≡ false
plain_letter (Load p n) = refl
plain_letter (Store p n v) = refl
plain_letter (Request p b k) = refl
plain_letter (LdIo p d n) = refl
plain_letter (StIo p d n v) = refl
plain_letter (Collect p d) = refl
plain_letter (GiveUp p d) = refl
plain_letter (Act d) = refl
plain_letter (Deliver i) = refl
plain_letter (Poll p) = refl

pub lines_read : LinesAreReadBack
lines_read = record {
  calls = λ c short.
      let x = code (letter_for c) in
      letter_then (Some (written (letter_for c) (numbers_of c))) (rest (numbers_of c)) x lettered (letter x (plain_letter c) (numbers_of c)) (after_letter x (plain_letter c) (numbers_of c))
      ∙ call_read c (rest (numbers_of c)) (held (numbers_of c) short);
  makings = λ o ps clock.
      let ns = o.processors ∷ (o.clock ∷ []) in
      letter_then (Some (written "M" ns)) (rest ns) 77 (λ c r. cond (is c "M") (two r opening) None) (letter 77 refl ns) (after_letter 77 refl ns)
      ∙ two_read (rest ns) o.processors o.clock opening (held ns (ps, (clock, tt)));
}
