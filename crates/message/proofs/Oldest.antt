-- What the search for the oldest of a pair finds.
use Rattle.std.proofs.Common.{◌≡◌, ℕ, zero, suc, ◌+◌, ◌<◌, ◌≤◌, Bool, true, false, cond, List, [], ◌∷◌, length, get_or, take, Some, None, Option, sym, refl, ◌∙◌, subst, ⊎_elim, arith}
use Rattle.std.proofs.lemmas.List.{length-take-le, get_or-take}
use Rattle.std.proofs.lemmas.Option.{slice_get-get_or, slice_get_past}
use Rattle.std.proofs.lemmas.Bool.{cases_lt, cond-true}
use Rattle.message.specs.Laws.{WaitsFor, OldestGoesFirst, OthersGo}
use Rattle.message.specs.Messages.{no_message}
use Rattle.message.specs.Pairs.{is_pair, goes_alike, first_alike, older_than, oldest_of_pair}
use Rattle.message.specs.declared.message.Message.{Message}

-- At place n of ns, and at none before, stands one that goes the way of m.
record First (m : Message ℕ) (ns : List (Message ℕ)) (n : ℕ) : Type 0 where
  inside : n < length ns
  alike : goes_alike (get_or ns n no_message) m ≡ true
  none_before : (j : ℕ) → j < n → goes_alike (get_or ns j no_message) m ≡ false

first_on : (m x : Message ℕ) (xs : List (Message ℕ)) (n : ℕ) → goes_alike x m ≡ false → First m xs n → First m (x ∷ xs) (suc n)
first_on m x xs n f r = record { inside = let h = r.inside in omega arith; alike = r.alike; none_before = before }
  where
    before : (j : ℕ) → j < suc n → goes_alike (get_or (x ∷ xs) j no_message) m ≡ false
    before zero h = f
    before (suc j) h = r.none_before j (omega arith)

first_found : (m : Message ℕ) (xs : List (Message ℕ)) (i k : ℕ) → first_alike m xs i ≡ Some k → (n : ℕ) × (k ≡ i + n) × First m xs n
first_found m [] i k e = absurd (cc)
first_found m (x ∷ xs) i k e = go (goes_alike x m) refl e (λ h. first_found m xs (i + 1) k h)
  where
    go : (b : Bool) → goes_alike x m ≡ b → cond b (Some i) (first_alike m xs (i + 1)) ≡ Some k
        → (first_alike m xs (i + 1) ≡ Some k → (n : ℕ) × (k ≡ i + 1 + n) × First m xs n)
        → (n : ℕ) × (k ≡ i + n) × First m (x ∷ xs) n
    go true a h r =
        let same : i ≡ k = cc in
        (0, omega arith, record { inside = omega arith; alike = a; none_before = λ j l. absurd (omega arith) })
    go false a h r = let s = r h in (suc s.0, omega arith, first_on m x xs s.0 a s.2)

none_found : (m : Message ℕ) (xs : List (Message ℕ)) (i : ℕ) → first_alike m xs i ≡ None
    → (j : ℕ) → j < length xs → goes_alike (get_or xs j no_message) m ≡ false
none_found m [] i e j l = absurd (omega arith)
none_found m (x ∷ xs) i e j l = go (goes_alike x m) refl e (λ h. none_found m xs (i + 1) h) j l
  where
    go : (b : Bool) → goes_alike x m ≡ b → cond b (Some i) (first_alike m xs (i + 1)) ≡ None
        → (first_alike m xs (i + 1) ≡ None → (j : ℕ) → j < length xs → goes_alike (get_or xs j no_message) m ≡ false)
        → (j : ℕ) → j < length (x ∷ xs) → goes_alike (get_or (x ∷ xs) j no_message) m ≡ false
    go true a h r j l = absurd (cc)
    go false a h r zero l = a
    go false a h r (suc j) l = r h j (omega arith)

at_place : (ms : List (Message ℕ)) (p : ℕ) → p < length ms → oldest_of_pair ms p ≡ older_than ms p (get_or ms p no_message)
at_place ms p l = rw (slice_get-get_or ms p no_message l, oldest_of_pair)

past_place : (ms : List (Message ℕ)) (p : ℕ) → length ms ≤ p → oldest_of_pair ms p ≡ None
past_place ms p l = rw (slice_get_past ms p l, oldest_of_pair)

guarded : (b : Bool) (x : Option ℕ) (k : ℕ) → cond b x None ≡ Some k → (b ≡ true) × (x ≡ Some k)
guarded true x k e = (refl, e)
guarded false x k e = absurd (cc)

in_front : (ms : List (Message ℕ)) (p j : ℕ) (m : Message ℕ) (b : Bool) → j < p
    → goes_alike (get_or (take p ms) j no_message) m ≡ b → goes_alike (get_or ms j no_message) m ≡ b
in_front ms p j m b l h = rw (get_or-take p ms j no_message l) at h

waits : (ms : List (Message ℕ)) (p k : ℕ) → p < length ms → oldest_of_pair ms p ≡ Some k → WaitsFor ms p k
waits ms p k l e =
    let m = get_or ms p no_message in
    let g = guarded (is_pair m.sender m.receiver) (first_alike m (take p ms) 0) k (sym (at_place ms p l) ∙ e) in
    let s = first_found m (take p ms) 0 k g.1 in
    let f = s.2 in
    let n = length-take-le p ms (omega arith) in
    let same : s.0 ≡ k = omega arith in
    let P : ℕ → Type 0 = λ j. goes_alike (get_or ms j no_message) m ≡ true in
    let lt : s.0 < p = let i = f.inside in omega arith in
    record {
      older = omega arith;
      pair = g.0;
      alike = subst P same (in_front ms p s.0 m true lt f.alike);
      oldest = λ j h. in_front ms p j m false (omega arith) (f.none_before j (omega arith));
    }

pub oldest_goes_first : OldestGoesFirst
oldest_goes_first ms p k e =
    ⊎_elim (λ l. waits ms p k l e) (λ l. absurd (let none = past_place ms p l in cc)) (cases_lt p (length ms))

pub others_go : OthersGo
others_go ms p l e q j h =
    let m = get_or ms p no_message in
    let n = length-take-le p ms (omega arith) in
    let t = cond-true (is_pair m.sender m.receiver) (first_alike m (take p ms) 0) None q in
    in_front ms p j m false h (none_found m (take p ms) 0 (sym t ∙ (sym (at_place ms p l) ∙ e)) j (omega arith))
