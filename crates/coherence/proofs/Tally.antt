-- How many of the waiting messages are of a class, by who sent them to whom; and how many a home's questions are.
use Rattle.std.proofs.Common.{◌≡◌, ℕ, zero, suc, ◌+◌, ◌<◌, ◌≤◌, Bool, true, false, cond, ◌&&◌, eqb, List, [], ◌∷◌, length, get_or, Some, None, Option, sym, refl, ap, ◌∙◌, ⊎_elim, arith}
use Rattle.home.specs.Reactions.{ask_one, asks}
use Rattle.home.specs.Sets.{has}
use Rattle.home.specs.Sets.{Processors}
use Rattle.list.specs.Contents.{removed}
use Rattle.message.specs.Messages.{no_message, plain}
use Rattle.message.specs.Nodes.{home_node}
use Rattle.message.specs.Reactions.{gathered, sent}
use Rattle.message.specs.declared.kind.Kind.{Kind}
use Rattle.message.specs.declared.message.Message.{Message}
use Rattle.std.proofs.lemmas.List.{get_or_past}
use Rattle.std.proofs.lemmas.Bool.{and_right, cases_lt, eq-eqb, ne_eqb}
use Rattle.coherence.proofs.Classes.{class_of}
use Rattle.coherence.proofs.Counting.{indicator, count, count_none, count_cons, count_removed}

-- one place of an outbox, full where t holds
count_gathered : (f : Message ℕ → Bool) (t : Bool) (m : Message ℕ) (os : List (Option (Message ℕ)))
    → count f (gathered (cond t (Some m) None ∷ os)) ≡ indicator (t && f m) + count f (gathered os)
count_gathered f true m os = count_cons f m (gathered os)
count_gathered f false m os = omega arith

turned : (t g : Bool) → indicator (t && (g && true)) ≡ indicator (g && t)
turned true true = refl
turned true false = refl
turned false true = refl
turned false false = refl

-- A home's INV or DOWN to each of a set: where a test takes g and the receiver q, it takes the one to q.
module _ (k : Kind) (b : ℕ) (set : Processors) (f : Message ℕ → Bool) (g : Bool) (q : ℕ)
    (takes : (p : ℕ) → f (plain k (home_node b) p b) ≡ (g && eqb p q)) where
  abbrev taken : ℕ → ℕ
  taken p = indicator (has set p && f (plain k (home_node b) p b))

  sum_taken : count f (sent (asks k b set)) ≡ taken 0 + (taken 1 + (taken 2 + taken 3))
  sum_taken =
      let one = λ (p : ℕ) (os : List (Option (Message ℕ))). count_gathered f (has set p) (plain k (home_node b) p b) os in
      let none = count_none f in
      let third = one 3 [] in
      let second = one 2 (ask_one k b set 3 ∷ []) in
      let first = one 1 (ask_one k b set 2 ∷ (ask_one k b set 3 ∷ [])) in
      let whole = one 0 (ask_one k b set 1 ∷ (ask_one k b set 2 ∷ (ask_one k b set 3 ∷ []))) in
      omega arith

  other : (p : ℕ) → (p ≡ q → ⊥) → taken p ≡ 0
  other p apart = ap indicator (and_right (has set p) _ (takes p ∙ and_right g (eqb p q) (ne_eqb p q apart)))

  same : (p : ℕ) → p ≡ q → taken p ≡ indicator (g && has set q)
  same p is =
      ap (λ e. indicator (has set p && e)) (takes p ∙ ap (λ e. g && e) (eq-eqb p q is))
      ∙ turned (has set p) g ∙ ap (λ n. indicator (g && has set n)) is

  asks_one : q < 4 → count f (sent (asks k b set)) ≡ indicator (g && has set q)
  asks_one small = go q refl
    where
      go : (p : ℕ) → p ≡ q → count f (sent (asks k b set)) ≡ indicator (g && has set q)
      go zero is = omega (arith, sum_taken, same, other)
      go (suc zero) is = omega (arith, sum_taken, same, other)
      go (suc (suc zero)) is = omega (arith, sum_taken, same, other)
      go (suc (suc (suc zero))) is = omega (arith, sum_taken, same, other)
      go (suc (suc (suc (suc p)))) is = absurd (omega arith)

  asks_none : 4 ≤ q → count f (sent (asks k b set)) ≡ 0
  asks_none large = omega (arith, sum_taken, other)

  -- a set of four bits has no member past them
  pub asks_all : length set.at ≡ 4 → count f (sent (asks k b set)) ≡ indicator (g && has set q)
  asks_all four =
      ⊎_elim asks_one
      (λ large. asks_none large ∙ sym (ap indicator (and_right g (has set q) (get_or_past set.at q false (omega arith)))))
      (cases_lt q 4)

-- how many of class c go from s to r, whatever place they are about
abbrev pub crosses : ℕ → ℕ → ℕ → Message ℕ → Bool
crosses c s r m = (eqb (class_of m) c && eqb m.sender s) && eqb m.receiver r

pub traffic : List (Message ℕ) → ℕ → ℕ → ℕ → ℕ
traffic ms c s r = count (crosses c s r) ms

pub traffic_counts : (ms : List (Message ℕ)) (s r c : ℕ) → traffic ms c s r ≡ count (crosses c s r) ms
unfolding traffic
traffic_counts ms s r c = refl

pub traffic_empty : (s r c : ℕ) → traffic [] c s r ≡ 0
unfolding traffic
traffic_empty s r c = count_none (crosses c s r)

pub traffic_out : (ms : List (Message ℕ)) (i : ℕ) → i < length ms → (s r c : ℕ)
    → traffic (removed ms i) c s r + indicator (crosses c s r (get_or ms i no_message)) ≡ traffic ms c s r
unfolding traffic
traffic_out ms i within s r c = count_removed (crosses c s r) ms i no_message within
