-- What a list of messages is once one is taken out, and once an outbox is emptied into it.
use Rattle.std.proofs.Common.{◌≡◌, ℕ, ◌+◌, ◌<◌, ◌≤◌, ltb, List as Seq, [], ◌∷◌, ◌++◌, length, get_or, drop, Some, None, Option, ap, ◌∙◌, subst, add-one, arith, drop-cons, lt-ltb}
use Rattle.list.specs.Contents.{pushed}
use Rattle.message.specs.Reactions.{gathered}
use Rattle.message.specs.declared.message.Message.{Message}
use Rattle.std.proofs.lemmas.List.{append_assoc, length-append}
use Rattle.std.proofs.lemmas.Bool.{cond-true}

-- xs waits, os from place i on is still to be sent, all is what will wait.
module _ (xs all : Seq (Message ℕ)) (os : Seq (Option (Message ℕ))) (i cap : ℕ) (inside : i < length os)
    (fits : length all ≤ cap) (so_far : xs ++ gathered (drop i os) ≡ all) where
  next : drop i os ≡ get_or os i None ∷ drop (i + 1) os
  next = rw (add-one, drop-cons os i None)

  pub sends_one : (m : Message ℕ) → get_or os i None ≡ Some m → pushed xs cap m ++ gathered (drop (i + 1) os) ≡ all
  sends_one m is =
      let whole = subst (λ (ys : Seq (Option (Message ℕ))). xs ++ gathered ys ≡ all) next so_far in
      let e = subst (λ (o : Option (Message ℕ)). xs ++ gathered (o ∷ drop (i + 1) os) ≡ all) is whole in
      let n = length-append xs (m ∷ gathered (drop (i + 1) os)) in
      let l = ap length e in
      let short : length xs < cap = omega arith in
      let t = cond-true (ltb (length xs) cap) (xs ++ m ∷ []) xs (lt-ltb (length xs) cap short) in
      ap (λ (ys : Seq (Message ℕ)). ys ++ gathered (drop (i + 1) os)) t
      ∙ append_assoc xs (m ∷ []) (gathered (drop (i + 1) os))
      ∙ e

  pub sends_none : get_or os i None ≡ None → xs ++ gathered (drop (i + 1) os) ≡ all
  sends_none is =
      let whole = subst (λ (ys : Seq (Option (Message ℕ))). xs ++ gathered ys ≡ all) next so_far in
      subst (λ (o : Option (Message ℕ)). xs ++ gathered (o ∷ drop (i + 1) os) ≡ all) is whole
