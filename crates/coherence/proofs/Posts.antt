-- The messages and entries about one block, after a call and after a delivery: those kept of what waits, what goes and what
-- comes.
use Rattle.std.proofs.Common.{◌≡◌, ℕ, ◌+◌, ◌<◌, Bool, true, false, ◌⊎◌, List, [], ◌∷◌, ◌++◌, length, get_or, take, drop, filter, sym, refl, ap, ◌∙◌, subst, inl, inr, arith}
use Rattle.list.specs.Contents.{removed}
use Rattle.message.specs.Messages.{no_message}
use Rattle.message.specs.declared.message.Message.{Message}
use Rattle.std.proofs.lemmas.List.Elements.{filter-append}
use Rattle.std.proofs.ByRecursion.{All-append, all-has, all_has_itself, All-weaker, has_append_left, has_append_right}
use Rattle.std.proofs.lemmas.List.{append-nil, at_drop_more, take-append-drop}
use Rattle.std.specs.List.{ContainsAt as Has, AllByRecursion as All}
use Rattle.coherence.proofs.Blocks.{Posted}
use Rattle.coherence.proofs.Counting.{count_append}

-- gone stands between two parts that stay
posted_between : (front gone back come : List (Message ℕ)) → Posted (front ++ (gone ++ back)) gone come ((front ++ back) ++ come)
posted_between front gone back come = record {
  counts = λ f.
      let a = count_append f front (gone ++ back) in
      let b = count_append f gone back in
      let c = count_append f (front ++ back) come in
      let d = count_append f front back in
      omega arith;
  known = λ m. all-has Known ((front ++ back) ++ come) m all;
  waited = λ m has. has_append_right front (gone ++ back) m (has_append_left gone back m has);
}
  where
    Known : Message ℕ → Type 0
    Known m = Has (front ++ (gone ++ back)) m ⊎ Has come m

    all : All Known ((front ++ back) ++ come)
    all =
        All-append Known (front ++ back) come
        (All-append Known front back
        (All-weaker (Has front) Known (λ m has. inl (has_append_left front (gone ++ back) m has)) front (all_has_itself front))
        (All-weaker (Has back) Known (λ m has. inl (has_append_right front (gone ++ back) m (has_append_right gone back m has))) back (all_has_itself back)))
        (All-weaker (Has come) Known (λ m has. inr has) come (all_has_itself come))

module _ {X : Type 0} (t : X → Bool) where
  -- what is kept of the element at a place and of those around it
  pub kept_split : (xs : List X) (i : ℕ) (d : X) → i < length xs
      → filter t xs ≡ filter t (take i xs) ++ (filter t (get_or xs i d ∷ []) ++ filter t (drop (i + 1) xs))
  kept_split xs i d within =
      ap (filter t) (sym (take-append-drop i xs)) ∙ filter-append t (take i xs) (drop i xs)
      ∙ ap (λ (ys : List X). filter t (take i xs) ++ ys) (at_drop_more (filter t) xs i d within ∙ filter-append t (get_or xs i d ∷ []) (drop (i + 1) xs))

  pub kept_removed : (xs ys : List X) (i : ℕ) → filter t (removed xs i ++ ys) ≡ (filter t (take i xs) ++ filter t (drop (i + 1) xs)) ++ filter t ys
  kept_removed xs ys i =
      filter-append t (removed xs i) ys ∙ ap (λ (zs : List X). zs ++ filter t ys) (filter-append t (take i xs) (drop (i + 1) xs))

  pub kept_one : (x : X) → t x ≡ true → filter t (x ∷ []) ≡ x ∷ []
  kept_one x is = rw is refl

  pub kept_not : (x : X) → t x ≡ false → filter t (x ∷ []) ≡ []
  kept_not x is = rw is refl

  pub kept_none : (xs : List X) → All (λ x. t x ≡ false) xs → filter t xs ≡ []
  kept_none [] none = refl
  kept_none (x ∷ xs) none = rw none.0 (kept_none xs none.1)

  pub kept_all : (xs : List X) → All (λ x. t x ≡ true) xs → filter t xs ≡ xs
  kept_all [] all = refl
  kept_all (x ∷ xs) all = rw all.0 (ap (λ (ys : List X). x ∷ ys) (kept_all xs all.1))

  -- nothing that is kept goes or comes
  pub kept_still : (xs ys : List X) (i : ℕ) (d : X) → i < length xs → t (get_or xs i d) ≡ false → filter t ys ≡ [] → filter t (removed xs i ++ ys) ≡ filter t xs
  kept_still xs ys i d within other none =
      kept_removed xs ys i ∙ ap (λ (zs : List X). (filter t (take i xs) ++ filter t (drop (i + 1) xs)) ++ zs) none
      ∙ append-nil (filter t (take i xs) ++ filter t (drop (i + 1) xs))
      ∙ ap (λ (zs : List X). filter t (take i xs) ++ (zs ++ filter t (drop (i + 1) xs))) (sym (kept_not (get_or xs i d) other))
      ∙ sym (kept_split xs i d within)

  pub kept_added : (xs ys : List X) → filter t ys ≡ [] → filter t (xs ++ ys) ≡ filter t xs
  kept_added xs ys none = filter-append t xs ys ∙ ap (λ (zs : List X). filter t xs ++ zs) none ∙ append-nil (filter t xs)

module _ (t : Message ℕ → Bool) (ms ns : List (Message ℕ)) where
  -- a call: nothing goes
  pub posted_call : Posted (filter t ms) [] (filter t ns) (filter t (ms ++ ns))
  posted_call =
      let P : List (Message ℕ) → List (Message ℕ) → Type 0 = λ before now. Posted before [] (filter t ns) now in
      let whole : P ([] ++ ([] ++ filter t ms)) (([] ++ filter t ms) ++ filter t ns) = posted_between [] [] (filter t ms) (filter t ns) in
      subst (λ (now : List (Message ℕ)). P (filter t ms) now) (sym (filter-append t ms ns)) whole

  -- a delivery: the message at place i goes
  pub posted_delivery : (i : ℕ) → i < length ms → Posted (filter t ms) (filter t (get_or ms i no_message ∷ [])) (filter t ns) (filter t (removed ms i ++ ns))
  posted_delivery i within =
      let gone = filter t (get_or ms i no_message ∷ []) in
      let whole = posted_between (filter t (take i ms)) gone (filter t (drop (i + 1) ms)) (filter t ns) in
      let half : Posted (filter t ms) gone (filter t ns) ((filter t (take i ms) ++ filter t (drop (i + 1) ms)) ++ filter t ns) =
      subst (λ (before : List (Message ℕ)). Posted before gone (filter t ns) ((filter t (take i ms) ++ filter t (drop (i + 1) ms)) ++ filter t ns)) (sym (kept_split t ms i no_message within)) whole in
      subst (λ (now : List (Message ℕ)). Posted (filter t ms) gone (filter t ns) now) (sym (kept_removed t ms ns i)) half
