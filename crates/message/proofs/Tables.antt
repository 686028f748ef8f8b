-- What a table has at one place once a value is put at a place, which may lie past its end.
use Rattle.std.proofs.Common.{◌≡◌, ℕ, ◌⊎◌, List, length, get_or, set, sym, inl, inr, ⊎_elim, arith}
use Rattle.std.proofs.lemmas.Grind.{get_or-set_at}
use Rattle.std.proofs.lemmas.List.{get_or-set_other, get_or_past, set_past}
use Rattle.std.proofs.lemmas.Bool.{cases_lt, cases_eq}

-- The value that was put, or what stood there; past the end that is the default.
pub put_read : {X : Type 0} (xs : List X) (i j : ℕ) (x d : X)
    → ((i ≡ j) × (get_or (set xs i x) j d ≡ x)) ⊎ ((get_or (set xs i x) j d ≡ get_or xs j d) × ((i ≡ j → ⊥) ⊎ (get_or xs j d ≡ d)))
put_read xs i j x d = ⊎_elim here (λ ne. inr (get_or-set_other xs i j x d (λ e. ne (sym e)), inl ne)) (cases_eq i j)
  where
    here : i ≡ j → ((i ≡ j) × (get_or (set xs i x) j d ≡ x)) ⊎ ((get_or (set xs i x) j d ≡ get_or xs j d) × ((i ≡ j → ⊥) ⊎ (get_or xs j d ≡ d)))
    here e =
        ⊎_elim
        (λ lt. inl (e, get_or-set_at xs i j x d (sym e) lt))
        (λ le. inr (rw (set_past xs i x le), inr (get_or_past xs j d (omega arith))))
        (cases_lt i (length xs))
