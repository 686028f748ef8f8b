-- The move that adds an entry: of one move or two in turn, which of them it is, and what holds before it.
use Rattle.std.proofs.Common.{◌≡◌, ℕ, ◌⊎◌, List, [], ◌∷◌, ◌++◌, length, Some, None, Option, sym, refl, ap, ◌∙◌, inl, inr, arith, length-append}
use Rattle.home.specs.Reactions.{finished}
use Rattle.ordering.specs.declared.operation.Words.{Words}
use Rattle.std.proofs.lemmas.List.{append_cancel_left, append-nil}
use Rattle.std.specs.Option.{option_to_list}
use Rattle.trail.specs.declared.entry.Entry.{Entry}
use Rattle.coherence.proofs.Blocks.{Block}
use Rattle.coherence.proofs.Moves.{Finishes, Loads, Moves, Passes, Stores, once, twice, rests, loads, stores, requests, invalidates_shared, invalidates_owned, downgrades, shares, owns, betters, gives_back, lands, stored, nacked, again, refuses, asks_holders, hears, finishes, frees}

abbrev Grows : List Entry → List Entry → Type 0
Grows old new = (new ≡ old) ⊎ ((e : Entry) × (new ≡ old ++ e ∷ []))

-- What a move enters into the trail: nothing, a load, a store, or what a home that finishes does.
pub data Enters (b : ℕ) (x y : Block) : Type 0 where
  nothing : y.trail ≡ x.trail → Enters b x y
  load : (p w : ℕ) (ws : Words) (e : Entry) → Loads b x y p w ws e → Enters b x y
  store : (p w v : ℕ) (ws : Words) (e : Entry) → Stores b x y p w v ws e → Enters b x y
  finish : Finishes b x y → Enters b x y

pub enters : (b : ℕ) (x y : Block) → Moves b x y → Enters b x y
enters b x y (loads p w ws e r) = load p w ws e r
enters b x y (stores p w v ws e r) = store p w v ws e r
enters b x y (finishes r) = finish r
enters b x y (rests r) = nothing r.trail
enters b x y (requests n k m r) = nothing r.trail
enters b x y (invalidates_shared p ws m a r) = nothing r.trail
enters b x y (invalidates_owned p ws m a r) = nothing r.trail
enters b x y (downgrades p ws m a r) = nothing r.trail
enters b x y (shares p m small r) = nothing r.trail
enters b x y (owns p m small r) = nothing r.trail
enters b x y (betters p ws m small r) = nothing r.trail
enters b x y (gives_back p m small r) = nothing r.trail
enters b x y (lands n m device r) = nothing r.trail
enters b x y (stored n m device r) = nothing r.trail
enters b x y (nacked p k m is r) = nothing r.trail
enters b x y (again n k m a is r) = nothing r.trail
enters b x y (refuses n k m a is r) = nothing r.trail
enters b x y (asks_holders m t s r) = nothing r.trail
enters b x y (hears m r) = nothing r.trail
enters b x y (frees n m r) = nothing r.trail

grows : (b : ℕ) (x y : Block) → Enters b x y → Grows x.trail y.trail
grows b x y (nothing same) = inl same
grows b x y (load p w ws e r) = inr (e, r.trail)
grows b x y (store p w v ws e r) = inr (e, r.trail)
grows b x y (finish r) = go (finished x.home b).entry r.trail
  where
    go : (o : Option Entry) → y.trail ≡ x.trail ++ option_to_list o → Grows x.trail y.trail
    go None is = inl (is ∙ append-nil x.trail)
    go (Some e) is = inr (e, is)

-- the entry that was added is the last, and a trail is shorter than itself and an entry
pub last_entry : (trail : List Entry) (e f : Entry) → trail ++ e ∷ [] ≡ trail ++ f ∷ [] → e ≡ f
last_entry trail e f same = let one : e ∷ [] ≡ f ∷ [] = append_cancel_left trail (e ∷ []) (f ∷ []) same in cc

pub grown : (trail : List Entry) (e : Entry) → trail ≡ trail ++ e ∷ [] → ⊥
grown trail e is = let n = ap length is in let m = length-append trail (e ∷ []) in omega arith

pub record Adding (Good : Block → Type 0) (b : ℕ) (trail : List Entry) (e : Entry) : Type 0 where
  pub before : Block
  pub after : Block
  pub good : Good before
  pub move : Moves b before after
  pub same : before.trail ≡ trail
  pub grown : after.trail ≡ before.trail ++ e ∷ []

pub adding : (Good : Block → Type 0) (b : ℕ) (x y : Block) → Good x → ((z : Block) → Moves b x z → Good z)
    → (e : Entry) → y.trail ≡ x.trail ++ e ∷ [] → Passes b x y → Adding Good b x.trail e
adding Good b x y good keeps e is (once m) = record { before = x; after = y; good = good; move = m; same = refl; grown = is }
adding Good b x y good keeps e is (twice z m n) = go (grows b x z (enters b x z m)) (grows b z y (enters b z y n))
  where
    go : Grows x.trail z.trail → Grows z.trail y.trail → Adding Good b x.trail e
    go (inl same) next = record { before = z; after = y; good = keeps z m; move = n; same = same; grown = is ∙ ap (λ (es : List Entry). es ++ e ∷ []) (sym same) }
    go (inr (f, grown)) (inl same) = record { before = x; after = z; good = good; move = m; same = refl; grown = sym same ∙ is }
    go (inr (f, grown)) (inr (g, more)) =
        absurd (let a = ap length (sym is ∙ more) in let b = ap length grown in let c = length-append x.trail (e ∷ []) in let d = length-append x.trail (f ∷ []) in let h = length-append z.trail (g ∷ []) in omega arith)
