-- The write that `latest` chooses is the greatest-stamped one below, and the first of those.
use Rattle.std.proofs.Common.{◌≡◌, ℕ, zero, suc, ◌+◌, ◌<◌, Bool, true, false, cond, List, [], ◌∷◌, Some, None, Option, sym, refl, ap, ◌∙◌, arith}
use Rattle.ordering.proofs.Total.{strict_total_order}
use Rattle.ordering.specs.Stamps.{below}
use Rattle.ordering.specs.declared.stamp.Stamp.{Stamp}
use Rattle.std.proofs.lemmas.Bool.Decides.{nat_tests}
use Rattle.std.specs.List.{slice_get}
use Rattle.queries.proofs.Choice.{falls}
use Rattle.trail.specs.Addresses.{value_at}
use Rattle.queries.specs.Search.{later, latest, found, LatestWrite}
use Rattle.queries.specs.declared.source.Candidate.{Candidate}
use Rattle.trail.specs.Sources.{writes_below, Source}
use Rattle.trail.specs.declared.address.Address.{Address}
use Rattle.trail.specs.declared.entry.Entry.{Entry}

asymmetric : (s t : Stamp) → below s t ≡ true → below t s ≡ false
asymmetric s t h = grind (arith, nat_tests)

module _ (a : Address) (s : Stamp) where
  abbrev Nowhere : List Entry → Type 0
  Nowhere es = (m : ℕ) (e : Entry) → slice_get es m ≡ Some e → writes_below a s e ≡ false

  -- such a write offers the candidate with its value and its stamp
  record Offers (write : Entry) (c : Candidate) : Type 0 where
    writes : writes_below a s write ≡ true
    value : c.value ≡ value_at write a
    stamp : c.stamp ≡ write.stamp

  -- what is chosen among entries that are numbered from n on
  record Chosen (n : ℕ) (es : List Entry) (c : Candidate) : Type 0 where
    place : ℕ
    numbered : c.entry ≡ n + place
    write : Entry
    stands : slice_get es place ≡ Some write
    offers : Offers write c
    greatest : (m : ℕ) (e : Entry) → slice_get es m ≡ Some e → writes_below a s e ≡ true
        → below write.stamp e.stamp ≡ false
    first : (m : ℕ) (e : Entry) → m < place → slice_get es m ≡ Some e → writes_below a s e ≡ true
        → below e.stamp write.stamp ≡ true

  abbrev Law : ℕ → List Entry → Option Candidate → Type 0
  Law n es None = Nowhere es
  Law n es (Some c) = Chosen n es c

  -- what is chosen among the others stays chosen behind an entry that, if it is such a write, has a lower stamp
  behind : (n : ℕ) (e : Entry) (es : List Entry) (c : Candidate) (law : Chosen (n + 1) es c)
      → ((f : Entry) → ◌≡◌ {A = Option Entry} (Some e) (Some f) → writes_below a s f ≡ true
      → (below law.write.stamp f.stamp ≡ false) × (below f.stamp law.write.stamp ≡ true))
      → Chosen n (e ∷ es) c
  behind n e es c law lower = record {
    place = suc law.place;
    numbered = omega (arith, law.numbered);
    write = law.write;
    stands = law.stands;
    offers = law.offers;
    greatest = greatest;
    first = first;
  }
    where
      greatest : (m : ℕ) (f : Entry) → slice_get (e ∷ es) m ≡ Some f → writes_below a s f ≡ true → below law.write.stamp f.stamp ≡ false
      greatest zero f h w = (lower f h w).0
      greatest (suc m) f h w = law.greatest m f h w

      first : (m : ℕ) (f : Entry) → m < suc law.place → slice_get (e ∷ es) m ≡ Some f → writes_below a s f ≡ true → below f.stamp law.write.stamp ≡ true
      first zero f l h w = (lower f h w).1
      first (suc m) f l h w = law.first m f (omega arith) h w

  -- an entry before the others that is no such write
  passed_over : (n : ℕ) (e : Entry) (es : List Entry) → writes_below a s e ≡ false → (r : Option Candidate) → Law (n + 1) es r → Law n (e ∷ es) r
  passed_over n e es no_write None law = nowhere
    where
      nowhere : Nowhere (e ∷ es)
      nowhere zero f h = cc
      nowhere (suc m) f h = law m f h
  passed_over n e es no_write (Some c) law = behind n e es c law (λ f same w. absurd (cc))

  abbrev offered : ℕ → Entry → Candidate
  offered n e = record { entry = n; value = value_at e a; stamp = e.stamp }

  -- an entry that no later one is above
  keeps : (n : ℕ) (e : Entry) (es : List Entry) → writes_below a s e ≡ true
      → ((m : ℕ) (f : Entry) → slice_get es m ≡ Some f → writes_below a s f ≡ true → below e.stamp f.stamp ≡ false) → Chosen n (e ∷ es) (offered n e)
  keeps n e es is_write above = record {
    place = 0;
    numbered = omega arith;
    write = e;
    stands = refl;
    offers = record { writes = is_write; value = refl; stamp = refl };
    greatest = greatest;
    first = λ m f l h w. absurd (omega (arith, l));
  }
    where
      greatest : (m : ℕ) (f : Entry) → slice_get (e ∷ es) m ≡ Some f → writes_below a s f ≡ true → below e.stamp f.stamp ≡ false
      greatest zero f h w = let none = strict_total_order.irreflexive e.stamp in cc
      greatest (suc m) f h w = above m f h w

  -- an entry that a later one is above
  yields : (n : ℕ) (e : Entry) (es : List Entry) (c : Candidate) → Chosen (n + 1) es c → below e.stamp c.stamp ≡ true → Chosen n (e ∷ es) c
  yields n e es c law up =
      let over : below e.stamp law.write.stamp ≡ true = ap (below e.stamp) (sym law.offers.stamp) ∙ up in
      let back = asymmetric e.stamp law.write.stamp over in
      behind n e es c law (λ f same w. (cc, cc))

  chosen_over : (n : ℕ) (e : Entry) (es : List Entry) → writes_below a s e ≡ true → (r : Option Candidate) → Law (n + 1) es r
      → Law n (e ∷ es) (later (Some (offered n e)) r)
  chosen_over n e es is_write None law = keeps n e es is_write (λ m f h w. absurd (let no = law m f h in cc))
  chosen_over n e es is_write (Some c) law = go (below e.stamp c.stamp) refl
    where
      go : (up : Bool) → below e.stamp c.stamp ≡ up → Law n (e ∷ es) (cond up (Some c) (Some (offered n e)))
      go true up = yields n e es c law up
      go false up =
          let up_to : below e.stamp law.write.stamp ≡ false = ap (below e.stamp) (sym law.offers.stamp) ∙ up in
          keeps n e es is_write (λ m f h w. falls e.stamp law.write.stamp f.stamp up_to (law.greatest m f h w))

  chosen : (n : ℕ) (es : List Entry) → Law n es (latest a s n es)
  chosen n [] = λ m e h. absurd (cc)
  chosen n (e ∷ es) = go (writes_below a s e) refl (chosen (n + 1) es)
    where
      go : (w : Bool) → writes_below a s e ≡ w → Law (n + 1) es (latest a s (n + 1) es)
          → Law n (e ∷ es) (later (cond w (Some (offered n e)) None) (latest a s (n + 1) es))
      go true w law = chosen_over n e es w (latest a s (n + 1) es) law
      go false w law = passed_over n e es w (latest a s (n + 1) es) law

pub latest_write : LatestWrite
latest_write trail a s = go (latest a s 0 trail) (chosen a s 0 trail)
  where
    go : (r : Option Candidate) → Law a s 0 trail r → Source trail a s (found r)
    go None law = law
    go (Some c) law =
        let at : law.place ≡ c.entry = omega (arith, law.numbered) in
        record {
          write = law.write;
          stands = ap (slice_get trail) (sym at) ∙ law.stands;
          writes = law.offers.writes;
          value = law.offers.value;
          greatest = law.greatest;
          first = λ m e l h w. law.first m e (omega arith) h w;
        }
