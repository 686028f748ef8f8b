-- Every read is current: where stamps rise between conflicting entries, and each read got the value of the last write
-- before it in the trail, that write is the one with the greatest stamp below the read's.
use Rattle.std.proofs.Common.{◌≡◌, ℕ, zero, suc, ◌<◌, true, false, cond, ◌&&◌, ◌⊎◌, List, [], ◌∷◌, ◌++◌, get_or, take, Some, None, Option, sym, refl, ap, ◌∙◌, subst, inl, inr, suc-le-suc, zero-le, le_of_suc-le-suc, not-suc-le-zero}
use Rattle.device.specs.Meaning.{Meaning}
use Rattle.ordering.proofs.Total.{strict_total_order}
use Rattle.ordering.specs.Operations.{is_read, is_write}
use Rattle.ordering.specs.Stamps.{below}
use Rattle.ordering.specs.declared.stamp.Stamp.{Stamp}
use Rattle.std.proofs.lemmas.Bool.{and_from, and_parts, both_ways, cases_order, cond-false, cond-true, false_from_ne_true}
use Rattle.std.proofs.lemmas.Option.{none-some, same_Some}
use Rattle.std.specs.List.{slice_get}
use Rattle.trail.proofs.Covering.{covers_own_words}
use Rattle.trail.specs.Addresses.{address_of, covers, value_at, has_word}
use Rattle.trail.specs.Sources.{Source, writes_below}
use Rattle.trail.specs.declared.address.Address.{Address}
use Rattle.trail.specs.declared.entry.Entry.{Entry}
use Rattle.coherence.proofs.Rising.{same_place, Rising, rising_at, writes_to, write_first, write_second}
use Rattle.coherence.specs.Makings.{Making}
use Rattle.coherence.specs.Promise.{Current, at_making}

-- What stands at each address after an entry, and after a whole trail.
abbrev pub after : Entry → (Address → ℕ) → Address → ℕ
after e now a = cond (writes_to a e) (value_at e a) (now a)

abbrev pub current : (Address → ℕ) → List Entry → Address → ℕ
current start [] a = start a
current start (e ∷ es) a = current (after e start) es a

pub current_push : (start : Address → ℕ) (trail : List Entry) (e : Entry) (a : Address)
    → current start (trail ++ e ∷ []) a ≡ cond (is_write e.operation && covers e a) (value_at e a) (current start trail a)
current_push start [] e a = refl
current_push start (x ∷ trail) e a = current_push (after x start) trail e a

pub current_written : (start : Address → ℕ) (trail : List Entry) (e : Entry) (a : Address)
    → writes_to a e ≡ true → current start (trail ++ e ∷ []) a ≡ value_at e a
current_written start trail e a h = current_push start trail e a ∙ cond-true (writes_to a e) (value_at e a) (current start trail a) h

pub current_kept : (start : Address → ℕ) (trail : List Entry) (e : Entry) (a : Address)
    → writes_to a e ≡ false → current start (trail ++ e ∷ []) a ≡ current start trail a
current_kept start trail e a h = current_push start trail e a ∙ cond-false (writes_to a e) (value_at e a) (current start trail a) h

-- A read has what stands at its addresses now.
abbrev pub Reads : (Address → ℕ) → Entry → Type 0
Reads now e = is_read e.operation ≡ true → (n : ℕ) → has_word e n ≡ true → get_or e.values.at n 0 ≡ now (address_of e n)

pub no_read : (now : Address → ℕ) (e : Entry) → is_read e.operation ≡ false → Reads now e
no_read now e h r = absurd (both_ways (is_read e.operation) h r)

abbrev pub ByOrder : (Address → ℕ) → List Entry → Type 0
ByOrder start [] = Unit {0}
ByOrder start (e ∷ es) = Reads start e × ByOrder (after e start) es

pub by_order_push : (start : Address → ℕ) (trail : List Entry) (e : Entry) → ByOrder start trail → Reads (current start trail) e
    → ByOrder start (trail ++ e ∷ [])
by_order_push start [] e by new = (new, tt)
by_order_push start (x ∷ trail) e by new = (by.0, by_order_push (after x start) trail e by.1 new)

-- the same, by place
pub by_order_at : (start : Address → ℕ) (trail : List Entry) (i : ℕ) (e : Entry) → ByOrder start trail → slice_get trail i ≡ Some e
    → Reads (current start (take i trail)) e
by_order_at start [] i e by h = absurd (none-some e h)
by_order_at start (x ∷ trail) zero e by h = subst (Reads start) (same_Some x e h) by.0
by_order_at start (x ∷ trail) (suc i) e by h = by_order_at (after x start) trail i e by.1 h

module _ (a : Address) where
  -- nothing written before place i
  unwritten : (start : Address → ℕ) (trail : List Entry) (i : ℕ)
      → ((m : ℕ) (f : Entry) → m < i → slice_get trail m ≡ Some f → writes_to a f ≡ false)
      → current start (take i trail) a ≡ start a
  unwritten start trail zero none = refl
  unwritten start [] (suc i) none = refl
  unwritten start (x ∷ trail) (suc i) none =
      unwritten (after x start) trail i (λ m f l h. none (suc m) f (suc-le-suc l) h)
      ∙ cond-false (writes_to a x) (value_at x a) (start a) (none 0 x (suc-le-suc zero-le) refl)

  -- the last write before place i is at place n
  last_written : (start : Address → ℕ) (trail : List Entry) (n i : ℕ) (w : Entry)
      → slice_get trail n ≡ Some w → n < i → writes_to a w ≡ true
      → ((m : ℕ) (f : Entry) → n < m → m < i → slice_get trail m ≡ Some f → writes_to a f ≡ false)
      → current start (take i trail) a ≡ value_at w a
  last_written start [] n i w h l is none = absurd (none-some w h)
  last_written start (x ∷ trail) n zero w h l is none = absurd (not-suc-le-zero l)
  last_written start (x ∷ trail) zero (suc i) w h l is none =
      let same : x ≡ w = same_Some x w h in
      unwritten (after x start) trail i (λ m f l k. none (suc m) f (suc-le-suc zero-le) (suc-le-suc l) k)
      ∙ cond-true (writes_to a x) (value_at x a) (start a) (ap (writes_to a) same ∙ is)
      ∙ ap (λ (f : Entry). value_at f a) same
  last_written start (x ∷ trail) (suc n) (suc i) w h l is none =
      last_written (after x start) trail n i w h (le_of_suc-le-suc l) is (λ m f k l. none (suc m) f (suc-le-suc k) (suc-le-suc l))

asymmetric : (s t : Stamp) → below s t ≡ true → below t s ≡ true → ⊥
asymmetric s t h k = both_ways (below s s) (strict_total_order.irreflexive s) (strict_total_order.transitive s t s h k)

-- The value that a source tells, or what stood there at the start.
abbrev pub from : (Address → ℕ) → Address → Option (ℕ × ℕ) → ℕ
from start a None = start a
from start a (Some x) = x.1

-- One entry of a trail that rises, and an address that it covers.
module _ (trail : List Entry) (rising : Rising trail)
    (i : ℕ) (e : Entry) (stands : slice_get trail i ≡ Some e) (a : Address) (covered : covers e a ≡ true) where
  -- a write to the address that is below the entry stands before it, and one that stands before it is below
  earlier : (m : ℕ) (f : Entry) → slice_get trail m ≡ Some f → writes_to a f ≡ true → below f.stamp e.stamp ≡ true → m < i
  earlier m f h w under = go (cases_order m i)
    where
      go : (m ≡ i) ⊎ ((m < i) ⊎ (i < m)) → m < i
      go (inl here) =
          let same : f ≡ e = same_place trail m i f e h stands here in
          let self : below f.stamp f.stamp ≡ true = ap (λ (x : Entry). below f.stamp x.stamp) same ∙ under in
          absurd (asymmetric f.stamp f.stamp self self)
      go (inr (inl l)) = l
      go (inr (inr l)) =
          let over = rising_at trail i m e f rising stands h l (write_second e f a covered w) in
          absurd (asymmetric f.stamp e.stamp under over)

  lower : (m : ℕ) (f : Entry) → slice_get trail m ≡ Some f → m < i → writes_to a f ≡ true → writes_below a e.stamp f ≡ true
  lower m f h l w = and_from (writes_to a f) _ w (rising_at trail m i f e rising h stands l (write_first f e a w covered))

  -- so the source is the last write before it
  pub current_source : (start : Address → ℕ) (s : Option (ℕ × ℕ)) → Source trail a e.stamp s
      → current start (take i trail) a ≡ from start a s
  current_source start None source = unwritten a start trail i none
    where
      none : (m : ℕ) (f : Entry) → m < i → slice_get trail m ≡ Some f → writes_to a f ≡ false
      none m f l h = false_from_ne_true (writes_to a f) (λ w. both_ways (writes_below a e.stamp f) (source m f h) (lower m f h l w))
  current_source start (Some x) source =
      last_written a start trail x.0 i w source.stands (earlier x.0 w source.stands parts.0 parts.1) parts.0 none
      ∙ sym source.value
    where
      w : Entry
      w = source.write

      parts : (writes_to a w ≡ true) × (below w.stamp e.stamp ≡ true)
      parts = and_parts (writes_to a w) (below w.stamp e.stamp) source.writes

      -- a write between the two would be above the source and below the entry
      none : (m : ℕ) (f : Entry) → x.0 < m → m < i → slice_get trail m ≡ Some f → writes_to a f ≡ false
      none m f k l h = false_from_ne_true (writes_to a f) between
        where
          between : writes_to a f ≡ true → ⊥
          between v =
              let shares = and_parts (is_write f.operation) (covers f a) v in
              let over = rising_at trail x.0 m w f rising source.stands h k (write_first w f a parts.0 shares.1) in
              both_ways (below w.stamp f.stamp) (source.greatest m f h (lower m f h l v)) over

pub reads_are_current : (start : Address → ℕ) (trail : List Entry) → Rising trail → ByOrder start trail
    → (i : ℕ) (e : Entry) (n : ℕ) (s : Option (ℕ × ℕ)) → slice_get trail i ≡ Some e
    → is_read e.operation ≡ true → has_word e n ≡ true → Source trail (address_of e n) e.stamp s
    → get_or e.values.at n 0 ≡ from start (address_of e n) s
reads_are_current start trail rising by i e n s stands read has source =
    by_order_at start trail i e by stands read n has
    ∙ current_source trail rising i e stands (address_of e n) (covers_own_words.own e n has) start s source

module _ {A B : Type 0} (ma : Meaning A) (mb : Meaning B) (k : Making A B) where
  abbrev start : Address → ℕ
  start = at_making ma mb k

  pub current_promise : (trail : List Entry) → Rising trail → ByOrder (at_making ma mb k) trail → Current ma mb k trail
  current_promise trail rising by e n None at read has source =
      reads_are_current start trail rising by at.0 e n None at.1 read has source
  current_promise trail rising by e n (Some x) at read has source =
      reads_are_current start trail rising by at.0 e n (Some x) at.1 read has source
