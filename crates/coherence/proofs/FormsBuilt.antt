-- Well-formed messages taken apart and put together: by the form of the kind, part by part.
use Rattle.std.proofs.Common.{◌≡◌, ℕ, ◌<◌, Bool, true, false, cond, ◌&&◌, ◌||◌, eqb, ltb, leb, Some, None, Option, sym, refl, ap, ◌∙◌, subst, arith}
use Rattle.message.proofs.Soundness.{well_formed_are_sound}
use Rattle.message.specs.Checks.{has_processor, end_fits, words_fit, numbers_fit, fits, well_formed}
use Rattle.message.specs.Forms.{form_of, row, returned}
use Rattle.message.specs.Kinds.{same_kind, is_request}
use Rattle.message.specs.Laws.{comes_from_home, goes_home}
use Rattle.message.specs.Messages.{plain}
use Rattle.message.specs.Nodes.{home_node, is_device}
use Rattle.message.specs.declared.figures.Figures.{Figures}
use Rattle.message.specs.declared.form.End.TheVariants.{Home}
use Rattle.message.specs.declared.form.Form.{Form}
use Rattle.message.specs.declared.kind.Kind.{Kind}
use Rattle.message.specs.declared.kind.Kind.TheVariants as kind
use Rattle.message.specs.declared.message.Message.{Message}
use Rattle.ordering.specs.Clocks.{number_end, is_within}
use Rattle.ordering.specs.declared.clock.Clock.{Clock}
use Rattle.std.proofs.lemmas.Bool.{and_parts, and_from, both_ways, lt-ltb, eq-eqb, or_right}
use Rattle.std.proofs.lemmas.Bool.Decides.{nat_tests}

abbrev pub Well : Figures → Message ℕ → Type 0
Well f m = well_formed f m ≡ true

-- The four parts of a form.
pub record Fits (f : Figures) (o : Form) (m : Message ℕ) : Type 0 where
  pub sender : end_fits f o.sender m.sender m.place ≡ true
  pub receiver : end_fits f o.receiver m.receiver m.place ≡ true
  pub words : words_fit o.words m.exclusive m.words ≡ true
  pub numbers : numbers_fit o.numbers m.clock m.sequence ≡ true

pub fits_parts : (f : Figures) (o : Form) (m : Message ℕ) → fits f o m ≡ true → Fits f o m
fits_parts f o m h =
    let a = and_parts (end_fits f o.sender m.sender m.place) _ h in
    let b = and_parts (end_fits f o.receiver m.receiver m.place) _ a.1 in
    let c = and_parts (words_fit o.words m.exclusive m.words) _ b.1 in
    record { sender = a.0; receiver = b.0; words = c.0; numbers = c.1 }

pub fits_by : (f : Figures) (o : Form) (m : Message ℕ) → Fits f o m → fits f o m ≡ true
fits_by f o m h =
    and_from (end_fits f o.sender m.sender m.place) _ h.sender
    (and_from (end_fits f o.receiver m.receiver m.place) _ h.receiver
    (and_from (words_fit o.words m.exclusive m.words) (numbers_fit o.numbers m.clock m.sequence) h.words h.numbers))

abbrev judged : Figures → Message ℕ → Option Form → Bool
judged f m x = elim x [ None ↦ false | Some o ↦ fits f o m ]

row_judged : (f : Figures) (m : Message ℕ) (b : Bool) (o : Form) → b ≡ false → judged f m (cond b None (Some o)) ≡ true → fits f o m ≡ true
row_judged f m true o n h = absurd (both_ways true n refl)
row_judged f m false o n h = h

none_judged : (f : Figures) (m : Message ℕ) (b c : Bool) (o : Form) → b ≡ false → judged f m (cond (b && c) (Some o) None) ≡ true → ⊥
none_judged f m true c o n h = both_ways true n refl
none_judged f m false c o n h = both_ways false refl h

back_judged : (f : Figures) (m : Message ℕ) (b : Bool) (o : Form) → judged f m (cond b (Some o) None) ≡ true → (b ≡ true) × (fits f o m ≡ true)
back_judged f m true o h = (refl, h)
back_judged f m false o h = absurd (both_ways false refl h)

-- A well-formed message of a kind that is no NACK fits its row, and refuses nothing.
pub as_row : (f : Figures) (m : Message ℕ) (k : Kind) → m.kind ≡ k → same_kind k kind.Nack ≡ false → Well f m → Fits f (row k) m × (m.refused ≡ None)
as_row f m k is n h = go m.refused refl (subst (λ (j : Kind). judged f m (form_of j m.refused) ≡ true) is h)
  where
    go : (x : Option Kind) → m.refused ≡ x → judged f m (form_of k x) ≡ true → Fits f (row k) m × (m.refused ≡ None)
    go None e h = (fits_parts f (row k) m (row_judged f m (same_kind k kind.Nack) (row k) n h), e)
    go (Some r) e h = absurd (none_judged f m (same_kind k kind.Nack) (is_request r) (returned (row r)) n h)

-- A well-formed NACK gives a request back.
pub as_back : (f : Figures) (m : Message ℕ) (r : Kind) → m.kind ≡ kind.Nack → m.refused ≡ Some r → Well f m → (is_request r ≡ true) × Fits f (returned (row r)) m
as_back f m r is e h =
    let a : judged f m (form_of kind.Nack m.refused) ≡ true = subst (λ (j : Kind). judged f m (form_of j m.refused) ≡ true) is h in
    let b : judged f m (form_of kind.Nack (Some r)) ≡ true = subst (λ (x : Option Kind). judged f m (form_of kind.Nack x) ≡ true) e a in
    let c = back_judged f m (is_request r) (returned (row r)) b in
    (c.0, fits_parts f (returned (row r)) m c.1)

-- a home's end
pub home_end : (f : Figures) (b : ℕ) → b < 16 → end_fits f Home (home_node b) b ≡ true
home_end f b small = and_from (ltb b 16) (eqb (home_node b) (home_node b)) (lt-ltb b 16 small) (eq-eqb (home_node b) (home_node b) refl)

pub home_end_at : (f : Figures) (h b : ℕ) → h ≡ home_node b → b < 16 → end_fits f Home h b ≡ true
home_end_at f h b is small = subst (λ (n : ℕ). end_fits f Home n b ≡ true) (sym is) (home_end f b small)

-- clocks and sequence numbers within their end
pub global_within : (c : Clock ℕ) → is_within c ≡ true → leb c.global number_end ≡ true
global_within c h = (and_parts (leb c.global number_end) (leb c.local number_end) h).0

-- TAKEN of a requester
pub taken_well : (f : Figures) (n h b : ℕ) → (has_processor f n || is_device n) ≡ true → h ≡ home_node b → b < 16 → Well f (plain kind.Taken n h b)
taken_well f n h b own is small =
    fits_by f (row kind.Taken) (plain kind.Taken n h b) (record { sender = own; receiver = home_end_at f h b is small; words = refl; numbers = refl })

-- what comes from the home of a block, and what is given back
pub from_home : (f : Figures) (m : Message ℕ) → Well f m → (k : Kind) → m.kind ≡ k → comes_from_home k ≡ true → (m.sender ≡ home_node m.place) × (m.place < 16)
from_home f m well k is comes =
    let sound = well_formed_are_sound f m well in
    let c : comes_from_home m.kind ≡ true = ap comes_from_home is ∙ comes in
    (sound.sender c, sound.block (or_right (goes_home m.kind) (comes_from_home m.kind) c))

pub no_nack : (k : Kind) → is_request k ≡ true → same_kind k kind.Nack ≡ false
no_nack k asks = grind (arith, nat_tests)

pub refuses_requests : (f : Figures) (m : Message ℕ) → Well f m → (k : Kind) → m.refused ≡ Some k → is_request k ≡ true
refuses_requests f m well k is = grind (arith, nat_tests)
