-- What a well-formed message is: the table's forms, then what each part of a form says.
use Rattle.std.proofs.Common.{◌≡◌, ◌≢◌, ℕ, ◌<◌, ◌≤◌, Bool, true, false, ◌||◌, eqb, ltb, Some, None, Option, refl, ⊎_elim, arith}
use Rattle.ordering.specs.Clocks.{number_end}
use Rattle.ordering.specs.declared.operation.Words.{Words}
use Rattle.std.proofs.lemmas.Bool.{and_parts, both_ways, ltb-true, eqb-true, or_cases}
use Rattle.std.proofs.lemmas.Bool.Decides.{nat_tests}
use Rattle.message.specs.Kinds.{same_kind}
use Rattle.message.specs.Checks.{has_processor, word_count, end_fits, rest_is_zero, all_are_zero, words_fit, numbers_fit, fits}
use Rattle.message.specs.Forms.{form_of}
use Rattle.message.specs.Laws.{goes_home, comes_from_home, carries_four, carries_one, carries_number, Sound, EndsAreThere, WellFormedAreSound, WellFormedHaveEnds}
use Rattle.message.specs.Nodes.{home_node}
use Rattle.message.specs.declared.figures.Figures.{Figures}
use Rattle.message.specs.declared.form.End.{End}
use Rattle.message.specs.declared.form.End.TheVariants.{Home, Owner, Target}
use Rattle.message.specs.declared.form.Fill.{Fill}
use Rattle.message.specs.declared.form.Fill.TheVariants.{Zero, One, Four, Marked}
use Rattle.message.specs.declared.form.Form.{Form}
use Rattle.message.specs.declared.form.Numbers.{Numbers}
use Rattle.message.specs.declared.form.Numbers.TheVariants as numbers
use Rattle.message.specs.declared.kind.Kind.{Kind}
use Rattle.message.specs.declared.kind.Kind.TheVariants.{Rio, Wio, Int, Ack, Value}
use Rattle.message.specs.declared.message.Message.{Message}

record Right (k : Kind) (o : Form) : Type 0 where
  receiver : goes_home k ≡ true → o.receiver ≡ Home
  sender : comes_from_home k ≡ true → o.sender ≡ Home
  mark : o.words ≡ Marked → k ≡ Ack
  wordless : (carries_four k || carries_one k) ≡ false → o.words ≡ Zero
  one_word : carries_one k ≡ true → o.words ≡ One
  numberless : carries_number k ≡ false → o.numbers ≢ numbers.ClockAndSequence
  acknowledges : k ≡ Ack → o.words ≡ Marked

record Reaching (k : Kind) (o : Form) : Type 0 where
  asked : (same_kind k Rio || same_kind k Wio) ≡ true → o.receiver ≡ Owner
  value : same_kind k Value ≡ true → o.sender ≡ Owner
  interrupted : same_kind k Int ≡ true → o.receiver ≡ Target

form_reaches : (k : Kind) (x : Option Kind) (o : Form) → form_of k x ≡ Some o → Reaching k o
form_reaches k x o e = record {
  asked = λ h. grind (arith, nat_tests);
  value = λ h. grind (arith, nat_tests);
  interrupted = λ h. grind (arith, nat_tests);
}

form_right : (k : Kind) (x : Option Kind) (o : Form) → form_of k x ≡ Some o → Right k o
form_right k x o e = record {
  receiver = λ h. grind (arith, nat_tests);
  sender = λ h. grind (arith, nat_tests);
  mark = λ h. grind (arith, nat_tests);
  wordless = λ h. grind (arith, nat_tests);
  one_word = λ h. grind (arith, nat_tests);
  numberless = λ h. grind (arith, nat_tests);
  acknowledges = λ h. grind (arith, nat_tests);
}

home_end : (f : Figures) (e : End) (n p : ℕ) → e ≡ Home → end_fits f e n p ≡ true → (n ≡ home_node p) × (p < 16)
home_end f e n p q h =
    let a = and_parts (ltb p 16) (eqb n (home_node p)) (rw q at h) in
    (eqb-true n (home_node p) a.1, ltb-true p 16 a.0)

within : (n : Numbers) (c s : ℕ) → numbers_fit n c s ≡ true → (c ≤ number_end) × (s ≤ number_end)
within numbers.Zero c s h = grind (arith, nat_tests)
within numbers.Clock c s h = grind (arith, nat_tests)
within numbers.ClockAndSequence c s h = grind (arith, nat_tests)

unnumbered : (n : Numbers) (c s : ℕ) → numbers_fit n c s ≡ true → n ≢ numbers.ClockAndSequence → s ≡ 0
unnumbered numbers.Zero c s h other = grind (arith, nat_tests)
unnumbered numbers.Clock c s h other = grind (arith, nat_tests)
unnumbered numbers.ClockAndSequence c s h other = absurd (other refl)

empty : (o : Fill) (mark : Bool) (w : Words) → o ≡ Zero → words_fit o mark w ≡ true → all_are_zero w ≡ true
empty o mark w e h = let a = and_parts _ _ (rw e at h) in a.1

one : (o : Fill) (mark : Bool) (w : Words) → o ≡ One → words_fit o mark w ≡ true → rest_is_zero w ≡ true
one o mark w e h = let a = and_parts _ _ (rw e at h) in a.1

bare : (o : Fill) (mark : Bool) (w : Words) → o ≡ Marked → words_fit o mark w ≡ true → mark ≡ false → all_are_zero w ≡ true
bare o mark w e h n = let a : (mark || all_are_zero w) ≡ true = rw e at h in ⊎_elim (λ t. absurd (both_ways mark n t)) (λ t. t) (or_cases mark (all_are_zero w) a)

marked : (o : Fill) (mark : Bool) (w : Words) → words_fit o mark w ≡ true → mark ≡ true → o ≡ Marked
marked Zero mark w h m = grind (arith, nat_tests)
marked One mark w h m = grind (arith, nat_tests)
marked Four mark w h m = grind (arith, nat_tests)
marked Marked mark w h m = refl

sound_at : (f : Figures) (m : Message ℕ) (x : Option Form) → form_of m.kind m.refused ≡ x
    → elim x [ None ↦ false | Some o ↦ fits f o m ] ≡ true → Sound m
sound_at f m None e h = absurd (cc)
sound_at f m (Some o) e h =
    let r = form_right m.kind m.refused o e in
    let a = and_parts _ _ h in
    let b = and_parts _ _ a.1 in
    let c = and_parts _ _ b.1 in
    let n = within o.numbers m.clock m.sequence c.1 in
    let to : goes_home m.kind ≡ true → (m.receiver ≡ home_node m.place) × (m.place < 16) =
    λ g. home_end f o.receiver m.receiver m.place (r.receiver g) b.0 in
    let from : comes_from_home m.kind ≡ true → (m.sender ≡ home_node m.place) × (m.place < 16) =
    λ g. home_end f o.sender m.sender m.place (r.sender g) a.0 in
    record {
      clock = n.0;
      sequence = n.1;
      mark = λ g. r.mark (marked o.words m.exclusive m.words c.0 g);
      receiver = λ g. (to g).0;
      sender = λ g. (from g).0;
      wordless = λ g. empty o.words m.exclusive m.words (r.wordless g) c.0;
      one_word = λ g. one o.words m.exclusive m.words (r.one_word g) c.0;
      numberless = λ g. unnumbered o.numbers m.clock m.sequence c.1 (r.numberless g);
      unmarked = λ g n. bare o.words m.exclusive m.words (r.acknowledges g) c.0 n;
      block = λ g. ⊎_elim (λ t. (to t).1) (λ t. (from t).1) (or_cases (goes_home m.kind) (comes_from_home m.kind) g);
    }

pub well_formed_are_sound : WellFormedAreSound
well_formed_are_sound f m h = sound_at f m (form_of m.kind m.refused) refl h

owner_end : (f : Figures) (e : End) (n p : ℕ) → e ≡ Owner → end_fits f e n p ≡ true → p < word_count f n
owner_end f e n p q h = ltb-true p (word_count f n) (rw q at h)

target_end : (f : Figures) (e : End) (n p : ℕ) → e ≡ Target → end_fits f e n p ≡ true → (n ≡ p) × (has_processor f n ≡ true)
target_end f e n p q h = let a = and_parts (has_processor f n) (eqb n p) (rw q at h) in (eqb-true n p a.1, a.0)

ends_at : (f : Figures) (m : Message ℕ) (x : Option Form) → form_of m.kind m.refused ≡ x
    → elim x [ None ↦ false | Some o ↦ fits f o m ] ≡ true → EndsAreThere f m
ends_at f m None e h = absurd (cc)
ends_at f m (Some o) e h =
    let r = form_reaches m.kind m.refused o e in
    let a = and_parts _ _ h in
    let b = and_parts _ _ a.1 in
    record {
      asked = λ g. owner_end f o.receiver m.receiver m.place (r.asked g) b.0;
      value = λ g. owner_end f o.sender m.sender m.place (r.value g) a.0;
      interrupted = λ g. target_end f o.receiver m.receiver m.place (r.interrupted g) b.0;
    }

pub well_formed_have_ends : WellFormedHaveEnds
well_formed_have_ends f m h = ends_at f m (form_of m.kind m.refused) refl h
