-- What a window shows: how many words, which, and that a lawful device below makes it lawful.
use Rattle.std.specs.Prelude.{◌≡◌, ℕ, zero, suc, ◌+◌, ◌-◌, ◌<◌, min, List, [], ◌∷◌, length, take, drop, Some, None, Option, slice_set, refl}
use Rattle.std.proofs.Common.{sym, ap, ◌∙◌, arith, length-take, length-drop, get_or-take, get_or-drop}
use Rattle.std.proofs.lemmas.List.{drop-set-add}
use Rattle.std.proofs.lemmas.Bool.Decides.{nat_tests}
use Rattle.ordering.specs.declared.operation.Words.{Words}
use Rattle.device.specs.declared.meaning.Wish.{Wish}
use Rattle.device.specs.Meaning.{Meaning, Laws}
use Rattle.device.specs.Windows.{shown, ShownAt, moved_wish, window_meaning}

pub length_shown : (first size : ℕ) (ws : List ℕ) → length (shown first size ws) ≡ min size (length ws - first)
length_shown first size ws = simp (length-take, length-drop)

pub shown_at : (first size : ℕ) (ws : List ℕ) (p : ℕ) → p < min size (length ws - first) →
    ShownAt first size ws p (first + p)
shown_at first size ws p h =
    let small : p < size = omega arith in
    record {
      place = refl;
      shown_here = rw length_shown (grind (arith, nat_tests));
      had_below = grind (arith, nat_tests);
      word = rw (get_or-take, get_or-drop);
    }

take_set : (n : ℕ) (ws : List ℕ) (p v : ℕ) → take n (slice_set ws p v) ≡ slice_set (take n ws) p v
take_set zero ws p v = refl
take_set (suc n) [] p v = refl
take_set (suc n) (w ∷ ws) zero v = refl
take_set (suc n) (w ∷ ws) (suc p) v = ap (λ (r : List ℕ). w ∷ r) (take_set n ws p v)

shown_set : (first size : ℕ) (ws : List ℕ) (p v : ℕ) →
    shown first size (slice_set ws (first + p) v) ≡ slice_set (shown first size ws) p v
shown_set first size ws p v = ap (take size) (drop-set-add first ws p v) ∙ take_set size (drop first ws) p v

-- a wish that is moved keeps its words
moved_words : (first count : ℕ) (o : Option Wish) (h : Wish) → ((x : Wish) → o ≡ Some x → length x.words.at ≡ 4)
    → moved_wish first count o ≡ Some h → length h.words.at ≡ 4
moved_words first count None h four is = four h is
moved_words first count (Some x) h four is = let same : x.words ≡ h.words = cc in ap (λ (ws : Words). length ws.at) (sym same) ∙ four x refl

pub window_laws : {S : Type 0} (m : Meaning S) → Laws m → Laws (window_meaning m)
window_laws m l = record {
  writing_words = λ w p v.
      ap (shown w.first w.size) (l.writing_words w.device (w.first + p) v)
      ∙ shown_set w.first w.size (m.words w.device) p v;
  reading_words = λ w p. ap (shown w.first w.size) (l.reading_words w.device (w.first + p));
  accepted_words = λ w v. ap (shown w.first w.size) (l.accepted_words w.device v);
  landed_words = λ w b ws. ap (shown w.first w.size) (l.landed_words w.device b ws);
  four_words = λ w h is. moved_words w.first _ (m.wish w.device) h (l.four_words w.device) is;
}
