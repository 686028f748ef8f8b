-- The words of a device are what was written to them.
use Rattle.std.proofs.Common.{◌≡◌, ℕ, ltb, List, [], ◌∷◌, length, set, sym, refl, ap, ◌∙◌}
use Rattle.std.proofs.lemmas.List.{set_past}
use Rattle.std.proofs.lemmas.Bool.{cond_both, ltb-false}
use Rattle.device.specs.Events.{Event, reads, writes, accepts, lands, follow, after, rewritten, written, WordsAsWritten}
use Rattle.device.specs.Meaning.{Meaning, Laws}

module _ {S : Type 0} (m : Meaning S) (l : Laws m) where
  once : (s : S) (e : Event) → m.words (follow m s e) ≡ rewritten (m.words s) e
  once s (reads p) =
      cond_both (ltb p (length (m.words s))) (m.reading s p) s (λ (t : S). m.words t ≡ m.words s)
      (λ _. l.reading_words s p)
      (λ _. refl)
  once s (writes p v) =
      cond_both (ltb p (length (m.words s))) (m.writing s p v) s (λ (t : S). m.words t ≡ set (m.words s) p v)
      (λ _. l.writing_words s p v)
      (λ past. sym (set_past (m.words s) p v (ltb-false p (length (m.words s)) past)))
  once s (accepts w) = l.accepted_words s w
  once s (lands b row) = l.landed_words s b row

  all : (es : List Event) (s : S) → m.words (after m s es) ≡ written (m.words s) es
  all [] s = refl
  all (e ∷ es) s = all es (follow m s e) ∙ ap (λ (ws : List ℕ). written ws es) (once s e)

  pub words_as_written : WordsAsWritten m
  words_as_written s es = all es s
