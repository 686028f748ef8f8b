-- The figures of a board stay: no call adds a processor, and no device gains or loses a word.
use Rattle.std.proofs.Common.{◌≡◌, ℕ, List, [], ◌∷◌, length, Some, None, Option, sym, refl, ap, ◌∙◌, subst, length-set}
use Rattle.bridge.proofs.Writing.{only_stores_write}
use Rattle.bridge.specs.Inputs as bridge
use Rattle.bridge.specs.Laws.{rewritten}
use Rattle.bridge.specs.declared.state.Bridge.{Bridge}
use Rattle.device.specs.Meaning.{Meaning, Laws}
use Rattle.message.specs.declared.message.Message.{Message}
use Rattle.message.specs.declared.reaction.Reaction.{Reaction}
use Rattle.ordering.specs.Operations.{is}
use Rattle.ordering.specs.Words.{first_word}
use Rattle.ordering.specs.declared.operation.Operation.TheVariants as operation
use Rattle.std.proofs.lemmas.Bool.{cond_both}
use Rattle.trail.specs.declared.entry.Entry.{Entry}
use Rattle.coherence.proofs.Arising.{Arises, at_processor, at_home, at_first, at_second}
use Rattle.coherence.proofs.Stepping.{after}
use Rattle.coherence.specs.Steps.{Effect, figures}
use Rattle.coherence.specs.Worlds.{World}

rewritten_length : (ws : List ℕ) (o : Option Entry) → length (rewritten ws o) ≡ length ws
rewritten_length ws None = refl
rewritten_length ws (Some e) =
    let P : List ℕ → Type 0 = λ l. length l ≡ length ws in
    cond_both (is operation.StIo e.operation) _ ws P (λ _. length-set ws e.place (first_word e.values)) (λ _. refl)

-- every reaction leaves the number of a device's words
pub words_stay_many : {S : Type 0} (m : Meaning S) → Laws m → (d : ℕ) (b : Bridge S ℕ) (i : bridge.Input) (r : Reaction (Bridge S ℕ)) → bridge.reaction m d b i ≡ Some r
    → length (m.words r.next.device) ≡ length (m.words b.device)
words_stay_many m l d b i r h = ap (λ (ws : List ℕ). length ws) ((only_stores_write m l).words b d i r h) ∙ rewritten_length (m.words b.device) r.entry

module _ {A B : Type 0} (ma : Meaning A) (mb : Meaning B) (la : Laws ma) (lb : Laws mb) where
  pub figures_kept : (w : World A B) (ms : List (Message ℕ)) (e : Effect A B) → Arises ma mb w e → figures ma mb (after w ms e) ≡ figures ma mb w
  figures_kept w ms e (at_processor p small i r h is) =
      subst (λ (x : Effect A B). figures ma mb (after w ms x) ≡ figures ma mb w) (sym is) refl
  figures_kept w ms e (at_home b small m r h is) =
      subst (λ (x : Effect A B). figures ma mb (after w ms x) ≡ figures ma mb w) (sym is) refl
  figures_kept w ms e (at_first i r h is) =
      subst (λ (x : Effect A B). figures ma mb (after w ms x) ≡ figures ma mb w) (sym is)
      (ap (λ (n : ℕ). record { processors = w.count; counts = n ∷ (length (mb.words w.second.device) ∷ []) }) (words_stay_many ma la 0 w.first i r h))
  figures_kept w ms e (at_second i r h is) =
      subst (λ (x : Effect A B). figures ma mb (after w ms x) ≡ figures ma mb w) (sym is)
      (ap (λ (n : ℕ). record { processors = w.count; counts = length (ma.words w.first.device) ∷ (n ∷ []) }) (words_stay_many mb lb 1 w.second i r h))
