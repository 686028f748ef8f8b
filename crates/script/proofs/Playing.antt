-- The outcomes of a script: that of its first line, then those of the later ones.
use Rattle.std.proofs.Common.{◌≡◌, ℕ, List, [], ◌∷◌, ◌++◌, Option, Result, refl, ap, ◌∙◌}
use Rattle.coherence.specs.Makings.{Making, make}
use Rattle.coherence.specs.Worlds.{World}
use Rattle.device.specs.Meaning.{Meaning}
use Rattle.list.specs.Contents.{pushed}
use Rattle.script.specs.Lines.{Text}
use Rattle.script.specs.Scripts.{first_line, first_outcome, later, noted, outcomes_of, script_outcomes}
use Rattle.script.specs.declared.fault.ScriptFault.{ScriptFault}
use Rattle.script.specs.declared.line.Opening.{Opening}
use Rattle.script.specs.declared.outcome.Outcome.{Outcome}

noted_both : (room : ℕ) (os xs ys : List Outcome) → noted room (noted room os xs) ys ≡ noted room os (xs ++ ys)
noted_both room os [] ys = refl
noted_both room os (x ∷ xs) ys = noted_both room (pushed os room x) xs ys

-- A board is made of what was asked for.
pub made_as : {A B : Type 0} (ma : Meaning A) (mb : Meaning B) (k : Opening → Making A B) (o p : Opening) (w : World A B) → w ≡ make ma mb (k o) → o ≡ p → w ≡ make ma mb (k p)
made_as ma mb k o p w is same = is ∙ ap (λ (x : Opening). make ma mb (k x)) same

module _ {A B : Type 0} (ma : Meaning A) (mb : Meaning B) (w v : World A B) (made : w ≡ v) (ls rest : List Text) (left : rest ≡ later ls)
    (o : Option (Result Opening ScriptFault)) (first : o ≡ first_line ls) where
  pub all_noted : (room same : ℕ) (os some all : List Outcome) → same ≡ room → some ≡ noted room os (first_outcome w.fit o)
      → all ≡ noted same some (outcomes_of ma mb w rest) → all ≡ noted room os (script_outcomes ma mb v ls)
  all_noted room same os some all is one more =
      more
      ∙ rw (is, one, first, left) (noted_both room os (first_outcome w.fit (first_line ls)) (outcomes_of ma mb w (later ls)))
      ∙ ap (λ (u : World A B). noted room os (script_outcomes ma mb u ls)) made
