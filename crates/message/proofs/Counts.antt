-- As many messages as full places.
use Rattle.std.proofs.Common.{◌≡◌, ℕ, List, [], ◌∷◌, length, is_some, Some, None, Option, suc, refl, ap, ◌∙◌, sym}
use Rattle.std.specs.List.{count_by, filter}
use Rattle.std.proofs.lemmas.List.Sums.{length-filter}
use Rattle.message.specs.Reactions.{gathered}
use Rattle.message.specs.declared.message.Message.{Message}

filtered : (os : List (Option (Message ℕ))) → length (filter is_some os) ≡ length (gathered os)
filtered [] = refl
filtered (None ∷ os) = filtered os
filtered (Some m ∷ os) = ap suc (filtered os)

pub full_places : (os : List (Option (Message ℕ))) → count_by is_some os ≡ length (gathered os)
full_places os = sym (length-filter is_some os) ∙ filtered os
