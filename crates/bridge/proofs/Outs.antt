-- Where no request is out, none is out for any block.
use Rattle.std.proofs.Common.{◌≡◌, ℕ, zero, suc, false, List, [], ◌∷◌, get_or, is_some, Some, None, Option, refl}
use Rattle.std.specs.List.{list_any}
use Rattle.message.specs.declared.kind.Kind.{Kind}

pub none_out : (rs : List (Option Kind)) → list_any is_some rs ≡ false → (k : ℕ) → get_or rs k None ≡ None
none_out [] h k = refl
none_out (None ∷ rs) h zero = refl
none_out (None ∷ rs) h (suc k) = none_out rs h k
none_out (Some r ∷ rs) h k = cc
