-- The number that decimal digits spell.
use Rattle.std.specs.Prelude.{◌≡◌, ℕ, ◌+◌, ◌-◌, ◌*◌, ◌^◌, ◌<◌, false, ◌&&◌, List, [], ◌∷◌, Some, None, Option, ◌==◌, decimal, if◌then◌else◌, nat_le}

-- A digit more, as long as 32 bits hold the number.
abbrev pub with_digit : ℕ → ℕ → Option ℕ
with_digit n x =
    if nat_le 48 x && nat_le x 57
    then (if nat_le (n * 10 + (x - 48)) 4294967295 then Some (n * 10 + (x - 48)) else None)
    else None

abbrev pub spelled : ℕ → List ℕ → Option ℕ
spelled n [] = Some n
spelled n (x ∷ xs) = elim (with_digit n x) [ None ↦ None | Some m ↦ spelled m xs ]

-- At least one digit is needed.
abbrev pub parse_number : List ℕ → Option ℕ
parse_number [] = None
parse_number (x ∷ xs) = spelled 0 (x ∷ xs)

-- A number of 32 bits that is written in decimal digits is read as it was, and there is no tab among these.
abbrev pub Tabless : List ℕ → Type 0
Tabless [] = Unit {0}
Tabless (x ∷ xs) = (x == 9 ≡ false) × Tabless xs

pub record NumbersAreReadBack : Type 0 where
  pub value : (n : ℕ) → n < 2 ^ 32 → parse_number (decimal n) ≡ Some n
  pub tabless : (n : ℕ) → n < 2 ^ 32 → Tabless (decimal n)
