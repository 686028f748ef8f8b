-- Clocks: passing a number, counting an operation, and the end of numbers.
use Rattle.std.specs.Prelude.{◌≡◌, ℕ, ◌+◌, ◌<◌, ◌≤◌, max, Bool, ◌&&◌, ◌⊎◌, Some, None, Option, if◌then◌else◌, nat_le}
use Rattle.ordering.specs.declared.clock.Clock.{Clock}

-- Where global, local and sequence numbers end; the end itself is a number that may be had.
abbrev pub number_end : ℕ
number_end = 1000000000

-- To pass n: global becomes 1 + max(global, n), local 0.
abbrev pub passed : Clock ℕ → ℕ → Clock ℕ
passed c n = record { global = max c.global n + 1; local = 0 }

-- An operation adds 1 to the local number.
abbrev pub counted : Clock ℕ → Clock ℕ
counted c = record c { local = c.local + 1 }

abbrev pub is_within : Clock ℕ → Bool
is_within c = nat_le c.global number_end && nat_le c.local number_end

abbrev pub settled : Clock ℕ → Option (Clock ℕ)
settled c = if is_within c then Some c else None

-- An operation with the last number may be done, so the number of the next may stand one past it.
abbrev pub settled_next : ℕ → Option ℕ
settled_next n = if nat_le n (number_end + 1) then Some n else None

-- An operation may have any number up to the end and none above it: the number after its own can or cannot be had.
pub record NumbersAreUsed : Type 0 where
  pub up_to_the_end : (n : ℕ) → n ≤ number_end → settled_next (n + 1) ≡ Some (n + 1)
  pub none_above : (n : ℕ) → number_end < n → settled_next (n + 1) ≡ None

-- By global number, then local number.
abbrev pub Earlier : Clock ℕ → Clock ℕ → Type 0
Earlier c d = (c.global < d.global) ⊎ ((c.global ≡ d.global) × (c.local < d.local))
