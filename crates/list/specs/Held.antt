-- A list as its user sees it.
use Rattle.std.specs.Prelude.{ℕ, List as Seq}

-- The records, oldest first, and how many there is room for.
pub record Held (T : Type 0) : Type 0 where
  pub records : Seq T
  pub room : ℕ
