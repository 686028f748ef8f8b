-- Stamps and their order.
use Rattle.std.specs.Prelude.{◌≡◌, ℕ, Bool, true, false, ◌==◌, if◌then◌else◌, nat_lt}
use Rattle.ordering.specs.declared.clock.Clock.{Clock}
use Rattle.ordering.specs.declared.stamp.Stamp.{Stamp}

abbrev pub stamped : Clock ℕ → ℕ → Stamp
stamped c n = record { global = c.global; local = c.local; node = n }

-- Compared by global number, then local number, then node.
abbrev pub below : Stamp → Stamp → Bool
below s t =
    if s.global == t.global
    then (if s.local == t.local then nat_lt s.node t.node else nat_lt s.local t.local)
    else nat_lt s.global t.global

pub record StrictTotalOrder : Type 0 where
  pub irreflexive : (s : Stamp) → below s s ≡ false
  pub transitive : (s t u : Stamp) → below s t ≡ true → below t u ≡ true → below s u ≡ true
  pub total : (s t : Stamp) → below s t ≡ false → below t s ≡ false → s ≡ t
