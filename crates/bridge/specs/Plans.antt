-- Plans: what a deed will send and enter, and the end of numbers.
use Rattle.std.specs.Prelude.{ℕ, ◌+◌, Bool, true, false, if◌then◌else◌, ◌&&◌, Some, None, Option, nat_le}
use Rattle.ordering.specs.Clocks.{number_end, is_within}
use Rattle.bridge.specs.declared.plan.Deed.{Deed}
use Rattle.bridge.specs.declared.plan.Deed.TheVariants.{Load, Store, Read, Write}
use Rattle.bridge.specs.declared.plan.Plan.{Plan}

abbrev pub sends : Deed → ℕ
sends (Load a) = 0
sends (Store a v) = 0
sends (Write a v) = 0
sends _ = 1

abbrev pub enters : Deed → Bool
enters (Load a) = true
enters (Store a v) = true
enters (Read a) = true
enters (Write a v) = true
enters _ = false

-- No number passed its end. An operation with the last number may be done, so the next number may stand one past it.
abbrev pub plan_within : Plan ℕ → Bool
plan_within p = is_within p.clock && nat_le p.sequence (number_end + 1)

abbrev pub settled_plan : Plan ℕ → Option (Plan ℕ)
settled_plan p = if plan_within p then Some p else None
