-- A sweep: blocks in turn, then an interrupt, then nothing.
use Rattle.std.specs.Prelude.{ℕ, ◌+◌, ◌%◌, ◌^◌, if◌then◌else◌, Some, None, Option, ◌==◌, nat_lt}
use Rattle.std.specs.Option.{option_map, option_and_then}
use Rattle.device.specs.declared.meaning.Wish.{Wish}
use Rattle.sweepers.specs.declared.sweep.Sweep.{Sweep}
use Rattle.sweepers.specs.declared.sweep.Stage.{Stage}
use Rattle.sweepers.specs.declared.sweep.Stage.TheVariants.{Block, Interrupt}

abbrev pub sweep : ℕ → ℕ → ℕ → Sweep
sweep f n k = record { first = f; count = n; position = k }

-- Command 1 starts at the first of n blocks; any other stops.
abbrev pub commanded : ℕ → ℕ → ℕ → Option Sweep
commanded c f n = if c == 1 then Some (sweep f n 0) else None

abbrev pub stage_of : Sweep → Stage
stage_of x = if nat_lt x.position x.count then Block ((x.first + x.position) % 2 ^ 32) else Interrupt

abbrev pub advanced : Sweep → Option Sweep
advanced x = if nat_lt x.position x.count then Some (record x { position = x.position + 1 }) else None

-- The same of a sweep that may be over.
abbrev pub went_on : Option Sweep → Option Sweep
went_on = option_and_then advanced

-- What a device wishes for at a sweep: `each` of a block, `last` at the interrupt, and nothing once it is over.
abbrev pub wished_at : (ℕ → Wish) → Wish → Stage → Wish
wished_at each last (Block b) = each b
wished_at each last Interrupt = last

abbrev pub wished : (ℕ → Wish) → Wish → Option Sweep → Option Wish
wished each last = option_map (λ x. wished_at each last (stage_of x))
