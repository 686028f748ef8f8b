-- The wishes that sweeping devices have.
use Rattle.std.specs.Prelude.{ℕ}
use Rattle.ordering.specs.declared.operation.Operation.{Operation}
use Rattle.ordering.specs.declared.operation.Operation.TheVariants.{Int}
use Rattle.ordering.specs.declared.operation.Words.{Words}
use Rattle.ordering.specs.Words.{one_word}
use Rattle.device.specs.declared.meaning.Wish.{Wish}

abbrev pub block_wish : Operation → ℕ → Words → Wish
block_wish o b ws = record { operation = o; place = b; processor = 0; words = ws }

abbrev pub interrupt_wish : ℕ → ℕ → Wish
interrupt_wish p v = record { operation = Int; place = 0; processor = p; words = one_word v }
