-- Why a processor refuses a call: each case's number, and its place, a block or a device.
use Rattle.std.specs.Prelude.{ℕ}
use Rattle.processor.specs.declared.refusal.Refusal.{Refusal}
use Rattle.processor.specs.declared.refusal.Refusal.TheVariants.{NotHeld, Unfit, RequestOut, Awaits, SlotTaken, NotCollectable}

abbrev pub refusal_number : Refusal → ℕ
refusal_number (NotHeld b) = 3
refusal_number (Unfit b) = 4
refusal_number (RequestOut b) = 5
refusal_number (Awaits d) = 6
refusal_number (SlotTaken d) = 7
refusal_number (NotCollectable d) = 8

abbrev pub refusal_place : Refusal → ℕ
refusal_place (NotHeld b) = b
refusal_place (Unfit b) = b
refusal_place (RequestOut b) = b
refusal_place (Awaits d) = d
refusal_place (SlotTaken d) = d
refusal_place (NotCollectable d) = d
