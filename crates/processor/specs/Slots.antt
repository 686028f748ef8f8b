-- Slots: one for each device, for the word of an LDio that is under way or has come.
use Rattle.std.specs.Prelude.{ℕ, Bool, true, false, if◌then◌else◌, Some, None, Option}
use Rattle.message.specs.Tables.{at_place, with_at}
use Rattle.message.specs.declared.table.Table.{Table}
use Rattle.processor.specs.declared.slot.Slot.{Slot}
use Rattle.processor.specs.declared.slot.Slot.TheVariants.{Free, Awaited, Abandoned}

-- By device.
abbrev pub Slots : Type 0
Slots = Table Slot 2

abbrev pub slot_at : Slots → ℕ → Slot
slot_at ss d = at_place Free ss d

abbrev pub with_slot : Slots → ℕ → Slot → Slots
with_slot ss d x = with_at ss d x

abbrev pub is_free : Slot → Bool
is_free Free = true
is_free _ = false

-- The word of an LDio has yet to come, whether somebody holds the slot or nobody.
abbrev pub is_awaited : Slot → Bool
is_awaited Awaited = true
is_awaited Abandoned = true
is_awaited _ = false

-- The lowest device from which a word has yet to come.
abbrev pub awaited_device : Slots → Option ℕ
awaited_device ss = if is_awaited (slot_at ss 0) then Some 0 else if is_awaited (slot_at ss 1) then Some 1 else None
