-- Why a device's wish is not done: each case's number, and its place, the device's number.
use Rattle.std.specs.Prelude.{ℕ}
use Rattle.bridge.specs.declared.fault.DeviceFault.{DeviceFault}
use Rattle.bridge.specs.declared.fault.DeviceFault.TheVariants.{NoWish, BadWish, MustWait}

abbrev pub fault_number : DeviceFault → ℕ
fault_number (NoWish d) = 11
fault_number (BadWish d) = 12
fault_number (MustWait d) = 13

abbrev pub fault_place : DeviceFault → ℕ
fault_place (NoWish d) = d
fault_place (BadWish d) = d
fault_place (MustWait d) = d
