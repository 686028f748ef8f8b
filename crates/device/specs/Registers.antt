-- The words of a device by their places; one that is not there is refused.
use Rattle.std.specs.Prelude.{ℕ, length, replicate, Ok, Result, if◌then◌else◌, nat_lt, slice_index, slice_set}
use Rattle.device.specs.declared.meaning.NoWord.{NoWord}
use Rattle.device.specs.declared.registers.Registers.{Registers}
use Rattle.device.specs.Meaning.{no_word}

abbrev pub zeros : (n : ℕ) → Registers n
zeros n = record { at = replicate n 0 }

abbrev pub read_of : {n : ℕ} → Registers n → ℕ → Result ℕ NoWord
read_of t p = if nat_lt p (length t.at) then Ok (slice_index t.at p) else no_word p

abbrev pub after_write : {n : ℕ} → Registers n → ℕ → ℕ → Registers n
after_write t p v = record { at = slice_set t.at p v }

abbrev pub write_of : {n : ℕ} → Registers n → ℕ → Result (Unit {0}) NoWord
write_of t p = if nat_lt p (length t.at) then Ok tt else no_word p
