-- A bank of lamps is its words, one for each lamp. It wishes for nothing.
use Rattle.std.specs.Prelude.{ℕ, List, None, slice_set}
use Rattle.device.specs.Meaning.{Meaning}
use Rattle.lamp.specs.declared.bank.Bank.{Bank}

abbrev pub lamps : Bank → List ℕ
lamps b = b.lamps.at

abbrev pub bank_meaning : Meaning (List ℕ)
bank_meaning = record {
  words = λ s. s;
  wish = λ s. None;
  reading = λ s p. s;
  writing = λ s p v. slice_set s p v;
  accepted = λ s v. s;
  landed = λ s b ws. s;
}
