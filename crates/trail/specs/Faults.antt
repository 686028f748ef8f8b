-- Why a word of an entry has no source: the number and the place of each refusal.
use Rattle.std.specs.Prelude.{ℕ}
use Rattle.trail.specs.declared.fault.SourceFault.{SourceFault}
use Rattle.trail.specs.declared.fault.SourceFault.TheVariants.{NoRead, NoWord}

-- Both refusals are of an argument outside its range; the place is the argument's.
abbrev pub fault_number : SourceFault → ℕ
fault_number NoRead = 2
fault_number NoWord = 2

abbrev pub fault_place : SourceFault → ℕ
fault_place NoRead = 1
fault_place NoWord = 2
