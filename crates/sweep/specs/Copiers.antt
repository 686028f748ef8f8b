-- The copier's meaning: its words and its phase, and nothing of how often it was read.
use Rattle.std.specs.Prelude.{ℕ, if◌then◌else◌, Some, None, Option, ◌==◌}
use Rattle.ordering.specs.declared.operation.Operation.{Operation}
use Rattle.ordering.specs.declared.operation.Operation.TheVariants.{LdIo, StIo}
use Rattle.ordering.specs.Words.{one_word}
use Rattle.device.specs.declared.meaning.Wish.{Wish}
use Rattle.device.specs.Meaning.{Meaning}
use Rattle.device.specs.Registers.{zeros, after_write}
use Rattle.sweep.specs.declared.copier.Copier.{Copier}
use Rattle.sweep.specs.declared.copier.Copying.{Copying}
use Rattle.sweep.specs.declared.copier.Phase.{Phase}
use Rattle.sweep.specs.declared.copier.Phase.TheVariants.{Rest, Load, Store}

abbrev pub copying : Copier → Copying
copying c = c.copying

abbrev pub blank_copier : Copier
blank_copier = record { copying = record { words = zeros 3; phase = Rest }; reads = 0 }

abbrev pub word_wish : Operation → ℕ → ℕ → Wish
word_wish o p w = record { operation = o; place = p; processor = 0; words = one_word w }

abbrev pub phase_wish : Phase → Option Wish
phase_wish Rest = None
phase_wish Load = Some (word_wish LdIo 1 0)
phase_wish (Store w) = Some (word_wish StIo 2 w)

abbrev pub next_phase : Phase → ℕ → Phase
next_phase Load w = Store w
next_phase _ w = Rest

-- A 1 in word 0 starts it, and anything else there stops it.
abbrev pub after_value : Phase → ℕ → ℕ → Phase
after_value x p v = if p == 0 then (if v == 1 then Load else Rest) else x

abbrev pub copier_meaning : Meaning Copying
copier_meaning = record {
  words = λ s. s.words.at;
  wish = λ s. phase_wish s.phase;
  reading = λ s p. s;
  writing = λ s p v. record s { words = after_write s.words p v; phase = after_value s.phase p v };
  accepted = λ s w. record s { phase = next_phase s.phase w };
  landed = λ s b ws. s;
}
