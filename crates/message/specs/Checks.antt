-- Well-formed messages: ends on the board and of the kind, each field filled as the kind's form says or else 0.
use Rattle.std.specs.Prelude.{ℕ, Bool, false, if◌then◌else◌, not, ◌&&◌, ◌||◌, Some, None, Option, ◌==◌, nat_le, nat_lt, slice_index}
use Rattle.ordering.specs.Clocks.{number_end}
use Rattle.ordering.specs.declared.operation.Words.{Words}
use Rattle.message.specs.Forms.{form_of}
use Rattle.message.specs.Nodes.{home_node, is_device}
use Rattle.message.specs.declared.figures.Figures.{Figures}
use Rattle.message.specs.declared.form.End.{End}
use Rattle.message.specs.declared.form.End.TheVariants.{Processor, Device, Requester, Home, Owner, Target}
use Rattle.message.specs.declared.form.Fill.{Fill}
use Rattle.message.specs.declared.form.Fill.TheVariants.{Zero, One, Four, Marked}
use Rattle.message.specs.declared.form.Form.{Form}
use Rattle.message.specs.declared.form.Numbers.{Numbers}
use Rattle.message.specs.declared.form.Numbers.TheVariants as numbers
use Rattle.message.specs.declared.message.Message.{Message}

-- The processors of this board, and how many words the device at a node has.
abbrev pub has_processor : Figures → ℕ → Bool
has_processor f n = nat_lt n 4 && nat_lt n f.processors

abbrev pub word_count : Figures → ℕ → ℕ
word_count f n = if n == 4 then slice_index f.counts 0 else if n == 5 then slice_index f.counts 1 else 0

-- Whether node n is such an end of a message with place p.
abbrev pub end_fits : Figures → End → ℕ → ℕ → Bool
end_fits f Processor n p = has_processor f n
end_fits f Device n p = is_device n
end_fits f Requester n p = has_processor f n || is_device n
end_fits f Home n p = nat_lt p 16 && n == home_node p
end_fits f Owner n p = nat_lt p (word_count f n)
end_fits f Target n p = has_processor f n && n == p

abbrev pub rest_is_zero : Words → Bool
rest_is_zero w = slice_index w.at 1 == 0 && (slice_index w.at 2 == 0 && slice_index w.at 3 == 0)

abbrev pub all_are_zero : Words → Bool
all_are_zero w = slice_index w.at 0 == 0 && rest_is_zero w

-- Only what may be marked has a mark.
abbrev pub words_fit : Fill → Bool → Words → Bool
words_fit Zero mark w = not mark && all_are_zero w
words_fit One mark w = not mark && rest_is_zero w
words_fit Four mark w = not mark
words_fit Marked mark w = mark || all_are_zero w

abbrev pub numbers_fit : Numbers → ℕ → ℕ → Bool
numbers_fit numbers.Zero c s = c == 0 && s == 0
numbers_fit numbers.Clock c s = nat_le c number_end && s == 0
numbers_fit numbers.ClockAndSequence c s = nat_le c number_end && nat_le s number_end

abbrev pub fits : Figures → Form → Message ℕ → Bool
fits f o m =
    end_fits f o.sender m.sender m.place
    && (end_fits f o.receiver m.receiver m.place
    && (words_fit o.words m.exclusive m.words
    && numbers_fit o.numbers m.clock m.sequence))

abbrev pub well_formed : Figures → Message ℕ → Bool
well_formed f m = elim (form_of m.kind m.refused) [ None ↦ false | Some o ↦ fits f o m ]

abbrev pub checked : Figures → Message ℕ → Option (Message ℕ)
checked f m = if well_formed f m then Some m else None
