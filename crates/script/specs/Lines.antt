-- The lines of a script by their numbers, each with what stands in it.
use Rattle.std.specs.Prelude.{ℕ, ◌+◌, List, [], ◌∷◌, Some, Option}
use Rattle.text.specs.Parts.{unread, lines_of, lines_left}
use Rattle.script.specs.declared.line.Line.{Line}
use Rattle.script.specs.declared.reader.Reader.{Reader}

abbrev pub Text : Type 0
Text = ℕ × Option (List ℕ)

abbrev pub numbered : ℕ → List (List ℕ) → List Text
numbered n [] = []
numbered n (l ∷ ls) = (n, Some l) ∷ numbered (n + 1) ls

abbrev pub script_lines : List ℕ → List Text
script_lines script = numbered 1 (lines_of script)

-- A line that nothing has been read of, and the lines that a reader has still to read.
abbrev pub seen : Line → Text
seen l = (l.number, unread l.fields)

abbrev pub to_read : Reader → List Text
to_read r = numbered r.number (lines_left r.lines)
