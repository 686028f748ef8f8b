-- All that the program `board` writes for a script.
use Rattle.std.specs.Prelude.{ℕ, List, [], replicate}
use Rattle.coherence.specs.Histories.{run}
use Rattle.coherence.specs.Makings.{Making, make}
use Rattle.coherence.specs.Promise.{OrderKept}
use Rattle.sweepers.specs.Plates.{PlateSetter, plate_meaning, blank_plate}
use Rattle.sweepers.specs.Scanners.{Scanner, scanner_meaning, blank_scanner}
use Rattle.device.specs.Meaning.{Meaning}
use Rattle.device.specs.Windows.{window, window_meaning}
use Rattle.device.specs.declared.window.Window.{Window}
use Rattle.list.specs.Contents.{contents, room}
use Rattle.list.specs.declared.storage.List.{List as Records}
use Rattle.message.specs.declared.message.Message.{Message}
use Rattle.trail.specs.declared.entry.Entry.{Entry}
use Rattle.script.specs.Lines.{Text, script_lines}
use Rattle.script.specs.Scripts.{calls_of, later, noted, script_making, script_outcomes}
use Rattle.script.specs.declared.outcome.Outcome.{Outcome}
use Rattle.console.specs.Report.{report}

abbrev pub Plates : Type 0
Plates = Window PlateSetter

abbrev pub plates_meaning : Meaning Plates
plates_meaning = window_meaning plate_meaning

-- Memory of zeros, a plate setter behind a window of 8 words from word 4, and a scanner, both with zeros and no wish.
abbrev pub board_making : List Text → Records (Message ℕ) → Records Entry → Making Plates Scanner
board_making lines ms es = script_making lines (replicate 64 0) (window blank_plate 4 8) blank_scanner ms es

-- The output for the lines, with these lists.
abbrev pub output_with : List Text → Records (Message ℕ) → Records Entry → Records Outcome → List ℕ
output_with lines ms es os =
    let k = board_making lines ms es in
    let outcomes = script_outcomes plates_meaning scanner_meaning (make plates_meaning scanner_meaning k) lines in
    let after = (run plates_meaning scanner_meaning k (calls_of (later lines))).world in
    report (noted (room os) (contents os) outcomes) after.trail

-- The run of the lines keeps the order promise.
abbrev pub Kept : List Text → Records (Message ℕ) → Records Entry → Type 0
Kept lines ms es =
    let k = board_making lines ms es in
    OrderKept plates_meaning scanner_meaning k (run plates_meaning scanner_meaning k (calls_of (later lines)))

abbrev pub empty : {T : Type 0} → ℕ → Records T
empty room = record { records = []; room = room }

-- Room for 64 waiting messages, 512 entries and 65,536 lines.
abbrev pub output_of : List ℕ → List ℕ
output_of script = output_with (script_lines script) (empty 64) (empty 512) (empty 65536)
