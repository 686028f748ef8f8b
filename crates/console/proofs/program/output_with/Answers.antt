use Rattle.std.proofs.Common.{◌≡◌, List, replicate, IfOk, string_bytes, ap, ◌∙◌, subst}
use Rattle.coherence.specs.Histories.{run}
use Rattle.coherence.specs.Makings.{Making, make}
use Rattle.coherence.specs.Promise.{OrderKept}
use Rattle.coherence.specs.Worlds.{World}
use Rattle.sweepers.specs.Plates.{blank_plate}
use Rattle.sweepers.specs.Scanners.{Scanner, scanner_meaning}
use Rattle.device.specs.Windows.{window}
use Rattle.list.specs.Contents.{contents, room}
use Rattle.script.specs.Lines.{script_lines}
use Rattle.script.specs.Scripts.{calls_of, later, noted, script_making, script_outcomes}
use Rattle.script.specs.declared.outcome.Outcome.{Outcome}
use Rattle.trail.specs.declared.entry.Entry.{Entry}
use Rattle.console.specs.Program.{Plates, plates_meaning, board_making}
use Rattle.console.specs.Report.{report}
use Rattle.console.proofs.program.output_with.Goals as goal

pub returns : goal.returns
returns c =
    let ma = plates_meaning in
    let lines = script_lines c.args.script.now in
    let os = c.args.outcomes.now in
    let from : Plates → Scanner → Making Plates Scanner = λ d s. script_making lines (replicate 64 0) d s c.args.messages.now c.args.trail.now in
    let plates : c.new-plates.result ≡ window blank_plate 4 8 = c.new-plates.ensures ∙ ap (λ d. window d 4 8) c.new.ensures in
    let made : from c.new-plates.result c.new-2.result ≡ board_making lines c.args.messages.now c.args.trail.now = rw (plates, c.new-2.ensures) in
    let board = board_making lines c.args.messages.now c.args.trail.now in
    let outcomes : Making Plates Scanner → List Outcome = λ k. noted (room os) (contents os) (script_outcomes ma scanner_meaning (make ma scanner_meaning k) lines) in
    let entries : Making Plates Scanner → List Entry = λ k. (run ma scanner_meaning k (calls_of (later lines))).world.trail in
    let as_outcomes : c.records.result.now ≡ outcomes board = c.records.ensures.value ∙ c.play-board.ensures.outcomes ∙ ap outcomes made in
    let as_entries : c.records-2.result.now ≡ entries board =
    c.records-2.ensures.value
    ∙ ap (λ (w : World Plates Scanner). w.trail) c.play-board.ensures.world
    ∙ ap entries made
    in
    record {
      text =
          subst (λ (xs : List Outcome). IfOk c.report_of.result (λ text. string_bytes text ≡ report xs (entries board))) as_outcomes
          (subst (λ (es : List Entry). IfOk c.report_of.result (λ text. string_bytes text ≡ report c.records.result.now es)) as_entries c.report_of.ensures);
      promise =
          subst (λ (k : Making Plates Scanner). OrderKept ma scanner_meaning k (run ma scanner_meaning k (calls_of (later lines)))) made
          c.play-board.ensures.promise;
    }
