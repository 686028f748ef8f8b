use Rattle.std.proofs.Common.{◌≡◌, ℕ, Ok, Err, Result, IfOk, OnOk, string_bytes, subst, rules}
use Rattle.list.specs.declared.storage.List.{List as Records}
use Rattle.message.specs.declared.message.Message.{Message}
use Rattle.script.specs.Lines.{script_lines}
use Rattle.script.specs.declared.outcome.Outcome.{Outcome}
use Rattle.trail.specs.declared.entry.Entry.{Entry}
use Rattle.console.specs.Program.{Kept, empty, output_with}
use Rattle.console.proofs.program.output_of.Goals as goal

on_ok : {T E : Type 0} (r : Result T E) (P : Type 0) → P → OnOk r P
on_ok (Ok x) P p = p
on_ok (Err e) P p = tt

pub returns : goal.returns
returns c =
    let lines = script_lines c.args.script.now in
    let messages : c.new.result ≡ empty 64 = search rules in
    let entries : c.new-2.result ≡ empty 512 = search rules in
    let outcomes : c.new-3.result ≡ empty 65536 = search rules in
    let kept : Kept lines (empty 64) (empty 512) =
    subst (λ (ms : Records (Message ℕ)). Kept lines ms (empty 512)) messages
    (subst (λ (es : Records Entry). Kept lines c.new.result es) entries c.output_with.ensures.promise)
    in
    record {
      text =
          subst (λ (ms : Records (Message ℕ)). IfOk c.output_with.result (λ text. string_bytes text ≡ output_with lines ms (empty 512) (empty 65536))) messages
          (subst (λ (es : Records Entry). IfOk c.output_with.result (λ text. string_bytes text ≡ output_with lines c.new.result es (empty 65536))) entries
          (subst (λ (os : Records Outcome). IfOk c.output_with.result (λ text. string_bytes text ≡ output_with lines c.new.result c.new-2.result os)) outcomes
          c.output_with.ensures.text));
      promise = on_ok c.output_with.result _ kept;
    }
