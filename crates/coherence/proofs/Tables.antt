-- The tables of processors and bridges keep their lengths: sixteen lines and requests, two slots.
use Rattle.std.proofs.Common.{◌≡◌, ℕ, length, ◌∙◌, arith, length-set}
use Rattle.bridge.specs.Inputs as bridge
use Rattle.device.specs.Meaning.{Meaning}
use Rattle.processor.specs.Laws.{EachReaction}
use Rattle.processor.specs.declared.state.Processor.{Processor}
use Rattle.std.proofs.lemmas.Bool.Decides.{nat_tests}

pub record ProcessorTables (s : Processor ℕ) : Type 0 where
  pub lines : length s.lines.at ≡ 16
  pub requests : length s.requests.at ≡ 16
  pub slots : length s.slots.at ≡ 2

lines_stay : EachReaction (λ s n i r. length r.next.lines.at ≡ length s.lines.at)
lines_stay s n i r h = grind (arith, nat_tests, length-set)

requests_stay : EachReaction (λ s n i r. length r.next.requests.at ≡ length s.requests.at)
requests_stay s n i r h = grind (arith, nat_tests, length-set)

slots_stay : EachReaction (λ s n i r. length r.next.slots.at ≡ length s.slots.at)
slots_stay s n i r h = grind (arith, nat_tests, length-set)

pub bridge_requests_stay : {S : Type 0} (m : Meaning S) → bridge.EachReaction m (λ b d i r. length r.next.requests.at ≡ length b.requests.at)
bridge_requests_stay m b d i r h = grind (arith, nat_tests, length-set)

pub processor_tables_kept : EachReaction (λ s n i r. ProcessorTables s → ProcessorTables r.next)
processor_tables_kept s n i r h t = record {
  lines = lines_stay s n i r h ∙ t.lines;
  requests = requests_stay s n i r h ∙ t.requests;
  slots = slots_stay s n i r h ∙ t.slots;
}
