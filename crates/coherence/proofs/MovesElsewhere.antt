-- What a processor does about another block, or about none, changes nothing of this one.
use Rattle.std.proofs.Common.{◌≡◌, ℕ, ◌≤◌, true, false, eqb, [], Some, None, filter, Option, refl, ap, ⊎_elim, arith}
use Rattle.message.specs.Reactions.{sent}
use Rattle.message.specs.Requests.{out}
use Rattle.message.specs.declared.message.Message.{Message}
use Rattle.message.specs.declared.reaction.Reaction.{Reaction}
use Rattle.processor.proofs.Stamping.{clocks_go_on}
use Rattle.message.proofs.Tables.{put_read}
use Rattle.processor.specs.Inputs.{Input, Load, Store, Request, Receive}
use Rattle.processor.specs.Laws.{EachReaction}
use Rattle.processor.specs.Lines.{line_at, block_of}
use Rattle.processor.specs.Receive.{receive}
use Rattle.processor.specs.declared.state.Processor.{Processor}
use Rattle.std.proofs.lemmas.Bool.{ne_eqb}
use Rattle.std.proofs.lemmas.Bool.Decides.{nat_tests}
use Rattle.std.specs.Option.{option_to_list}
use Rattle.trail.specs.declared.entry.Entry.{Entry}
use Rattle.coherence.proofs.Blocks.{about, on}

-- The input is about block b.
abbrev pub Touches : ℕ → Input → Type 0
Touches b (Load w) = block_of w ≡ b
Touches b (Store w v) = block_of w ≡ b
Touches b (Request a k) = a ≡ b
Touches b (Receive m) = about b m ≡ true
Touches b _ = ⊥

pub lines_elsewhere : (b : ℕ) → EachReaction (λ s n i r. (Touches b i → ⊥) → line_at r.next.lines b ≡ line_at s.lines b)
lines_elsewhere b s n (Store w v) r h other = grind (arith, nat_tests, other, put_read s.lines.at (block_of w) b)
lines_elsewhere b s n (Receive m) r h other = grind (arith, nat_tests, other, put_read s.lines.at m.place b)
lines_elsewhere b s n _ r h other = grind (arith, nat_tests)

pub outs_elsewhere : (b : ℕ) → EachReaction (λ s n i r. (Touches b i → ⊥) → out r.next.requests b ≡ out s.requests b)
outs_elsewhere b s n (Request a k) r h other = grind (arith, nat_tests, other, put_read s.requests.at a b)
outs_elsewhere b s n (Receive m) r h other = grind (arith, nat_tests, other, put_read s.requests.at m.place b)
outs_elsewhere b s n _ r h other = grind (arith, nat_tests)

pub globals_rise : EachReaction (λ s n i r. s.clock.global ≤ r.next.clock.global)
globals_rise s n i r h = ⊎_elim (λ same. let g = ap (λ c. c.global) same in omega arith) (λ up. omega arith) (clocks_go_on.never_back s n i r h)

pub sends_elsewhere : (b : ℕ) → EachReaction (λ s n i r. (Touches b i → ⊥) → filter (about b) (sent r.sent) ≡ [])
sends_elsewhere b s n (Receive m) r h other = grind (arith, nat_tests, other)
sends_elsewhere b s n _ r h other = grind (arith, nat_tests, other)

-- what a message has a processor do is an interrupt, which is not on memory
interrupts_only : (s : Processor ℕ) (n : ℕ) (m : Message ℕ) (r : Reaction (Processor ℕ)) → receive s n m ≡ Some r → (e : Entry) → r.entry ≡ Some e → e.space ≡ 3
interrupts_only s n m r h e is = grind (arith, nat_tests)

pub off_memory : (b : ℕ) (o : Option Entry) → ((e : Entry) → o ≡ Some e → eqb e.space 0 ≡ false) → filter (on b) (option_to_list o) ≡ []
off_memory b None off = refl
off_memory b (Some e) off = rw (off e refl) refl

pub enters_elsewhere : (b : ℕ) → EachReaction (λ s n i r. (Touches b i → ⊥) → filter (on b) (option_to_list r.entry) ≡ [])
enters_elsewhere b s n (Receive m) r h other = off_memory b r.entry (λ e is. ne_eqb e.space 0 (let three = interrupts_only s n m r h e is in omega arith))
enters_elsewhere b s n _ r h other = grind (arith, nat_tests, other)
