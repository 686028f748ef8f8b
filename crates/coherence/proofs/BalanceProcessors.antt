-- What each reaction of a processor does to the balance of numbered operations: a call that takes a number does its
-- operation or sends what carries it, and a message that carries an operation has it done.
use Rattle.std.proofs.Common.{◌≡◌, ℕ, ◌+◌, Bool, true, false, ◌&&◌, eqb, ltb, Some, None, arith}
use Rattle.message.specs.Messages.{plain}
use Rattle.message.specs.Nodes.{home_node}
use Rattle.message.specs.declared.kind.Kind.{Kind}
use Rattle.message.specs.declared.message.Message.{Message}
use Rattle.message.specs.declared.reaction.Reaction.{Reaction}
use Rattle.processor.specs.Inputs.{reaction, message_of, Request}
use Rattle.processor.specs.Laws.{EachReaction}
use Rattle.processor.specs.Calls.{fits}
use Rattle.processor.specs.Lines.{line_at}
use Rattle.processor.specs.declared.line.Line.{Line}
use Rattle.processor.specs.declared.state.Processor.{Processor}
use Rattle.std.proofs.lemmas.Bool.Decides.{nat_tests}
use Rattle.coherence.proofs.Carrying.{carries, done_as, is_block_request}
use Rattle.coherence.proofs.Counting.{indicator}
use Rattle.coherence.proofs.Posting.{posted, hit}

-- one number more
pub number_taken : (p n s k : ℕ) → indicator (eqb p n && ltb s (k + 1)) ≡ indicator (eqb p n && ltb s k) + indicator (eqb p n && eqb k s)
number_taken p n s k = grind (arith, nat_tests)

-- what a processor may ask a home for carries no operation
pub asks_only : (l : Line) (k : Kind) → fits l k ≡ true → (n q a b c : ℕ) → carries n q (plain k a b c) ≡ false
asks_only l k fit n q a b c = grind (arith, nat_tests)

pub request_posts : (f : Message ℕ → Bool) (s : Processor ℕ) (p b : ℕ) (k : Kind) (r : Reaction (Processor ℕ)) → reaction s p (Request b k) ≡ Some r
    → (fits (line_at s.lines b) k ≡ true → f (plain k p (home_node b) b) ≡ false) → hit f (posted r.sent) ≡ 0
request_posts f s p b k r h none = grind (arith, nat_tests, none)

request_does : (s : Processor ℕ) (p b : ℕ) (k : Kind) (r : Reaction (Processor ℕ)) → reaction s p (Request b k) ≡ Some r → (r.entry ≡ None) × (r.next.sequence ≡ s.sequence)
request_does s p b k r h = (grind (arith, nat_tests), grind (arith, nat_tests))

pub calls_number : EachReaction (λ s p i r. message_of i ≡ None → (n q : ℕ)
    → (hit (done_as n q) r.entry + hit (carries n q) (posted r.sent)) + indicator (eqb p n && ltb q s.sequence) ≡ indicator (eqb p n && ltb q r.next.sequence))
calls_number s p (Request b k) r h call n q =
    let none = request_posts (carries n q) s p b k r h (λ fit. asks_only (line_at s.lines b) k fit n q p (home_node b) b) in
    let x = request_does s p b k r h in
    rw (x.0, x.1) (omega arith)
calls_number s p _ r h call n q = grind (arith, nat_tests, number_taken)

-- at a message
pub sends_no_operation : EachReaction (λ s p i r. (m : Message ℕ) → message_of i ≡ Some m → (n q : ℕ) → hit (carries n q) (posted r.sent) ≡ 0)
sends_no_operation s p i r h m is n q = grind (arith, nat_tests)

does_what_came : EachReaction (λ s p i r. (m : Message ℕ) → message_of i ≡ Some m → ((k : Kind) → m.refused ≡ Some k → is_block_request k ≡ false) → (n q : ℕ)
    → hit (done_as n q) r.entry ≡ indicator (carries n q m))
does_what_came s p i r h m is processors n q = grind (arith, nat_tests, processors)

pub messages_number : EachReaction (λ s p i r. (m : Message ℕ) → message_of i ≡ Some m → ((k : Kind) → m.refused ≡ Some k → is_block_request k ≡ false) → (n q : ℕ)
    → hit (done_as n q) r.entry + hit (carries n q) (posted r.sent) ≡ indicator (carries n q m))
messages_number s p i r h m is processors n q = let done = does_what_came s p i r h m is processors n q in let quiet = sends_no_operation s p i r h m is n q in omega arith

pub messages_keep_number : EachReaction (λ s p i r. (m : Message ℕ) → message_of i ≡ Some m → r.next.sequence ≡ s.sequence)
messages_keep_number s p i r h m is = grind (arith, nat_tests)
