-- What a processor does and sends has the access that was issued under its number: its own at a call, a device's at INT.
use Rattle.std.proofs.Common.{◌≡◌, ℕ, ◌+◌, Bool, true, Some, None, Option, arith}
use Rattle.message.specs.Kinds.{same_kind}
use Rattle.message.specs.Nodes.{home_node}
use Rattle.message.specs.declared.kind.Kind.TheVariants as kind
use Rattle.message.specs.declared.message.Message.{Message}
use Rattle.ordering.specs.declared.operation.Operation.TheVariants as operation
use Rattle.ordering.specs.declared.order.Access.{Access}
use Rattle.processor.specs.Inputs.{Input, message_of, Load, Store, Request, Ldio, Stio, Receive}
use Rattle.processor.specs.Laws.{EachReaction}
use Rattle.processor.specs.Lines.{line_at}
use Rattle.std.proofs.lemmas.Bool.Decides.{nat_tests}
use Rattle.trail.specs.declared.entry.Entry.{Entry}
use Rattle.coherence.proofs.Arising.{never}
use Rattle.coherence.proofs.BalanceProcessors.{asks_only, request_posts}
use Rattle.coherence.proofs.Carrying.{carries, carried_access, entry_access, issued_as}
use Rattle.coherence.proofs.Posting.{hit, posted}
use Rattle.coherence.specs.Histories.{Issued, access}

-- What goes to where: of an entry, and of operation s of party n in a message.
abbrev pub entry_issue : Entry → Issued
entry_issue e = issued_as e.party e.sequence (entry_access e)

-- The operation that a call issues.
abbrev pub own_access : Input → Option Access
own_access (Load w) = Some (access operation.Ld 0 w)
own_access (Store w v) = Some (access operation.St 0 w)
own_access (Ldio d w) = Some (access operation.LdIo (1 + d) w)
own_access (Stio d w v) = Some (access operation.StIo (1 + d) w)
own_access _ = None

pub call_enters : EachReaction (λ s p i r. message_of i ≡ None → (e : Entry) → r.entry ≡ Some e → (own_access i ≡ Some (entry_access e)) × (e.party ≡ p) × (e.sequence ≡ s.sequence))
call_enters s p i r h call e is = grind (arith, nat_tests)

-- where nothing passes a test, nothing that is there does
pub not_posted : {X : Type 0} (f : X → Bool) (o : Option X) (x : X) → hit f o ≡ 0 → o ≡ Some x → f x ≡ true → ⊥
not_posted f o x none is passes = grind (arith, nat_tests)

pub call_posts : EachReaction (λ s p i r. message_of i ≡ None → (m : Message ℕ) → posted r.sent ≡ Some m → (n q : ℕ) → carries n q m ≡ true
    → (own_access i ≡ Some (carried_access m)) × (n ≡ p) × (q ≡ s.sequence))
call_posts s p (Request b k) r h call m is n q carried =
    let none = request_posts (carries n q) s p b k r h (λ fit. asks_only (line_at s.lines b) k fit n q p (home_node b) b) in
    absurd (not_posted (carries n q) (posted r.sent) m none is carried)
call_posts s p (Receive x) r h call m is n q carried = never cc
call_posts s p _ r h call m is n q carried = grind (arith, nat_tests)

pub call_takes : EachReaction (λ s p i r. message_of i ≡ None → (a : Access) → own_access i ≡ Some a → r.next.sequence ≡ s.sequence + 1)
call_takes s p i r h call a is = grind (arith, nat_tests)

pub call_keeps : EachReaction (λ s p i r. own_access i ≡ None → r.next.sequence ≡ s.sequence)
call_keeps s p i r h none = grind (arith, nat_tests)

-- at a message
pub message_enters : EachReaction (λ s p i r. (m : Message ℕ) → message_of i ≡ Some m → (same_kind m.kind kind.Int ≡ true → m.place ≡ p) → (e : Entry) → r.entry ≡ Some e
    → (carries e.party e.sequence m ≡ true) × (entry_access e ≡ carried_access m))
message_enters s p i r h m is place e does = grind (arith, nat_tests)
