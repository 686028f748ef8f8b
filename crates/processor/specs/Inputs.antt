-- What may come to a processor, a call or a message, and its reaction if it has one.
use Rattle.std.specs.Prelude.{ℕ, Some, None, Ok, Err, Option}
use Rattle.message.specs.declared.kind.Kind.{Kind}
use Rattle.message.specs.declared.message.Message.{Message}
use Rattle.processor.specs.Calls.{Answer, load, store, request, ldio, stio, collect, give_up, poll}
use Rattle.processor.specs.Receive.{Outcome, receive}
use Rattle.processor.specs.declared.state.Processor.{Processor}

pub data Input : Type 0 where
  Load : ℕ → Input
  Store : ℕ → ℕ → Input
  Request : ℕ → Kind → Input
  Ldio : ℕ → ℕ → Input
  Stio : ℕ → ℕ → ℕ → Input
  Collect : ℕ → Input
  GiveUp : ℕ → Input
  Poll : Input
  Receive : Message ℕ → Input

abbrev pub accepted : Answer → Outcome
accepted (Ok r) = Some r
accepted (Err e) = None

-- The reaction of the processor with number n, in state s.
abbrev pub reaction : Processor ℕ → ℕ → Input → Outcome
reaction s n (Load w) = accepted (load s n w)
reaction s n (Store w v) = accepted (store s n w v)
reaction s n (Request b k) = accepted (request s n b k)
reaction s n (Ldio d w) = accepted (ldio s n d w)
reaction s n (Stio d w v) = accepted (stio s n d w v)
reaction s n (Collect d) = accepted (collect s d)
reaction s n (GiveUp d) = accepted (give_up s d)
reaction s n Poll = Some (poll s)
reaction s n (Receive m) = receive s n m

-- The message that came, or none at a call.
abbrev pub message_of : Input → Option (Message ℕ)
message_of (Receive m) = Some m
message_of _ = None

-- The word to which a call stores, if it does.
abbrev pub stored_word : Input → Option ℕ
stored_word (Store w v) = Some w
stored_word _ = None
