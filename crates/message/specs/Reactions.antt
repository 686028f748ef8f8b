-- What a reaction sends.
use Rattle.std.specs.Prelude.{ℕ, List, [], ◌∷◌, length, Some, None, Option}
use Rattle.message.specs.declared.message.Message.{Message}
use Rattle.message.specs.declared.reaction.Outbox.{Outbox}
use Rattle.message.specs.declared.reaction.Reaction.{Reaction}
use Rattle.trail.specs.declared.entry.Entry.{Entry}

-- The messages of an outbox, in their order.
abbrev pub gathered : List (Option (Message ℕ)) → List (Message ℕ)
gathered [] = []
gathered (None ∷ ms) = gathered ms
gathered (Some m ∷ ms) = m ∷ gathered ms

abbrev pub sent : Outbox → List (Message ℕ)
sent o = gathered o.at

abbrev pub sent_count : Outbox → ℕ
sent_count o = length (sent o)

abbrev pub silent : Outbox
silent = record { at = None ∷ None ∷ None ∷ None ∷ [] }

abbrev pub single : Message ℕ → Outbox
single m = record { at = Some m ∷ None ∷ None ∷ None ∷ [] }

-- What a reaction may be: telling a word or nothing, sending one message, or doing an operation.
abbrev pub telling : {S : Type 0} → Option ℕ → S → Reaction S
telling v s = record { next = s; sent = silent; entry = None; answer = v }

abbrev pub quiet : {S : Type 0} → S → Reaction S
quiet s = telling None s

abbrev pub sending : {S : Type 0} → Message ℕ → S → Reaction S
sending m s = record (quiet s) { sent = single m }

abbrev pub doing : {S : Type 0} → Entry → Option ℕ → S → Reaction S
doing e v s = record (telling v s) { entry = Some e }
