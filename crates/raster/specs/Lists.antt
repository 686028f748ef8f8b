-- Both lists as a world holds them: what waits, what was done, and the room of each.
use Rattle.std.specs.Prelude.{ℕ, List as Seq, ◌++◌, Some, None, Option, Result}
use Rattle.coherence.specs.Steps.{filling, roomy}
use Rattle.coherence.specs.declared.fault.Fault.{Fault}
use Rattle.list.specs.Contents.{contents, room, removed}
use Rattle.list.specs.declared.storage.List.{List}
use Rattle.message.specs.Reactions.{sent}
use Rattle.message.specs.declared.message.Message.{Message}
use Rattle.message.specs.declared.reaction.Outbox.{Outbox}
use Rattle.std.specs.Option.{option_to_list}
use Rattle.trail.specs.declared.entry.Entry.{Entry}

pub record Lists : Type 0 where
  pub messages : Seq (Message ℕ)
  pub trail : Seq Entry
  pub message_room : ℕ
  pub trail_room : ℕ

abbrev pub lists : List (Message ℕ) → List Entry → Lists
lists ms es = record { messages = contents ms; trail = contents es; message_room = room ms; trail_room = room es }

-- What waits once the delivered message, if any, is taken out.
abbrev pub left : {T : Type 0} → Seq T → Option ℕ → Seq T
left xs None = xs
left xs (Some i) = removed xs i

-- Room for s messages once the delivered one is out, and for t entries; then what comes after.
abbrev pub room_for : {R : Type 0} → Lists → Option ℕ → ℕ → ℕ → Result R Fault → Result R Fault
room_for l taken s t r = roomy (filling (left l.messages taken) l.message_room) s (filling l.trail l.trail_room) t r

-- The delivered message goes out; what is sent and done comes in.
abbrev pub posted : Lists → Option ℕ → Outbox → Option Entry → Lists
posted l taken out done = record l {
  messages = left l.messages taken ++ sent out;
  trail = l.trail ++ option_to_list done;
}
