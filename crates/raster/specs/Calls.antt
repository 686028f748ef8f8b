-- What a call says: the board and both lists as it found them, the call, its answer, and the same as it left them.
use Rattle.std.specs.Prelude.{◌≡◌, ℕ, List as Seq, Option}
use Rattle.coherence.specs.Steps.{Answer, by_processor, by_home, committed, delivered, ruled, settled, step}
use Rattle.coherence.specs.Worlds.{World}
use Rattle.coherence.specs.declared.call.Call.{Call}
use Rattle.coherence.specs.declared.call.Call.TheVariants.{Deliver}
use Rattle.device.specs.declared.meaning.Device.{Ghosts}
use Rattle.home.specs.declared.machine.Home.{Home}
use Rattle.list.specs.declared.storage.List.{List}
use Rattle.message.specs.declared.message.Message.{Message}
use Rattle.message.specs.declared.reaction.Reaction.{Reaction}
use Rattle.processor.specs.declared.state.Processor.{Processor}
use Rattle.trail.specs.declared.entry.Entry.{Entry}
use Rattle.raster.specs.Boards.{world}
use Rattle.raster.specs.Lists.{left}
use Rattle.raster.specs.Runs.{GoesOn, CallsComeTo}
use Rattle.raster.specs.declared.board.Board.{Board}
use Rattle.raster.specs.declared.ticket.Ticketed.{Ticketed}

module _ {A B : Type 0} (a : Ghosts A) (b : Ghosts B) (x : Board A B) (ms : List (Message ℕ)) (es : List Entry) where
  -- The world before the call.
  abbrev pub was : World a.State b.State
  was = world a.state b.state x ms es

  -- The answer, and the world that is left, are the step of the call.
  abbrev pub Stepped : Call → Answer → Board A B → List (Message ℕ) → List Entry → Type 0
  Stepped c r x₁ ms₁ es₁ = (r, world a.state b.state x₁ ms₁ es₁) ≡ step a.meaning b.meaning c was

  -- It is a step, and goes on with whatever run the board was reached in.
  pub record Did (c : Call) (r : Answer) (x₁ : Board A B) (ms₁ : List (Message ℕ)) (es₁ : List Entry) : Type 0 where
    pub step : Stepped c r x₁ ms₁ es₁
    pub run : GoesOn a.meaning b.meaning c was (r, world a.state b.state x₁ ms₁ es₁)

  -- Calls in turn, over the answers that were there before.
  abbrev pub Called : Seq Call → Seq Answer → Seq Answer → Board A B → List (Message ℕ) → List Entry → Type 0
  Called cs before now x₁ ms₁ es₁ =
      CallsComeTo a.meaning b.meaning was cs before now (world a.state b.state x₁ ms₁ es₁)

  -- Of a step: message m, at place i, reaches its receiver, or has no rule.
  abbrev pub Delivered : ℕ → Message ℕ → Answer → Board A B → List (Message ℕ) → List Entry → Type 0
  Delivered i m r x₁ ms₁ es₁ =
      (r, world a.state b.state x₁ ms₁ es₁)
      ≡ settled a.meaning b.meaning (Deliver i) was (ruled a.meaning b.meaning was i (delivered a.meaning b.meaning was m))

  -- Of a step: what processor p does is committed, once the message at `taken`, if any, is out; and home h likewise.
  abbrev pub ProcessorCommitted : Option ℕ → ℕ → Reaction (Processor ℕ) → Answer
      → Board A B → List (Message ℕ) → List Entry → Type 0
  ProcessorCommitted taken p y r x₁ ms₁ es₁ =
      (r, world a.state b.state x₁ ms₁ es₁) ≡ committed was (left was.messages taken) (by_processor was p y)

  abbrev pub HomeCommitted : Option ℕ → ℕ → Reaction (Home ℕ) → Answer
      → Board A B → List (Message ℕ) → List Entry → Type 0
  HomeCommitted taken h y r x₁ ms₁ es₁ =
      (r, world a.state b.state x₁ ms₁ es₁) ≡ committed was (left was.messages taken) (by_home was h y)

-- A call by ticket is a call of the board inside.
abbrev pub ByTicket : {A B : Type 0} (a : Ghosts A) (b : Ghosts B) → Ticketed A B → List (Message ℕ) → List Entry
    → Call → Answer → Ticketed A B → List (Message ℕ) → List Entry → Type 0
ByTicket a b x ms es c r x₁ ms₁ es₁ = Did a b x.board ms es c r x₁.board ms₁ es₁
