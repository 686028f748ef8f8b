-- What a call does: the first thing that forbids it, or what one node does; then one commit.
use Rattle.std.specs.Prelude.{ℕ, ◌+◌, Bool, if◌then◌else◌, ◌&&◌, List, [], ◌∷◌, ◌++◌, length, Some, None, Ok, Err, Option, Result, nat_le, nat_lt, slice_index_or}
use Rattle.bridge.specs.Reactions as bridge
use Rattle.bridge.specs.declared.fault.DeviceFault.{DeviceFault}
use Rattle.bridge.specs.declared.state.Bridge.{Bridge}
use Rattle.device.specs.Meaning.{Meaning}
use Rattle.home.specs.Reactions as home
use Rattle.home.specs.declared.machine.Home.{Home}
use Rattle.list.specs.Contents.{removed}
use Rattle.message.specs.Checks.{well_formed}
use Rattle.message.specs.Kinds.{request_numbered}
use Rattle.message.specs.Messages.{no_message}
use Rattle.message.specs.Nodes.{node_numbered, device_node, home_node}
use Rattle.message.specs.Pairs.{oldest_of_pair}
use Rattle.message.specs.Reactions.{sent, sent_count}
use Rattle.message.specs.declared.figures.Figures.{Figures}
use Rattle.message.specs.declared.kind.Kind.{Kind}
use Rattle.message.specs.declared.message.Message.{Message}
use Rattle.message.specs.declared.node.Node.{Node}
use Rattle.message.specs.declared.node.Node.TheVariants as node
use Rattle.message.specs.declared.reaction.Outbox.{Outbox}
use Rattle.message.specs.declared.reaction.Reaction.{Reaction}
use Rattle.ordering.specs.Clocks.{is_within, number_end}
use Rattle.processor.specs.Calls as processor
use Rattle.processor.specs.Receive as processor_messages
use Rattle.processor.specs.States.{numbers_within}
use Rattle.processor.specs.declared.refusal.Refusal.{Refusal}
use Rattle.processor.specs.declared.state.Processor.{Processor}
use Rattle.std.specs.Option.{option_map, option_to_list}
use Rattle.trail.specs.declared.entry.Entry.{Entry}
use Rattle.coherence.specs.Worlds.{World, processor_at, home_at, with_processor, with_home, with_first, with_second, with_lists}
use Rattle.coherence.specs.declared.call.Call.{Call}
use Rattle.coherence.specs.declared.call.Call.TheVariants.{Load, Store, Request, LdIo, StIo, Collect, GiveUp, Act, Deliver, Poll}
use Rattle.coherence.specs.declared.fault.BoardFault.TheVariants.{NotFit, Argument, Refused, TrailFull, NumberEnds}
use Rattle.coherence.specs.declared.fault.Fault.{Fault}
use Rattle.coherence.specs.declared.fault.Fault.TheVariants.{Device, Network, Board}
use Rattle.coherence.specs.declared.fault.NetworkFault.TheVariants.{OlderWaits, NoRule, MessagesFull}

-- One node's reaction, in the world: the node, whether its numbers are within their end, what it sends, does and
-- tells, and the world with the node's next state.
pub record Effect (A B : Type 0) : Type 0 where
  pub node : ℕ
  pub within : Bool
  pub sent : Outbox
  pub entry : Option Entry
  pub answer : Option ℕ
  pub next : World A B

abbrev pub Answer : Type 0
Answer = Result (Option ℕ) Fault

abbrev pub argument : ℕ → Fault
argument i = Board (Argument i)

-- A test: the fault where it fails, else what comes after.
abbrev pub check : {R : Type 0} → Bool → Fault → Result R Fault → Result R Fault
check ok f r = if ok then r else Err f

-- How many records a list holds, and how many it can hold.
pub record Filling : Type 0 where
  pub count : ℕ
  pub room : ℕ

abbrev pub filling : {T : Type 0} → List T → ℕ → Filling
filling xs room = record { count = length xs; room = room }

abbrev pub takes : Filling → ℕ → Bool
takes l n = nat_le (l.count + n) l.room

-- Room for s messages and for t entries, in the order of the numbers, then what comes after.
abbrev pub roomy : {R : Type 0} → Filling → ℕ → Filling → ℕ → Result R Fault → Result R Fault
roomy messages s trail t r =
    check (takes messages s) (Network (MessagesFull messages.room))
    (check (takes trail t) (Board (TrailFull trail.room)) r)

-- No number of a device node passed its end; the next number may stand one past it.
abbrev pub bridge_within : {S : Type 0} → Bridge S ℕ → Bool
bridge_within b = is_within b.clock && nat_le b.sequence (number_end + 1)

module _ {A B : Type 0} where
  -- What a node's reaction does in the world: the test of its numbers, and the world with its next state.
  abbrev pub by : {S : Type 0} → ℕ → (S → Bool) → (S → World A B) → Reaction S → Effect A B
  by node within put r = record {
    node = node;
    within = within r.next;
    sent = r.sent;
    entry = r.entry;
    answer = r.answer;
    next = put r.next;
  }

  abbrev pub by_processor : World A B → ℕ → Reaction (Processor ℕ) → Effect A B
  by_processor w p = by p numbers_within (with_processor w p)

  abbrev pub by_home : World A B → ℕ → Reaction (Home ℕ) → Effect A B
  by_home w b = by (home_node b) (λ h. is_within h.clock) (with_home w b)

  abbrev pub by_first : World A B → Reaction (Bridge A ℕ) → Effect A B
  by_first w = by (device_node 0) bridge_within (with_first w)

  abbrev pub by_second : World A B → Reaction (Bridge B ℕ) → Effect A B
  by_second w = by (device_node 1) bridge_within (with_second w)

  abbrev pub called : World A B → ℕ → Result (Reaction (Processor ℕ)) Refusal → Result (Effect A B) Fault
  called w p (Ok r) = Ok (by_processor w p r)
  called w p (Err f) = Err (Board (Refused f))

  abbrev pub wished : {S : Type 0} → (Reaction (Bridge S ℕ) → Effect A B) → Result (Reaction (Bridge S ℕ)) DeviceFault
      → Result (Effect A B) Fault
  wished effect (Ok r) = Ok (effect r)
  wished effect (Err f) = Err (Device f)

  -- What forbids a commit: no room for the messages, none for the entry, a number past its end.
  abbrev pub fits : World A B → List (Message ℕ) → Effect A B → Result (Unit {0}) Fault
  fits w waiting e =
      roomy (filling waiting w.message_room) (sent_count e.sent)
      (filling w.trail w.trail_room) (length (option_to_list e.entry))
      (check e.within (Board (NumberEnds e.node)) (Ok tt))

  -- All or nothing.
  abbrev pub committed : World A B → List (Message ℕ) → Effect A B → Answer × World A B
  committed w waiting e = elim (fits w waiting e) [
    | Ok u ↦ (Ok e.answer, with_lists e.next (waiting ++ sent e.sent) (w.trail ++ option_to_list e.entry))
    | Err f ↦ (Err f, w)
  ]

module _ {A B : Type 0} (ma : Meaning A) (mb : Meaning B) where
  abbrev pub words_of : World A B → ℕ → List ℕ
  words_of w d = if nat_lt d 1 then ma.words w.first.device else mb.words w.second.device

  abbrev pub figures : World A B → Figures
  figures w = record { processors = w.count; counts = length (words_of w 0) ∷ (length (words_of w 1) ∷ []) }

  -- What a message does at the node that it goes to.
  abbrev pub reacted : World A B → Message ℕ → Option Node → Option (Effect A B)
  reacted w m None = None
  reacted w m (Some (node.Processor p)) =
      option_map (by_processor w p) (processor_messages.receive (processor_at w p) p m)
  reacted w m (Some (node.Device d)) =
      if nat_lt d 1
      then option_map (by_first w) (bridge.receive ma 0 w.first m)
      else option_map (by_second w) (bridge.receive mb 1 w.second m)
  reacted w m (Some (node.Home b)) = option_map (by_home w b) (home.received (home_at w b) b m)

  -- What a message does at its receiver, or none where it has no rule.
  abbrev pub delivered : World A B → Message ℕ → Option (Effect A B)
  delivered w m = if well_formed (figures w) m then reacted w m (node_numbered m.receiver) else None

  abbrev pub ruled : World A B → ℕ → Option (Effect A B) → Result (Effect A B) Fault
  ruled w i None = Err (Network (NoRule i))
  ruled w i (Some e) = Ok e

  -- The oldest of a pair goes first.
  abbrev pub in_turn : World A B → ℕ → Option ℕ → Result (Effect A B) Fault
  in_turn w i (Some o) = Err (Network (OlderWaits o))
  in_turn w i None = ruled w i (delivered w (slice_index_or w.messages i no_message))

  abbrev pub requested : World A B → ℕ → ℕ → Option Kind → Result (Effect A B) Fault
  requested w p b None = Err (argument 3)
  requested w p b (Some k) = called w p (processor.request (processor_at w p) p b k)

  abbrev pub acted : World A B → ℕ → Result (Effect A B) Fault
  acted w d =
      if nat_lt d 1
      then wished (by_first w) (bridge.act ma 0 w.count w.first)
      else wished (by_second w) (bridge.act mb 1 w.count w.second)

  -- The checks before the commit, in the order of their numbers.
  abbrev pub effect : Call → World A B → Result (Effect A B) Fault
  effect (Load p n) w =
      check (nat_lt p w.count) (argument 1) (check (nat_lt n 64) (argument 2)
      (called w p (processor.load (processor_at w p) p n)))
  effect (Store p n v) w =
      check (nat_lt p w.count) (argument 1) (check (nat_lt n 64) (argument 2)
      (called w p (processor.store (processor_at w p) p n v)))
  effect (Request p b k) w =
      check (nat_lt p w.count) (argument 1) (check (nat_lt b 16) (argument 2)
      (requested w p b (request_numbered k)))
  effect (LdIo p d n) w =
      check (nat_lt p w.count) (argument 1) (check (nat_lt d 2) (argument 2)
      (check (nat_lt n (length (words_of w d))) (argument 3)
      (called w p (processor.ldio (processor_at w p) p d n))))
  effect (StIo p d n v) w =
      check (nat_lt p w.count) (argument 1) (check (nat_lt d 2) (argument 2)
      (check (nat_lt n (length (words_of w d))) (argument 3)
      (called w p (processor.stio (processor_at w p) p d n v))))
  effect (Collect p d) w =
      check (nat_lt p w.count) (argument 1) (check (nat_lt d 2) (argument 2)
      (called w p (processor.collect (processor_at w p) d)))
  effect (GiveUp p d) w =
      check (nat_lt p w.count) (argument 1) (check (nat_lt d 2) (argument 2)
      (called w p (processor.give_up (processor_at w p) d)))
  effect (Act d) w = check (nat_lt d 2) (argument 1) (acted w d)
  effect (Deliver i) w =
      check (nat_lt i (length w.messages)) (argument 1)
      (in_turn w i (oldest_of_pair w.messages i))
  effect (Poll p) w = check (nat_lt p w.count) (argument 1) (Ok (by_processor w p (processor.poll (processor_at w p))))

  -- What still waits while the call is made: a delivered message does not.
  abbrev pub waiting : Call → World A B → List (Message ℕ)
  waiting (Deliver i) w = removed w.messages i
  waiting _ w = w.messages

  abbrev pub settled : Call → World A B → Result (Effect A B) Fault → Answer × World A B
  settled c w (Err f) = (Err f, w)
  settled c w (Ok e) = committed w (waiting c w) e

  abbrev pub step : Call → World A B → Answer × World A B
  step c w = settled c w (check w.fit (Board NotFit) (effect c w))
