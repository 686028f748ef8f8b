-- What a home does when a message reaches it. h is the home of block b, r a request, s a set of processors.
use Rattle.std.specs.Prelude.{ℕ, max, Bool, false, if◌then◌else◌, [], ◌∷◌, is_some, Some, None, Option, option_map, nat_eq, nat_lt}
use Rattle.message.specs.Kinds.{same_kind}
use Rattle.message.specs.Messages.{plain}
use Rattle.message.specs.Nodes.{home_node, is_device}
use Rattle.message.specs.Reactions.{quiet, sending}
use Rattle.message.specs.declared.kind.Kind.{Kind}
use Rattle.message.specs.declared.kind.Kind.TheVariants.{Wblk, Ack, Nack, Taken}
use Rattle.message.specs.declared.message.Message.{Message}
use Rattle.message.specs.declared.reaction.Outbox.{Outbox}
use Rattle.message.specs.declared.reaction.Reaction.{Reaction}
use Rattle.ordering.specs.Clocks.{passed, counted}
use Rattle.ordering.specs.Stamps.{stamped}
use Rattle.ordering.specs.Words.{no_words}
use Rattle.ordering.specs.declared.clock.Clock.{Clock}
use Rattle.ordering.specs.declared.operation.Operation.{Operation}
use Rattle.ordering.specs.declared.operation.Words.{Words}
use Rattle.trail.specs.declared.entry.Entry.{Entry}
use Rattle.home.specs.Directories.{round_of, view, asking, awaits, heard_round, heard, replied, freed}
use Rattle.home.specs.Homes.{home}
use Rattle.home.specs.Plans.{plan}
use Rattle.home.specs.Requests.{request_of, asks_by, reply_kind, carries_words, operation_for}
use Rattle.home.specs.Sets.{nobody, has, is_empty}
use Rattle.home.specs.declared.directory.Directory.{Directory}
use Rattle.home.specs.declared.directory.Phase.TheVariants.{Replied}
use Rattle.home.specs.declared.directory.Round.{Round}
use Rattle.home.specs.declared.machine.Home.{Home}
use Rattle.home.specs.declared.plan.Plan.{Plan}
use Rattle.home.specs.declared.plan.Plan.TheVariants.{Refuse, Ask}
use Rattle.home.specs.Sets.{Processors}
use Rattle.home.specs.declared.request.Request.{Request}

-- To finish, a home passes once the greatest clock that it heard and, for a device, the request's; then it does the
-- device's operation.
abbrev pub clock_after : Clock ℕ → Round → Clock ℕ
clock_after c g =
    if is_some (operation_for g.request.kind)
    then counted (passed c (max g.latest g.request.clock))
    else passed c g.latest

-- Only STblk writes.
abbrev pub words_after : Words → Request → Words
words_after w r = if same_kind r.kind Wblk then r.words else w

-- The entry of a block operation, and which operation a request is for, if any.
abbrev pub block_entry : ℕ → Request → Words → Clock ℕ → Operation → Entry
block_entry b r w c o = record {
  party = r.requester;
  sequence = r.sequence;
  operation = o;
  space = 0;
  place = b;
  values = w;
  stamp = stamped c (home_node b);
}

abbrev pub entry_for : ℕ → Request → Words → Clock ℕ → Option Entry
entry_for b r w c = option_map (block_entry b r w c) (operation_for r.kind)

abbrev pub reply : ℕ → Request → Words → ℕ → Message ℕ
reply b r w c = record (plain (reply_kind r.kind) (home_node b) r.requester b) {
  words = if carries_words r.kind then w else no_words;
  clock = c;
}

abbrev pub finished_at : Clock ℕ → Words → Directory → Request → ℕ → Reaction (Home ℕ)
finished_at c w d r b =
    record (sending (reply b r w c.global) (home c w (replied d r))) { entry = entry_for b r w c }

-- All who were asked are heard: g is what is under way.
abbrev pub finished_in : Home ℕ → Round → ℕ → Reaction (Home ℕ)
finished_in h g b = finished_at (clock_after h.clock g) (words_after h.words g.request) h.directory g.request b

abbrev pub finished : Home ℕ → ℕ → Reaction (Home ℕ)
finished h b = finished_in h (round_of h.directory) b

-- The request goes back as it came, and nothing changes.
abbrev pub nack : ℕ → Request → Message ℕ
nack b r = record (plain Nack (home_node b) r.requester b) {
  words = r.words;
  clock = r.clock;
  sequence = r.sequence;
  refused = Some r.kind;
}

abbrev pub refused : Home ℕ → ℕ → Request → Reaction (Home ℕ)
refused h b r = sending (nack b r) h

-- INV or DOWN to each of the set, in rising order.
abbrev pub ask_one : Kind → ℕ → Processors → ℕ → Option (Message ℕ)
ask_one k b s p = if has s p then Some (plain k (home_node b) p b) else None

abbrev pub asks : Kind → ℕ → Processors → Outbox
asks k b s = record { at = ask_one k b s 0 ∷ (ask_one k b s 1 ∷ (ask_one k b s 2 ∷ (ask_one k b s 3 ∷ []))) }

-- The home with the request taken and these awaited. With nobody awaited it finishes in the same step.
abbrev pub asking_home : Home ℕ → Request → Processors → Home ℕ
asking_home h r s = record h { directory = asking h.directory r s }

abbrev pub began : Home ℕ → Request → Home ℕ
began h r = asking_home h r nobody

abbrev pub asked : Home ℕ → ℕ → Request → Processors → Reaction (Home ℕ)
asked h b r s =
    if is_empty s
    then finished (began h r) b
    else record (quiet (asking_home h r s)) { sent = asks (asks_by r.kind) b s }

abbrev pub planned : Home ℕ → ℕ → Request → Option Plan → Option (Reaction (Home ℕ))
planned h b r None = None
planned h b r (Some Refuse) = Some (refused h b r)
planned h b r (Some (Ask s)) = Some (asked h b r s)

abbrev pub requested : Home ℕ → ℕ → Request → Option (Reaction (Home ℕ))
requested h b r = planned h b r (plan r.kind (view h.directory) h.directory.holders r.requester)

-- The sender of m is heard, and then g is under way; words under the exclusive mark are the block's words now.
abbrev pub heard_in : Home ℕ → Round → Message ℕ → Home ℕ
heard_in h g m = record h {
  words = if m.exclusive then m.words else h.words;
  directory = heard h.directory g m.sender;
}

abbrev pub heard_home : Home ℕ → Message ℕ → Home ℕ
heard_home h m = heard_in h (heard_round (round_of h.directory) m.sender m.clock) m

-- The last who is heard lets the home finish.
abbrev pub after_hearing : Home ℕ → ℕ → Reaction (Home ℕ)
after_hearing h b = if is_empty (round_of h.directory).awaited then finished h b else quiet h

abbrev pub acknowledged : Home ℕ → ℕ → Message ℕ → Option (Reaction (Home ℕ))
acknowledged h b m = if awaits h.directory m.sender then Some (after_hearing (heard_home h m) b) else None

-- A device's TAKEN makes the home pass its own global, a processor's moves no clock.
abbrev pub clock_freed : Clock ℕ → ℕ → Clock ℕ
clock_freed c n = if is_device n then passed c c.global else c

abbrev pub awaits_taken : Directory → ℕ → Bool
awaits_taken d n = elim d.phase [ Replied r ↦ nat_eq r.requester n | _ ↦ false ]

abbrev pub taken : Home ℕ → ℕ → Option (Reaction (Home ℕ))
taken h n =
    if awaits_taken h.directory n
    then Some (quiet (record h { clock = clock_freed h.clock n; directory = freed h.directory }))
    else None

-- By the kind of the message: an acknowledgement, TAKEN, or one of the requests.
abbrev pub received_kind : Home ℕ → ℕ → Message ℕ → Option (Reaction (Home ℕ))
received_kind h b m =
    if same_kind m.kind Ack then acknowledged h b m
    else if same_kind m.kind Taken then taken h m.sender
    else requested h b (request_of m)

-- There are sixteen homes.
abbrev pub received : Home ℕ → ℕ → Message ℕ → Option (Reaction (Home ℕ))
received h b m = if nat_lt b 16 then received_kind h b m else None
