-- The shift that the program shows: what its board is made of, its calls in turn, and the world that so many of them
-- lead to.
use Rattle.std.specs.Prelude.{ℕ, Bool, List, [], ◌∷◌, replicate, take, is_ok}
use Rattle.coherence.specs.Makings.{Making, make}
use Rattle.coherence.specs.Steps.{step}
use Rattle.coherence.specs.Worlds.{World}
use Rattle.coherence.specs.declared.call.Call.{Call}
use Rattle.coherence.specs.declared.call.Call.TheVariants.{LdIo, StIo, Collect, GiveUp, Deliver}
use Rattle.coherence.specs.declared.fault.BoardFault.TheVariants.{Refused}
use Rattle.coherence.specs.declared.fault.Fault.{Fault}
use Rattle.coherence.specs.declared.fault.Fault.TheVariants.{Board}
use Rattle.device.specs.Meaning.{Meaning}
use Rattle.device.specs.declared.meaning.Device.{Ghosts}
use Rattle.list.specs.declared.storage.List.{List as Records}
use Rattle.message.specs.declared.message.Message.{Message}
use Rattle.processor.specs.declared.refusal.Refusal.TheVariants.{SlotTaken, NotCollectable}
use Rattle.raster.specs.Boards.{world}
use Rattle.raster.specs.Runs.{world_after}
use Rattle.raster.specs.declared.ticket.Ticketed.{Ticketed}
use Rattle.trail.specs.declared.entry.Entry.{Entry}
use Rattle.lamp.specs.Banks.{bank_meaning}

abbrev pub shift_board : Making (List ℕ) (List ℕ)
shift_board = record {
  processors = 3;
  clock = 0;
  words = replicate 64 0;
  first = 10 ∷ (11 ∷ (12 ∷ (13 ∷ [])));
  second = 20 ∷ (21 ∷ (22 ∷ (23 ∷ [])));
  message_room = 16;
  trail_room = 16;
}

-- All ask; what is asked of device 0 comes first. Processor 0 is early, then gets its word; processor 1 gives up;
-- processor 2 waits.
abbrev pub shift_calls : List Call
shift_calls =
    StIo 0 0 1 7 ∷ (LdIo 0 0 1 ∷ (LdIo 1 0 2 ∷ (LdIo 2 1 3 ∷ (LdIo 1 0 0
    ∷ (Deliver 0 ∷ (Deliver 0 ∷ (Collect 0 0 ∷ (Deliver 2 ∷ (Collect 0 0
    ∷ (GiveUp 1 0 ∷ (Deliver 0 ∷ (Deliver 1
    ∷ (Deliver 0 ∷ (Deliver 0 ∷ (Collect 2 1 ∷ [])))))))))))))))

unfoldable pub reached : ℕ → World (List ℕ) (List ℕ)
reached n = world_after bank_meaning bank_meaning (make bank_meaning bank_meaning shift_board) (take n shift_calls)

-- Whether a call is accepted.
abbrev pub accepts : {A B : Type 0} → Meaning A → Meaning B → Call → World A B → Bool
accepts ma mb c w = is_ok (step ma mb c w).0

-- The same of a board and its lists.
abbrev pub accepted_by : {A B : Type 0} (a : Ghosts A) (b : Ghosts B) → Ticketed A B → Records (Message ℕ) → Records Entry → Call → Bool
accepted_by a b x ms es c = accepts a.meaning b.meaning c (world a.state b.state x.board ms es)

-- Why a processor cannot ask a device for a second word, and why it cannot collect a word that has not come.
abbrev pub slot_taken : ℕ → Fault
slot_taken d = Board (Refused (SlotTaken d))

abbrev pub too_early : ℕ → Fault
too_early d = Board (Refused (NotCollectable d))
