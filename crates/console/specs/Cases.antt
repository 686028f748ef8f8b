-- Worked cases, computed: a windowed plate setter and a scanner on a board of two processors with zero memory.
use Rattle.std.specs.Prelude.{◌≡◌, ℕ, true, List, [], ◌∷◌, ◌++◌, map, replicate, Some, None, Ok, Err, Option, slice_index_or}
use Rattle.bridge.specs.declared.fault.DeviceFault.TheVariants.{NoWish, BadWish, MustWait}
use Rattle.sweepers.specs.Plates.{blank_plate}
use Rattle.sweepers.specs.Scanners.{Scanner, scanner_meaning, blank_scanner}
use Rattle.device.specs.Windows.{window}
use Rattle.message.specs.Messages.{no_message}
use Rattle.message.specs.declared.kind.Kind.TheVariants as kind
use Rattle.ordering.specs.Clocks.{passed}
use Rattle.ordering.specs.Stamps.{below}
use Rattle.ordering.specs.declared.clock.Clock.{Clock}
use Rattle.ordering.specs.declared.stamp.Stamp.{Stamp}
use Rattle.std.specs.Option.{option_map}
use Rattle.processor.specs.declared.refusal.Refusal.TheVariants.{NotHeld, Unfit, RequestOut, Awaits, SlotTaken, NotCollectable}
use Rattle.std.specs.List.{range_with_len, slice_get}
use Rattle.trail.specs.declared.entry.Entry.{Entry}
use Rattle.coherence.specs.Faults.{fault_number, fault_place}
use Rattle.coherence.specs.Histories.{run}
use Rattle.coherence.specs.Makings.{Making}
use Rattle.coherence.specs.Steps.{Answer, step}
use Rattle.coherence.specs.Worlds.{World, processor_at, home_at}
use Rattle.coherence.specs.declared.call.Call.{Call}
use Rattle.coherence.specs.declared.call.Call.TheVariants.{Load, Store, Request, StIo, Act, Deliver}
use Rattle.coherence.specs.declared.fault.BoardFault.TheVariants.{NotFit, Argument, Refused, TrailFull, NumberEnds}
use Rattle.coherence.specs.declared.fault.Fault.{Fault}
use Rattle.coherence.specs.declared.fault.Fault.TheVariants.{Device, Network, Board}
use Rattle.coherence.specs.declared.fault.NetworkFault.TheVariants.{OlderWaits, NoRule, MessagesFull}
use Rattle.console.specs.Program.{Plates, plates_meaning}

-- So many processors, a start clock, and the rooms for messages and for the trail.
abbrev made_of : ℕ → ℕ → ℕ → ℕ → Making Plates Scanner
made_of processors start messages trail = record {
  processors = processors;
  clock = start;
  words = replicate 64 0;
  first = window blank_plate 4 8;
  second = blank_scanner;
  message_room = messages;
  trail_room = trail;
}

abbrev making : ℕ → Making Plates Scanner
making start = made_of 2 start 64 512

abbrev pub answer_on : Making Plates Scanner → List Call → Call → Answer
answer_on k calls c = (step plates_meaning scanner_meaning c (run plates_meaning scanner_meaning k calls).world).0

abbrev pub world_after : ℕ → List Call → World Plates Scanner
world_after start calls = (run plates_meaning scanner_meaning (making start) calls).world

abbrev pub answer_after : ℕ → List Call → Call → Answer
answer_after start calls c = answer_on (making start) calls c

-- A refusal by its number and place.
abbrev pub refused_with : Answer → Option (ℕ × ℕ)
refused_with (Ok v) = None
refused_with (Err f) = Some (fault_number f, fault_place f)

abbrev pub refused_after : ℕ → List Call → Call → Option (ℕ × ℕ)
refused_after start calls c = refused_with (answer_after start calls c)

abbrev pub clock_of : ℕ → ℕ → Clock ℕ
clock_of g l = record { global = g; local = l }

abbrev pub stamp : ℕ → ℕ → ℕ → Stamp
stamp g l n = record { global = g; local = l; node = n }

abbrev pub stamp_at : World Plates Scanner → ℕ → Option Stamp
stamp_at w i = option_map (λ (e : Entry). e.stamp) (slice_get w.trail i)

-- Processor 0 gets block 0 exclusive and stores 7.
abbrev pub owned : List Call
owned = Request 0 0 2 ∷ Deliver 0 ∷ Deliver 0 ∷ []

abbrev pub stored : List Call
stored = owned ++ (Store 0 0 7 ∷ [])

-- Processor 1's GETS reaches the home before processor 0's TAKEN.
abbrev pub too_early : List Call
too_early = stored ++ (Request 1 0 1 ∷ Deliver 1 ∷ [])

-- It asks again after TAKEN: GETS, DOWN, ACK, S-DATA. Then both load.
abbrev pub shared : List Call
shared = stored ++ (Deliver 0 ∷ Request 1 0 1 ∷ Deliver 0 ∷ Deliver 0 ∷ Deliver 0 ∷ Deliver 0 ∷ [])

abbrev pub loaded : List Call
loaded = shared ++ (Load 1 0 ∷ Load 0 0 ∷ [])

-- Processor 0 writes to the plate setter first block 15, count 2, processor 0 and command 1.
abbrev pub sweeping : List Call
sweeping =
    StIo 0 0 1 15 ∷ Deliver 0 ∷ StIo 0 0 2 2 ∷ Deliver 0 ∷ StIo 0 0 3 0 ∷ Deliver 0 ∷ StIo 0 0 0 1 ∷ Deliver 0 ∷ []

-- The sixteen faults in the order of their numbers, each with the place p, if it has one.
abbrev pub faults_at : ℕ → List Fault
faults_at p =
    Board NotFit ∷ Board (Argument p) ∷ Board (Refused (NotHeld p)) ∷ Board (Refused (Unfit p))
    ∷ Board (Refused (RequestOut p)) ∷ Board (Refused (Awaits p)) ∷ Board (Refused (SlotTaken p))
    ∷ Board (Refused (NotCollectable p)) ∷ Network (OlderWaits p) ∷ Network (NoRule p)
    ∷ Device (NoWish p) ∷ Device (BadWish p) ∷ Device (MustWait p) ∷ Network (MessagesFull p)
    ∷ Board (TrailFull p) ∷ Board (NumberEnds p) ∷ []

pub record WorkedCases : Type 0 where
  pub faults_numbered : map fault_number (faults_at 5) ≡ range_with_len 1 16
  pub faults_placed : map fault_place (faults_at 5) ≡ 0 ∷ replicate 15 5
  pub passes_five : passed (clock_of 3 2) 5 ≡ clock_of 6 0
  pub passes_two : passed (clock_of 3 2) 2 ≡ clock_of 4 0
  pub global_first : below (stamp 2 9 3) (stamp 3 1 0) ≡ true
  pub node_last : below (stamp 3 1 0) (stamp 3 1 4) ≡ true
  pub home_passed : (home_at (world_after 0 owned) 0).clock.global ≡ 1
  pub owner_passed : (processor_at (world_after 0 owned) 0).clock.global ≡ 2
  pub store_stamped : stamp_at (world_after 0 stored) 0 ≡ Some (stamp 2 1 0)
  pub early_gets_refused : (slice_index_or (world_after 0 too_early).messages 1 no_message).kind ≡ kind.Nack
  pub owner_downgraded : (processor_at (world_after 0 shared) 0).clock.global ≡ 3
  pub home_above_owner : (home_at (world_after 0 shared) 0).clock.global ≡ 4
  pub sharer_above_home : (processor_at (world_after 0 shared) 1).clock.global ≡ 5
  pub sharer_loads : answer_after 0 shared (Load 1 0) ≡ Ok (Some 7)
  pub owner_loads : answer_after 0 shared (Load 0 0) ≡ Ok (Some 7)
  pub sharer_stamped : stamp_at (world_after 0 loaded) 1 ≡ Some (stamp 5 1 1)
  pub owner_stamped : stamp_at (world_after 0 loaded) 2 ≡ Some (stamp 3 1 0)
  pub first_argument_refused :
      map (refused_after 0 []) (Request 9 99 9 ∷ StIo 9 9 99 0 ∷ Load 9 99 ∷ []) ≡ replicate 3 (Some (2, 1))
  pub second_argument_refused :
      map (refused_after 0 []) (Request 0 99 9 ∷ StIo 0 9 99 0 ∷ Load 0 99 ∷ []) ≡ replicate 3 (Some (2, 2))
  pub third_argument_refused : map (refused_after 0 []) (Request 0 0 9 ∷ StIo 0 0 99 0 ∷ []) ≡ replicate 2 (Some (2, 3))
  pub unfit_comes_first : refused_with (answer_on (made_of 5 0 64 512) [] (Load 9 99)) ≡ Some (1, 0)
  pub messages_full : refused_with (answer_on (made_of 2 0 1 512) (Request 0 0 1 ∷ []) (Request 1 0 1)) ≡ Some (14, 1)
  pub trail_full_comes_first :
      refused_with (answer_on (made_of 2 1000000000 64 0) (StIo 0 0 1 9 ∷ []) (Deliver 0)) ≡ Some (15, 0)
  pub older_goes_first : refused_after 0 (StIo 0 0 1 9 ∷ StIo 0 0 1 8 ∷ []) (Deliver 1) ≡ Some (9, 0)
  pub number_ends : refused_after 1000000000 (StIo 0 0 1 9 ∷ []) (Deliver 0) ≡ Some (16, 4)
  pub end_itself_is_had : answer_after 999999999 (StIo 0 0 1 9 ∷ []) (Deliver 0) ≡ Ok None
  pub last_block_asked : answer_after 0 sweeping (Act 0) ≡ Ok None
  pub block_past_the_last : refused_after 0 (sweeping ++ (Act 0 ∷ [])) (Act 0) ≡ Some (12, 0)
