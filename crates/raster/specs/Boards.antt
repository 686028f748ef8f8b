-- The world that a board and its two lists are. The devices show their states.
use Rattle.std.specs.Prelude.{◌≡◌, ℕ, Bool, ◌&&◌, if◌then◌else◌, List as Seq, [], ◌∷◌, length, map, Ok, Result, ◌==◌, nat_le, nat_lt, slice_index_or}
use Rattle.bridge.specs.States.{view}
use Rattle.coherence.specs.Makings.{Making, make, block_words}
use Rattle.coherence.specs.Steps.{Answer, argument, check}
use Rattle.coherence.specs.Worlds.{World, no_processor}
use Rattle.coherence.specs.declared.call.Call.{Call}
use Rattle.coherence.specs.declared.fault.BoardFault.TheVariants.{NotFit}
use Rattle.coherence.specs.declared.fault.Fault.{Fault}
use Rattle.coherence.specs.declared.fault.Fault.TheVariants.{Board as AtBoard}
use Rattle.device.specs.declared.meaning.Device.{Ghosts}
use Rattle.home.specs.Homes.{new_home}
use Rattle.home.specs.declared.machine.Home.{Home}
use Rattle.list.specs.Contents.{contents, room}
use Rattle.list.specs.declared.storage.List.{List}
use Rattle.message.specs.declared.figures.Figures.{Figures}
use Rattle.message.specs.declared.message.Message.{Message}
use Rattle.ordering.specs.Clocks.{number_end}
use Rattle.processor.specs.declared.state.Processor.{Processor}
use Rattle.std.specs.List.{range_with_len}
use Rattle.trail.specs.declared.entry.Entry.{Entry}
use Rattle.raster.specs.Runs.{RunComesTo}
use Rattle.raster.specs.declared.board.Board.{Board}

abbrev pub world : {A B S T : Type 0} → (A → S) → (B → T) → Board A B → List (Message ℕ) → List Entry → World S T
world first second b ms es = record {
  fit = b.tables.fit;
  count = b.tables.count;
  processors = b.tables.processors;
  homes = b.tables.homes;
  first = view first b.first;
  second = view second b.second;
  messages = contents ms;
  trail = contents es;
  message_room = room ms;
  trail_room = room es;
}

module _ {A B : Type 0} (a : Ghosts A) (b : Ghosts B) where
  -- The words of a device; every number but 0 stands for the second.
  abbrev pub device_words : Board A B → ℕ → Seq ℕ
  device_words x d =
      if nat_lt d 1
      then a.meaning.words (a.state x.first.device)
      else b.meaning.words (b.state x.second.device)

  abbrev pub board_figures : Board A B → Figures
  board_figures x = record {
    processors = x.tables.count;
    counts = length (device_words x 0) ∷ (length (device_words x 1) ∷ []);
  }

-- A processor of a board that is fit, or why the call is refused.
abbrev pub known_processor : {A B : Type 0} → Board A B → ℕ → Result (Processor ℕ) Fault
known_processor x p =
    check x.tables.fit (AtBoard NotFit)
    (check (nat_lt p x.tables.count) (argument 1) (Ok (slice_index_or x.tables.processors p no_processor)))

-- A device's word, the second and the third argument.
abbrev pub known_word : {A B : Type 0} (a : Ghosts A) (b : Ghosts B) → Board A B → ℕ → ℕ → Result (Unit {0}) Fault
known_word a b x d n =
    check (nat_lt d 2) (argument 2) (check (nat_lt n (length (device_words a b x d))) (argument 3) (Ok tt))

-- What a board is made of, with the rooms of the lists that it is made with.
abbrev pub making : {S T : Type 0} → ℕ → ℕ → Seq ℕ → S → T → List (Message ℕ) → List Entry → Making S T
making ps clock ws a b ms es = record {
  processors = ps;
  clock = clock;
  words = ws;
  first = a;
  second = b;
  message_room = room ms;
  trail_room = room es;
}

abbrev pub board_making : {A B : Type 0} (a : Ghosts A) (b : Ghosts B)
    → ℕ → ℕ → Seq ℕ → A → B → List (Message ℕ) → List Entry → Making a.State b.State
board_making a b ps clock ws first second ms es = making ps clock ws (a.state first) (b.state second) ms es

module _ {A B : Type 0} (a : Ghosts A) (b : Ghosts B) (ps clock : ℕ) (ws : Seq ℕ) (first : A) (second : B)
    (ms : List (Message ℕ)) (es : List Entry) where
  -- The world that a board is made as.
  abbrev pub Made : Board A B → List (Message ℕ) → List Entry → Type 0
  Made x₁ ms₁ es₁ = world a.state b.state x₁ ms₁ es₁ ≡ make a.meaning b.meaning (board_making a b ps clock ws first second ms es)

  -- A board is made, and then called; the run keeps the order promise.
  abbrev pub Ran : Seq Call → Seq Answer → Seq Answer → Board A B → List (Message ℕ) → List Entry → Type 0
  Ran cs before now x₁ ms₁ es₁ =
      RunComesTo a.meaning b.meaning (board_making a b ps clock ws first second ms es) cs before now
      (world a.state b.state x₁ ms₁ es₁)

-- The homes of the 16 blocks at the making.
abbrev pub homes_from : Seq ℕ → ℕ → Seq (Home ℕ)
homes_from ws clock = map (λ b. new_home clock (block_words ws b)) (range_with_len 0 16)

-- The figures of a board, by the number of its processors, its clock, its words and the words of each device.
abbrev pub figures_fit : ℕ → ℕ → ℕ → ℕ → ℕ → Bool
figures_fit ps clock n a b =
    nat_le 1 ps && (nat_le ps 4
    && (nat_le clock number_end && n == 64 && nat_le 1 a && nat_le a 64 && nat_le 1 b && nat_le b 64))
