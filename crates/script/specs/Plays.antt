-- What playing a script says: the lines, and the board and its lists before and after.
use Rattle.std.specs.Prelude.{◌≡◌, ℕ, List}
use Rattle.coherence.specs.Histories.{run}
use Rattle.coherence.specs.Makings.{Making, make}
use Rattle.coherence.specs.Promise.{OrderKept}
use Rattle.coherence.specs.Worlds.{World}
use Rattle.device.specs.Meaning.{Meaning}
use Rattle.device.specs.declared.meaning.Device.{Ghosts}
use Rattle.list.specs.Contents.{contents, room}
use Rattle.list.specs.declared.storage.List.{List as Records}
use Rattle.message.specs.declared.message.Message.{Message}
use Rattle.raster.specs.Boards.{world}
use Rattle.raster.specs.Runs.{world_after}
use Rattle.raster.specs.declared.board.Board.{Board}
use Rattle.trail.specs.declared.entry.Entry.{Entry}
use Rattle.script.specs.Lines.{Text, script_lines}
use Rattle.script.specs.Scripts.{LineResult, lined, later, calls_of, outcomes_of, noted, script_making, script_outcomes}
use Rattle.script.specs.declared.outcome.Outcome.{Outcome}

module _ {A B : Type 0} (ma : Meaning A) (mb : Meaning B) where
  -- From w the lines lead to v; their outcomes are noted in turn.
  pub record LinesComeTo (w : World A B) (ls : List Text) (before now : Records Outcome) (v : World A B) : Type 0 where
    pub world : v ≡ world_after ma mb w (calls_of ls)
    pub outcomes : contents now ≡ noted (room before) (contents before) (outcomes_of ma mb w ls)

  -- All lines, on a board made of k: the world is that of the run's history, which keeps the order promise.
  pub record ScriptComesTo (lines : List Text) (k : Making A B) (before now : Records Outcome) (v : World A B) : Type 0 where
    pub world : v ≡ (run ma mb k (calls_of (later lines))).world
    pub outcomes : contents now ≡ noted (room before) (contents before) (script_outcomes ma mb (make ma mb k) lines)
    pub promise : OrderKept ma mb k (run ma mb k (calls_of (later lines)))

module _ {A B : Type 0} (a : Ghosts A) (b : Ghosts B) (x : Board A B) (ms : Records (Message ℕ)) (es : Records Entry) where
  -- A line on this board: what it comes to, and what is left.
  abbrev pub Lined : Text → LineResult → Board A B → Records (Message ℕ) → Records Entry → Type 0
  Lined l r x₁ ms₁ es₁ = (r, world a.state b.state x₁ ms₁ es₁) ≡ lined a.meaning b.meaning l (world a.state b.state x ms es)

  abbrev pub LinesPlayed : List Text → Records Outcome → Records Outcome
      → Board A B → Records (Message ℕ) → Records Entry → Type 0
  LinesPlayed ls before now x₁ ms₁ es₁ =
      LinesComeTo a.meaning b.meaning (world a.state b.state x ms es) ls before now (world a.state b.state x₁ ms₁ es₁)

-- A script on a board that is made of these words and devices, with these lists.
abbrev pub Played : {A B : Type 0} (a : Ghosts A) (b : Ghosts B) → List ℕ → List ℕ → A → B
    → Records (Message ℕ) → Records Entry → Records Outcome → Records Outcome
    → Board A B → Records (Message ℕ) → Records Entry → Type 0
Played a b script ws first second ms es before now x₁ ms₁ es₁ =
    let lines = script_lines script in
    let k = script_making lines ws (a.state first) (b.state second) ms es in
    ScriptComesTo a.meaning b.meaning lines k before now (world a.state b.state x₁ ms₁ es₁)
