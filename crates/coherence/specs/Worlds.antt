-- A world: the board's nodes, what waits between them, and the trail, with the room of both lists.
-- A and B are the states of the two devices.
use Rattle.std.specs.Prelude.{ℕ, Bool, false, List, [], None, slice_index_or, slice_set}
use Rattle.bridge.specs.declared.state.Bridge.{Bridge}
use Rattle.home.specs.declared.directory.Phase.TheVariants.{Free}
use Rattle.home.specs.declared.machine.Home.{Home}
use Rattle.message.specs.declared.message.Message.{Message}
use Rattle.processor.specs.declared.state.Processor.{Processor}
use Rattle.trail.specs.declared.entry.Entry.{Entry}

pub record World (A B : Type 0) : Type 0 where
  pub fit : Bool
  pub count : ℕ
  pub processors : List (Processor ℕ)
  pub homes : List (Home ℕ)
  pub first : Bridge A ℕ
  pub second : Bridge B ℕ
  pub messages : List (Message ℕ)
  pub trail : List Entry
  pub message_room : ℕ
  pub trail_room : ℕ

-- Stand for a node that is not there.
abbrev pub no_processor : Processor ℕ
no_processor = record {
  clock = record { global = 0; local = 0 };
  sequence = 0;
  lines = record { at = [] };
  requests = record { at = [] };
  slots = record { at = [] };
  register = None;
}

abbrev pub no_home : Home ℕ
no_home = record {
  clock = record { global = 0; local = 0 };
  words = record { at = [] };
  directory = record { holders = record { at = [] }; exclusive = false; phase = Free };
}

module _ {A B : Type 0} where
  abbrev pub processor_at : World A B → ℕ → Processor ℕ
  processor_at w p = slice_index_or w.processors p no_processor

  abbrev pub home_at : World A B → ℕ → Home ℕ
  home_at w b = slice_index_or w.homes b no_home

  abbrev pub with_processor : World A B → ℕ → Processor ℕ → World A B
  with_processor w p s = record w { processors = slice_set w.processors p s }

  abbrev pub with_home : World A B → ℕ → Home ℕ → World A B
  with_home w b h = record w { homes = slice_set w.homes b h }

  abbrev pub with_first : World A B → Bridge A ℕ → World A B
  with_first w d = record w { first = d }

  abbrev pub with_second : World A B → Bridge B ℕ → World A B
  with_second w d = record w { second = d }

  abbrev pub with_lists : World A B → List (Message ℕ) → List Entry → World A B
  with_lists w ms es = record w { messages = ms; trail = es }
