-- Making a board: its figures, and the world that it begins with.
use Rattle.std.specs.Prelude.{ℕ, ◌+◌, ◌*◌, Bool, ◌&&◌, List, [], ◌∷◌, map, length, replicate, ◌==◌, nat_le, slice_index}
use Rattle.bridge.specs.States as bridge
use Rattle.device.specs.Meaning.{Meaning}
use Rattle.home.specs.Homes.{new_home}
use Rattle.ordering.specs.Clocks.{number_end}
use Rattle.ordering.specs.declared.operation.Words.{Words}
use Rattle.processor.specs.States.{made}
use Rattle.std.specs.List.{range_with_len}
use Rattle.coherence.specs.Worlds.{World}

-- What a board is made of: any numbers, any words and any two devices, in any state.
pub record Making (A B : Type 0) : Type 0 where
  pub processors : ℕ
  pub clock : ℕ
  pub words : List ℕ
  pub first : A
  pub second : B
  pub message_room : ℕ
  pub trail_room : ℕ

-- The words of block b among those of memory.
abbrev pub block_words : List ℕ → ℕ → Words
block_words ws b = record {
  at = slice_index ws (4 * b) ∷ slice_index ws (4 * b + 1) ∷ slice_index ws (4 * b + 2) ∷ slice_index ws (4 * b + 3) ∷ [];
}

module _ {A B : Type 0} (ma : Meaning A) (mb : Meaning B) where
  -- A clock up to its end, 64 words, devices of 1 to 64 words.
  abbrev pub rest_fits : Making A B → Bool
  rest_fits k =
      nat_le k.clock number_end && length k.words == 64
      && nat_le 1 (length (ma.words k.first)) && nat_le (length (ma.words k.first)) 64
      && nat_le 1 (length (mb.words k.second)) && nat_le (length (mb.words k.second)) 64

  -- And 1 to 4 processors.
  abbrev pub is_fit : Making A B → Bool
  is_fit k = nat_le 1 k.processors && (nat_le k.processors 4 && rest_fits k)

  -- Homes Idle, lines I, slots free, nothing out, all clocks at the start; both lists empty.
  abbrev pub make : Making A B → World A B
  make k = record {
    fit = is_fit k;
    count = k.processors;
    processors = replicate 4 (made k.clock);
    homes = map (λ b. new_home k.clock (block_words k.words b)) (range_with_len 0 16);
    first = bridge.made k.clock k.first;
    second = bridge.made k.clock k.second;
    messages = [];
    trail = [];
    message_room = k.message_room;
    trail_room = k.trail_room;
  }
