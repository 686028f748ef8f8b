-- Addresses, and which of them an entry covers.
use Rattle.std.specs.Prelude.{◌≡◌, ℕ, ◌+◌, ◌*◌, ◌/◌, ◌%◌, Bool, true, ◌&&◌, [], ◌==◌, if◌then◌else◌, nat_lt, slice_index}
use Rattle.ordering.specs.Operations.{is_block}
use Rattle.ordering.specs.declared.operation.Operation.TheVariants.{Ld}
use Rattle.trail.specs.declared.address.Address.{Address}
use Rattle.trail.specs.declared.entry.Entry.{Entry}

-- Stands for an entry that is not there.
abbrev pub no_entry : Entry
no_entry = record {
  party = 0;
  sequence = 0;
  operation = Ld;
  space = 0;
  place = 0;
  values = record { at = [] };
  stamp = record { global = 0; local = 0; node = 0 };
}

-- A word operation goes to the word at its place, a block operation to the words 4 × place + 0 to 3.
abbrev pub word_of : Entry → ℕ → ℕ
word_of e w = if is_block e.operation then 4 * e.place + w else e.place

abbrev pub address_of : Entry → ℕ → Address
address_of e w = record { space = e.space; word = word_of e w }

abbrev pub covers : Entry → Address → Bool
covers e a = e.space == a.space && (if is_block e.operation then a.word / 4 else a.word) == e.place

abbrev pub value_at : Entry → Address → ℕ
value_at e a = slice_index e.values.at (if is_block e.operation then a.word % 4 else 0)

-- A block operation has four words, any other one.
abbrev pub has_word : Entry → ℕ → Bool
has_word e w = nat_lt w (if is_block e.operation then 4 else 1)

-- An entry covers the addresses of its words, with its values there, and no others.
pub record CoversOwnWords : Type 0 where
  pub own : (e : Entry) (w : ℕ) → has_word e w ≡ true → covers e (address_of e w) ≡ true
  pub valued : (e : Entry) (w : ℕ) → has_word e w ≡ true → value_at e (address_of e w) ≡ slice_index e.values.at w
  pub only : (e : Entry) (a : Address) → covers e a ≡ true → (w : ℕ) × (has_word e w ≡ true) × (a ≡ address_of e w)
