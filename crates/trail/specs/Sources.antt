-- What the source of a read word is: the write below the read with the greatest stamp there.
use Rattle.std.specs.Prelude.{◌≡◌, ℕ, ◌<◌, Bool, true, false, ◌&&◌, List, Some, None, Option}
use Rattle.std.specs.List.{slice_get}
use Rattle.ordering.specs.Operations.{is_write}
use Rattle.ordering.specs.Stamps.{below}
use Rattle.ordering.specs.declared.stamp.Stamp.{Stamp}
use Rattle.trail.specs.Addresses.{covers, value_at}
use Rattle.trail.specs.declared.address.Address.{Address}
use Rattle.trail.specs.declared.entry.Entry.{Entry}

-- A write to the address a, below the reader's stamp.
abbrev pub writes_below : Address → Stamp → Entry → Bool
writes_below a s e = is_write e.operation && covers e a && below e.stamp s

-- That is: a write, which covers the address, and of the two stamps its own is the lower; and every such entry.
pub record WritesBelow : Type 0 where
  pub each : (a : Address) (s : Stamp) (e : Entry) → writes_below a s e ≡ true
      → (is_write e.operation ≡ true) × (covers e a ≡ true) × (below e.stamp s ≡ true)
  pub all : (a : Address) (s : Stamp) (e : Entry) → is_write e.operation ≡ true → covers e a ≡ true
      → below e.stamp s ≡ true → writes_below a s e ≡ true

-- What makes an answer the source at address a below stamp s: it is such a write with that value, none is greater,
-- and equal ones do not come earlier; no answer means that there is no such write.
pub record IsLatest (trail : List Entry) (a : Address) (s : Stamp) (n v : ℕ) : Type 0 where
  pub write : Entry
  pub stands : slice_get trail n ≡ Some write
  pub writes : writes_below a s write ≡ true
  pub value : v ≡ value_at write a
  pub greatest : (m : ℕ) (e : Entry) → slice_get trail m ≡ Some e → writes_below a s e ≡ true
      → below write.stamp e.stamp ≡ false
  pub first : (m : ℕ) (e : Entry) → m < n → slice_get trail m ≡ Some e → writes_below a s e ≡ true
      → below e.stamp write.stamp ≡ true

abbrev pub Source : List Entry → Address → Stamp → Option (ℕ × ℕ) → Type 0
Source trail a s None = (m : ℕ) (e : Entry) → slice_get trail m ≡ Some e → writes_below a s e ≡ false
Source trail a s (Some x) = IsLatest trail a s x.0 x.1
