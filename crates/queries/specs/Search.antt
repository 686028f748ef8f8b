-- Looking for the source of a read word: the latest of the candidates, entry by entry.
use Rattle.std.specs.Prelude.{ℕ, ◌+◌, List, [], ◌∷◌, length, Some, None, Ok, Err, Option, Result, if◌then◌else◌, nat_lt, slice_index_or}
use Rattle.ordering.specs.Operations.{is_read}
use Rattle.ordering.specs.Stamps.{below}
use Rattle.ordering.specs.declared.stamp.Stamp.{Stamp}
use Rattle.queries.specs.declared.source.Candidate.{Candidate}
use Rattle.trail.specs.Addresses.{no_entry, address_of, value_at, has_word}
use Rattle.trail.specs.Sources.{writes_below, Source}
use Rattle.trail.specs.declared.address.Address.{Address}
use Rattle.trail.specs.declared.entry.Entry.{Entry}
use Rattle.trail.specs.declared.fault.SourceFault.{SourceFault}
use Rattle.trail.specs.declared.fault.SourceFault.TheVariants.{NoRead, NoWord}

abbrev pub candidate : Address → Stamp → ℕ → Entry → Option Candidate
candidate a s n e =
    if writes_below a s e then Some (record { entry = n; value = value_at e a; stamp = e.stamp }) else None

-- Of two, the one with the greater stamp; on a tie the first.
abbrev pub later : Option Candidate → Option Candidate → Option Candidate
later None d = d
later (Some c) None = Some c
later (Some c) (Some d) = if below c.stamp d.stamp then Some d else Some c

-- The latest write among entries that are numbered from n on.
abbrev pub latest : Address → Stamp → ℕ → List Entry → Option Candidate
latest a s n [] = None
latest a s n (e ∷ es) = later (candidate a s n e) (latest a s (n + 1) es)

abbrev pub found : Option Candidate → Option (ℕ × ℕ)
found None = None
found (Some c) = Some (c.entry, c.value)

-- The source of word w of a read entry.
abbrev pub read_source : List Entry → Entry → ℕ → Result (Option (ℕ × ℕ)) SourceFault
read_source trail e w =
    if is_read e.operation
    then (if has_word e w then Ok (found (latest (address_of e w) e.stamp 0 trail)) else Err NoWord)
    else Err NoRead

abbrev pub source_of : List Entry → ℕ → ℕ → Result (Option (ℕ × ℕ)) SourceFault
source_of trail n w =
    if nat_lt n (length trail) then read_source trail (slice_index_or trail n no_entry) w else Err NoRead

-- What is told is the source.
abbrev pub LatestWrite : Type 0
LatestWrite = (trail : List Entry) (a : Address) (s : Stamp) → Source trail a s (found (latest a s 0 trail))
