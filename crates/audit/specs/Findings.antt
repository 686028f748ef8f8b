-- What the audit finds of one word of a read, and the line that tells it.
use Rattle.std.specs.Prelude.{ℕ, if◌then◌else◌, List, ◌++◌, length, Some, None, Ok, Err, codes, decimal, Option, ◌==◌, nat_lt, slice_index_or}
use Rattle.queries.specs.Search.{source_of}
use Rattle.trail.specs.Addresses.{no_entry, address_of, value_at}
use Rattle.trail.specs.declared.entry.Entry.{Entry}
use Rattle.audit.specs.declared.finding.Finding.{Finding}

abbrev pub got : Entry → ℕ → ℕ
got e w = value_at e (address_of e w)

-- Of the read `e`, which is entry n.
abbrev pub finding : Entry → ℕ → ℕ → Option (ℕ × ℕ) → Finding
finding e n w s = record { entry = n; word = w; got = got e w; source = s }

abbrev pub found_of : List Entry → ℕ → ℕ → Option Finding
found_of trail n w =
    elim (source_of trail n w) [
      | Ok s ↦ if nat_lt n (length trail) then Some (finding (slice_index_or trail n no_entry) n w s) else None
      | Err _ ↦ None
    ]

abbrev pub tab : List ℕ
tab = codes "\t"

abbrev pub judged : ℕ → ℕ → List ℕ
judged v g = if v == g then codes "agrees" else codes "differs"

abbrev pub sourced_line : ℕ → ℕ → ℕ → ℕ → List ℕ → List ℕ
sourced_line n w m v verdict =
    decimal n ++ (tab ++ (decimal w ++ (tab ++ (decimal m ++ (tab ++ (decimal v ++ (tab ++ verdict)))))))

abbrev pub line_of : Finding → List ℕ
line_of f =
    elim f.source [
      | None ↦ decimal f.entry ++ (tab ++ (decimal f.word ++ codes "\tnone"))
      | Some s ↦ sourced_line f.entry f.word s.0 s.1 (judged s.1 f.got)
    ]
