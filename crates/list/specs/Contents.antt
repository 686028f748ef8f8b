-- A list by the sequence of its records and by its room.
use Rattle.std.specs.Prelude.{ℕ, ◌+◌, List as Seq, [], ◌∷◌, ◌++◌, length, take, drop, Ok, Err, Result, if◌then◌else◌, nat_lt}
use Rattle.list.specs.declared.storage.Full.{Full}
use Rattle.list.specs.declared.storage.List.{List}

-- The records, oldest first.
abbrev pub contents : {T : Type 0} → List T → Seq T
contents l = l.records

-- How many records the list has room for.
abbrev pub room : {T : Type 0} → List T → ℕ
room l = l.room

abbrev pub push_answer : {T : Type 0} → Seq T → ℕ → Result (Unit {0}) Full
push_answer xs cap = if nat_lt (length xs) cap then Ok tt else Err (record { capacity = cap })

abbrev pub pushed : {T : Type 0} → Seq T → ℕ → T → Seq T
pushed xs cap x = if nat_lt (length xs) cap then xs ++ x ∷ [] else xs

-- What is left once the record at place i is given up; past the end that is all.
abbrev pub removed : {T : Type 0} → Seq T → ℕ → Seq T
removed xs i = take i xs ++ drop (i + 1) xs
