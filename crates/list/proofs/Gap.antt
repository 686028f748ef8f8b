-- Closing the gap at a place, by a copy of what stands behind it.
use Rattle.std.proofs.Common.{◌≡◌, ℕ, ◌+◌, ◌-◌, ◌<◌, ◌≤◌, List as Seq, length, take, drop, arith, length-drop}
use Rattle.std.proofs.lemmas.List.Edits.{take-paste}
use Rattle.std.proofs.lemmas.List.{append-nil, drop_all, drop-take, take_all, take-take}
use Rattle.std.specs.List.{copy_within}
use Rattle.list.specs.Contents.{removed}
use Rattle.list.specs.Held.{Held}

pub gap_closed : {T : Type 0} (old new : Seq T) (n place : ℕ) → place < n → n ≤ length old → new ≡ copy_within old (place + 1) n place → length new ≡ length old
    → ◌≡◌ {A = Held T} (record { records = take (n - 1) new; room = length new }) (record { records = removed (take n old) place; room = length old })
gap_closed old new n place low lent is long =
    let k : place + (n - (place + 1)) ≡ n - 1 = omega arith in
    let e : (place + 1) + (n - (place + 1)) ≡ n = omega arith in
    let l = length-drop (place + 1) old in
    let p = take-paste old place (drop (place + 1) old) (n - (place + 1)) (omega arith) (omega arith) in
    let f = take-take place n old (omega arith) in
    let b = drop-take (place + 1) (n - (place + 1)) old in
    cc

pub no_gap : {T : Type 0} (xs : Seq T) (place : ℕ) → length xs ≤ place → removed xs place ≡ xs
no_gap xs place past = rw (take_all place xs past, drop_all (place + 1) xs (omega arith)) (append-nil xs)
