-- A number is one kind's alone: each kind is read back from its number.
use Rattle.std.proofs.Common.{◌≡◌, ℕ, [], ◌∷◌, get_or, arith}
use Rattle.std.proofs.lemmas.Bool.{eqb-true}
use Rattle.message.specs.Kinds.{kind_number}
use Rattle.message.specs.Laws.{NumbersTellKinds}
use Rattle.message.specs.declared.kind.Kind.{Kind}
use Rattle.message.specs.declared.kind.Kind.TheVariants.{Gets, Getx, Upg, Wb, Rblk, Wblk, Rio, Wio, Int, Inv, Down, Ack, SData, XData, Grant, Done, Words, Value, Nack, Taken}

abbrev numbered : ℕ → Kind
numbered n =
    get_or (Gets ∷ Gets ∷ Getx ∷ Upg ∷ Wb ∷ Rblk ∷ Wblk ∷ Rio ∷ Wio ∷ Int ∷ Inv ∷ Down ∷ Ack ∷ SData ∷ XData ∷ Grant ∷ Done ∷ Words ∷ Value ∷ Nack ∷ Taken ∷ []) n Gets

read_back : (k : Kind) → numbered (kind_number k) ≡ k
read_back k = grind arith

pub numbers_tell_kinds : NumbersTellKinds
numbers_tell_kinds j k h =
    let number = eqb-true (kind_number j) (kind_number k) h in
    let first = read_back j in
    let second = read_back k in
    cc
