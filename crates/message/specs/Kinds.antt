-- The twenty kinds of message and their numbers.
use Rattle.std.specs.Prelude.{ℕ, Bool, if◌then◌else◌, Some, None, Option, ◌==◌, nat_le}
use Rattle.message.specs.declared.kind.Kind.{Kind}
use Rattle.message.specs.declared.kind.Kind.TheVariants.{Gets, Getx, Upg, Wb, Rblk, Wblk, Rio, Wio, Int, Inv, Down, Ack, SData, XData, Grant, Done, Words, Value, Nack, Taken}

abbrev pub kind_number : Kind → ℕ
kind_number Gets = 1
kind_number Getx = 2
kind_number Upg = 3
kind_number Wb = 4
kind_number Rblk = 5
kind_number Wblk = 6
kind_number Rio = 7
kind_number Wio = 8
kind_number Int = 9
kind_number Inv = 10
kind_number Down = 11
kind_number Ack = 12
kind_number SData = 13
kind_number XData = 14
kind_number Grant = 15
kind_number Done = 16
kind_number Words = 17
kind_number Value = 18
kind_number Nack = 19
kind_number Taken = 20

abbrev pub same_kind : Kind → Kind → Bool
same_kind j k = kind_number j == kind_number k

-- What a home is asked for its block by: GETS to Wblk.
abbrev pub is_request : Kind → Bool
is_request k = nat_le (kind_number k) 6

-- The requests that a processor may make, by number.
abbrev pub request_numbered : ℕ → Option Kind
request_numbered n =
    if n == 1 then Some Gets
    else if n == 2 then Some Getx
    else if n == 3 then Some Upg
    else if n == 4 then Some Wb
    else None
