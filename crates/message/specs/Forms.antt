-- The form of each kind of message: who sends it to whom, and which fields it fills.
use Rattle.std.specs.Prelude.{if◌then◌else◌, ◌&&◌, Some, None, Option}
use Rattle.message.specs.Kinds.{same_kind, is_request}
use Rattle.message.specs.declared.form.End.{End}
use Rattle.message.specs.declared.form.End.TheVariants.{Processor, Device, Requester, Home, Owner, Target}
use Rattle.message.specs.declared.form.Fill.{Fill}
use Rattle.message.specs.declared.form.Fill.TheVariants.{Zero, One, Four, Marked}
use Rattle.message.specs.declared.form.Form.{Form}
use Rattle.message.specs.declared.form.Numbers.{Numbers}
use Rattle.message.specs.declared.form.Numbers.TheVariants as numbers
use Rattle.message.specs.declared.kind.Kind.{Kind}
use Rattle.message.specs.declared.kind.Kind.TheVariants.{Gets, Getx, Upg, Wb, Rblk, Wblk, Rio, Wio, Int, Inv, Down, Ack, SData, XData, Grant, Done, Words, Value, Nack, Taken}

abbrev pub form : End → End → Fill → Numbers → Form
form s r w n = record { sender = s; receiver = r; words = w; numbers = n }

abbrev pub none : Numbers
none = numbers.Zero

abbrev pub clock : Numbers
clock = numbers.Clock

abbrev pub both : Numbers
both = numbers.ClockAndSequence

-- Sender, receiver, words, and which of clock and sequence number. NACK's row is the widest: the refused kind says more.
abbrev pub row : Kind → Form
row Gets = form Processor Home Zero none
row Getx = form Processor Home Zero none
row Upg = form Processor Home Zero none
row Wb = form Processor Home Zero none
row Rblk = form Device Home Zero both
row Wblk = form Device Home Four both
row Rio = form Processor Owner Zero both
row Wio = form Processor Owner One both
row Int = form Device Target One both
row Inv = form Home Processor Zero none
row Down = form Home Processor Zero none
row Ack = form Processor Home Marked clock
row SData = form Home Processor Four clock
row XData = form Home Processor Four clock
row Grant = form Home Processor Zero clock
row Done = form Home Requester Zero clock
row Words = form Home Device Four clock
row Value = form Owner Processor One clock
row Nack = form Home Requester Four both
row Taken = form Requester Home Zero none

-- A home gives a request back as it came.
abbrev pub returned : Form → Form
returned f = form Home f.sender f.words f.numbers

-- Only a NACK refuses a kind, and only a request.
abbrev pub form_of : Kind → Option Kind → Option Form
form_of k None = if same_kind k Nack then None else Some (row k)
form_of k (Some r) = if (same_kind k Nack && is_request r) then Some (returned (row r)) else None
