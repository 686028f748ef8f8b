-- Classes of messages: what a message is, as one number.
use Rattle.std.proofs.Common.{ℕ, ◌+◌, Bool, cond, Some, None, Option}
use Rattle.message.specs.Kinds.{kind_number, same_kind}
use Rattle.message.specs.declared.kind.Kind.{Kind}
use Rattle.message.specs.declared.kind.Kind.TheVariants.{Ack, Nack}
use Rattle.message.specs.declared.message.Message.{Message}

-- A message's class is the number of its kind; but a NACK's is 20 more than that of the kind it refuses, and an ACK
-- under the exclusive mark has one of its own.
abbrev pub refusal_of : Kind → ℕ
refusal_of k = 20 + kind_number k

abbrev pub marked_ack : ℕ
marked_ack = 41

abbrev pub class_by : Kind → Bool → Option Kind → ℕ
class_by k mark refused =
    cond (same_kind k Ack) (cond mark marked_ack (kind_number Ack))
    (cond (same_kind k Nack) (elim refused [ None ↦ kind_number Nack | Some j ↦ refusal_of j ])
    (kind_number k))

abbrev pub class_of : Message ℕ → ℕ
class_of m = class_by m.kind m.exclusive m.refused
