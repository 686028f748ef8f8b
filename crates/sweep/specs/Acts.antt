-- What a device is once its wish was done: an LDio reads a word of its own, an STio writes one.
use Rattle.std.specs.Prelude.{Ok, Err, Result, slice_index}
use Rattle.ordering.specs.declared.operation.Operation.TheVariants.{LdIo, StIo}
use Rattle.device.specs.declared.meaning.NoWord.{NoWord}
use Rattle.device.specs.declared.meaning.Wish.{Wish}
use Rattle.device.specs.Meaning.{Meaning, read_exit, read_answer, write_exit, write_answer}

abbrev pub loaded : {S : Type 0} → Meaning S → S → Wish → Result (Unit {0}) NoWord × S
loaded m s h =
    elim (read_answer m s h.place) [
      | Ok word ↦ (Ok tt, m.accepted (read_exit m s h.place) word)
      | Err e ↦ (Err e, read_exit m s h.place)
    ]

abbrev pub stored : {S : Type 0} → Meaning S → S → Wish → Result (Unit {0}) NoWord × S
stored m s h =
    elim (write_answer m s h.place) [
      | Ok _ ↦ (Ok tt, m.accepted (write_exit m s h.place (slice_index h.words.at 0)) 0)
      | Err e ↦ (Err e, write_exit m s h.place (slice_index h.words.at 0))
    ]

abbrev pub acted : {S : Type 0} → Meaning S → S → Wish → Result (Unit {0}) NoWord × S
acted m s h =
    elim h.operation [
      | LdIo ↦ loaded m s h
      | StIo ↦ stored m s h
      | _ ↦ (Ok tt, m.accepted s 0)
    ]
