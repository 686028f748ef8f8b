-- What a device is once an order was given to it.
use Rattle.std.specs.Prelude.{ℕ, List, [], ◌∷◌, Ok, Err, Result}
use Rattle.device.specs.declared.meaning.NoWord.{NoWord}
use Rattle.device.specs.Meaning.{Meaning, write_exit, write_answer}
use Rattle.sweep.specs.declared.order.Order.{Order}

abbrev pub order : ℕ → ℕ → ℕ → Order
order f n p = record { first = f; count = n; processor = p }

-- Writes one after the other, up to the first that is refused.
abbrev pub write_all : {S : Type 0} → Meaning S → S → List (ℕ × ℕ) → Result (Unit {0}) NoWord × S
write_all m s [] = (Ok tt, s)
write_all m s (w ∷ ws) =
    elim (write_answer m s w.0) [
      | Ok _ ↦ write_all m (write_exit m s w.0 w.1) ws
      | Err e ↦ (Err e, write_exit m s w.0 w.1)
    ]

abbrev pub given : {S : Type 0} → Meaning S → S → Order → Result (Unit {0}) NoWord × S
given m s o =
    write_all m s ((1, o.first) ∷ (2, o.count) ∷ (3, o.processor) ∷ (0, 1) ∷ [])

abbrev pub stopped : {S : Type 0} → Meaning S → S → Result (Unit {0}) NoWord × S
stopped m s = write_all m s ((0, 0) ∷ [])
