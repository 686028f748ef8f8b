-- The tables against their words: one computed test over every cell, and what it says of each.
use Rattle.std.proofs.Common.{◌≡◌, Bool, true, cond, ◌&&◌, eqb, refl}
use Rattle.std.proofs.lemmas.Bool.{and_parts, eqb-true}
use Rattle.ordering.specs.declared.operation.Operation.{Operation}
use Rattle.ordering.specs.declared.operation.Operation.TheVariants.{Ld, St, LdIo, StIo, Int, LdBlk, StBlk}
use Rattle.ordering.specs.declared.order.Party.{Party}
use Rattle.ordering.specs.declared.order.Party.TheVariants.{Processor, Device}
use Rattle.ordering.specs.Orders.{letter, does, held, letter_none, TablesInWords}

-- a test that holds of every operation
abbrev each : (Operation → Bool) → Bool
each f = f Ld && (f St && (f LdIo && (f StIo && (f Int && (f LdBlk && f StBlk)))))

at : (f : Operation → Bool) → each f ≡ true → (o : Operation) → f o ≡ true
at f h =
    let a = and_parts _ _ h in
    let b = and_parts _ _ a.1 in
    let c = and_parts _ _ b.1 in
    let d = and_parts _ _ c.1 in
    let e = and_parts _ _ d.1 in
    let g = and_parts _ _ e.1 in
    elim [ Ld ↦ a.0 | St ↦ b.0 | LdIo ↦ c.0 | StIo ↦ d.0 | Int ↦ e.0 | LdBlk ↦ g.0 | StBlk ↦ g.1 ]

abbrev matches : Party → Operation → Operation → Bool
matches p e l = eqb (letter p e l) (cond (does p e && does p l) (held p e l) letter_none)

tested : (p : Party) → each (λ e. each (matches p e)) ≡ true
tested Processor = refl
tested Device = refl

pub tables_in_words : TablesInWords
tables_in_words p e l = eqb-true _ _ (at (matches p e) (at (λ e. each (matches p e)) (tested p) e) l)
