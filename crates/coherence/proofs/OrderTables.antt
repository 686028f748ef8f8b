-- What the order tables say of two operations that a party issued, by what the later one goes to.
use Rattle.std.proofs.Common.{◌≡◌, ℕ, Bool, true, false, cond, ◌&&◌, ◌||◌, eqb, refl, subst, arith}
use Rattle.message.specs.Nodes.{is_device}
use Rattle.ordering.proofs.Cells.{tables_in_words}
use Rattle.ordering.specs.Operations.{is, is_block}
use Rattle.ordering.specs.Orders.{ordered, agrees, does, held, is_io, one_target, letter_A, letter_D, letter_none}
use Rattle.ordering.specs.declared.operation.Operation.{Operation}
use Rattle.ordering.specs.declared.operation.Operation.TheVariants.{Ld, St, LdIo, StIo, Int, LdBlk, StBlk}
use Rattle.ordering.specs.declared.order.Access.{Access}
use Rattle.ordering.specs.declared.order.Party.{Party}
use Rattle.ordering.specs.declared.order.Party.TheVariants.{Processor, Device}
use Rattle.std.proofs.lemmas.Bool.{both_ways}
use Rattle.std.proofs.lemmas.Bool.Decides.{nat_tests}
use Rattle.coherence.proofs.Orderly.{is_memory, processor_issues, device_issues}
use Rattle.coherence.specs.Histories.{access}

abbrev in_words : Party → Access → Access → Bool
in_words p z a =
    agrees z a
    || cond (eqb (cond (does p z.operation && does p a.operation) (held p z.operation a.operation) letter_none) letter_A) true
    (cond (eqb (cond (does p z.operation && does p a.operation) (held p z.operation a.operation) letter_none) letter_D) (one_target z a) false)

said : (p : Party) (z a : Access) → ordered p z a ≡ true → in_words p z a ≡ true
said p z a h =
    subst (λ (n : ℕ). (agrees z a || cond (eqb n letter_A) true (cond (eqb n letter_D) (one_target z a) false)) ≡ true)
    (tables_in_words p z.operation a.operation) h

-- before an LD or ST: LDs, STs and LDios
pub before_memory : (z a : Access) → is_memory a.operation ≡ true → processor_issues a ≡ true → processor_issues z ≡ true → ordered Processor z a ≡ true
    → is_memory z.operation ≡ false → is LdIo z.operation ≡ true
before_memory z a memory own fits h other = grind (arith, nat_tests)

-- before a processor's LDio or STio: LDs, STs, and those to the same device
pub before_io : (z a : Access) → is_io a.operation ≡ true → processor_issues z ≡ true → ordered Processor z a ≡ true
    → is_io z.operation ≡ true → z.space ≡ a.space
before_io z a io fits h other = grind (arith, nat_tests)

-- before a device's own LDio or STio: its own
pub before_own : (n : ℕ) (z a : Access) → is_device n ≡ true → is_io a.operation ≡ true → device_issues n a ≡ true → device_issues n z ≡ true → ordered Device z a ≡ true
    → is_io z.operation ≡ true
before_own n z a device io own fits h = go z.operation z.space z.place fits (said Device z a h)
  where
    go : (o : Operation) (s p : ℕ) → device_issues n (access o s p) ≡ true → in_words Device (access o s p) a ≡ true → is_io o ≡ true
    go Ld s p fits w = absurd (both_ways false refl fits)
    go St s p fits w = absurd (both_ways false refl fits)
    go LdIo s p fits w = refl
    go StIo s p fits w = refl
    go Int s p fits w = grind (arith, nat_tests)
    go LdBlk s p fits w = grind (arith, nat_tests)
    go StBlk s p fits w = grind (arith, nat_tests)

-- before an INT: all but INTs to other processors
pub before_int : (z a : Access) → is Int a.operation ≡ true → ordered Device z a ≡ true → is Int z.operation ≡ true → z.place ≡ a.place
before_int z a int h other = grind (arith, nat_tests)

-- before a block operation: the device's own, and those on the same block
pub before_block : (n : ℕ) (z a : Access) → is_block a.operation ≡ true → device_issues n a ≡ true → device_issues n z ≡ true → ordered Device z a ≡ true
    → is_io z.operation ≡ false → (is_block z.operation ≡ true) × (z.place ≡ a.place)
before_block n z a block own fits h other = go z.operation z.space z.place fits (said Device z a h) other
  where
    go : (o : Operation) (s p : ℕ) → device_issues n (access o s p) ≡ true → in_words Device (access o s p) a ≡ true → is_io o ≡ false → (is_block o ≡ true) × (p ≡ a.place)
    go Ld s p fits w other = absurd (both_ways false refl fits)
    go St s p fits w other = absurd (both_ways false refl fits)
    go LdIo s p fits w other = absurd (both_ways true other refl)
    go StIo s p fits w other = absurd (both_ways true other refl)
    go Int s p fits w other = (grind (arith, nat_tests), grind (arith, nat_tests))
    go LdBlk s p fits w other = (refl, grind (arith, nat_tests))
    go StBlk s p fits w other = (refl, grind (arith, nat_tests))
