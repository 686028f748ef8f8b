-- Clocks go on, and operations are stamped and numbered.
use Rattle.std.proofs.Common.{arith}
use Rattle.std.proofs.lemmas.Bool.Decides.{nat_tests}
use Rattle.device.specs.Meaning.{Meaning}
use Rattle.bridge.specs.Laws.{ClocksGoOn, EntriesAreStamped}

module _ {S : Type 0} (m : Meaning S) where
  pub clocks_go_on : ClocksGoOn m
  clocks_go_on = record {
    never_back = λ b d i r h. grind (arith, nat_tests);
    at_operations = λ b d i r h k. grind (arith, nat_tests);
    past_messages = λ b d i r h x e k. grind (arith, nat_tests);
    at_wishes = λ b d i r h e k. grind (arith, nat_tests);
    at_nack = λ b d i r h x e k. grind (arith, nat_tests);
  }

  pub entries_are_stamped : EntriesAreStamped m
  entries_are_stamped = record {
    stamps = λ b d i r h e k. grind (arith, nat_tests);
    own = λ b d i r h e k l. grind (arith, nat_tests);
    sent = λ b d i r h e x k l. grind (arith, nat_tests);
    numbers = λ b d i r h. grind (arith, nat_tests);
  }
