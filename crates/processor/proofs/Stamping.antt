-- Clocks go on, and operations are stamped and numbered.
use Rattle.std.proofs.Common.{arith}
use Rattle.std.proofs.lemmas.Bool.Decides.{nat_tests}
use Rattle.processor.specs.Laws.{ClocksGoOn, EntriesAreStamped}

pub clocks_go_on : ClocksGoOn
clocks_go_on = record {
  never_back = λ s n i r h. grind (arith, nat_tests);
  at_operations = λ s n i r h k. grind (arith, nat_tests);
  when_asked = λ s n i r h m e k. grind (arith, nat_tests);
  past_messages = λ s n i r h m e k. grind (arith, nat_tests);
}

pub entries_are_stamped : EntriesAreStamped
entries_are_stamped = record {
  stamps = λ s n i r h e k. grind (arith, nat_tests);
  own = λ s n i r h e k l. grind (arith, nat_tests);
  sent = λ s n i r h e m k l. grind (arith, nat_tests);
}
