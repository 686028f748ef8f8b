-- Only an STio writes a word of the device, and what is performed is what was planned.
use Rattle.std.proofs.Common.{arith}
use Rattle.std.proofs.lemmas.Bool.Decides.{nat_tests}
use Rattle.device.specs.Meaning.{Meaning, Laws}
use Rattle.bridge.specs.Laws.{OnlyStoresWrite, PlansAreKept}

module _ {S : Type 0} (m : Meaning S) where
  pub only_stores_write : Laws m → OnlyStoresWrite m
  only_stores_write l = record {
    words = λ b d i r h. grind (arith, nat_tests, l.writing_words, l.reading_words, l.accepted_words, l.landed_words);
    loads = λ b d i r h e k o. grind (arith, nat_tests);
    places = λ b d i r h e k. grind (arith, nat_tests);
  }

  pub plans_are_kept : PlansAreKept m
  plans_are_kept = grind (arith, nat_tests)
