-- Whom a home asks: the owner, or every other holder.
use Rattle.std.proofs.Common.{arith}
use Rattle.std.proofs.lemmas.Bool.Decides.{nat_tests}
use Rattle.message.proofs.Tables.{put_read}
use Rattle.home.specs.Laws.{HoldersAreAsked}

pub holders_are_asked : HoldersAreAsked
holders_are_asked = record {
  owner = λ k holders asked p h. grind (arith, nat_tests);
  sharers = λ k holders asked p q h down other here. grind (arith, nat_tests, put_read);
}
