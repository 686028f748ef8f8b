use Rattle.std.proofs.Common.{arith}
use Rattle.std.proofs.lemmas.Bool.Decides.{nat_tests}
use Rattle.bridge.proofs.laws.bridges_keep_to_their_part.Goals as goal

pub returns : goal.returns
returns g c = record {
  others = λ b d x k. grind (arith, nat_tests);
  single = λ b d i r h. grind (arith, nat_tests);
  tells = λ b d i r h. grind (arith, nat_tests);
  named = λ b d ps f h. grind (arith, nat_tests);
}
