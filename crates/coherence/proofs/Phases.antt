-- What a home gathers for, has replied to, or does neither.
use Rattle.std.proofs.Common.{◌≡◌, ℕ, true, false, arith}
use Rattle.home.specs.Directories.{round_of, awaits}
use Rattle.home.specs.Laws.{has_replied, is_free}
use Rattle.home.specs.Reactions.{awaits_taken}
use Rattle.home.specs.declared.directory.Phase.TheVariants.{Free}
use Rattle.home.specs.declared.machine.Home.{Home}
use Rattle.std.proofs.lemmas.Bool.Decides.{nat_tests}
use Rattle.coherence.proofs.Carrying.{gathers}

pub busy_gathering : (h : Home ℕ) → gathers h ≡ true → is_free h ≡ false
busy_gathering h is = grind (arith, nat_tests)

pub unreplied : (h : Home ℕ) → gathers h ≡ true → has_replied h ≡ false
unreplied h is = grind (arith, nat_tests)

pub idle : (h : Home ℕ) → h.directory.phase ≡ Free → (gathers h ≡ false) × (has_replied h ≡ false)
idle h free = grind (arith, nat_tests)

-- who awaits an acknowledgement gathers, and who awaits TAKEN does not
pub gathers_so : (h : Home ℕ) (p : ℕ) → awaits h.directory p ≡ true → gathers h ≡ true
gathers_so h p is = grind (arith, nat_tests)

pub gathers_no_more : (h : Home ℕ) (n : ℕ) → awaits_taken h.directory n ≡ true → gathers h ≡ false
gathers_no_more h n is = grind (arith, nat_tests)

-- only who gathers has heard a clock
pub nothing_heard : (h : Home ℕ) → gathers h ≡ false → (round_of h.directory).latest ≡ 0
nothing_heard h is = grind (arith, nat_tests)
