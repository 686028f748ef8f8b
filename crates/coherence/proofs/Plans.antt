-- Whom a free home asks for a request, as numbers: what its plan says of each processor q.
use Rattle.std.proofs.Common.{◌≡◌, ℕ, ◌+◌, ◌≤◌, Bool, true, false, ◌&&◌, eqb, length, Some, arith, length-set}
use Rattle.home.specs.Plans.{plan}
use Rattle.home.specs.Requests.{asks_down}
use Rattle.home.specs.Sets.{has}
use Rattle.home.specs.declared.directory.View.{View}
use Rattle.home.specs.declared.directory.View.TheVariants.{Idle, Shared, Exclusive}
use Rattle.home.specs.declared.plan.Plan.TheVariants.{Ask}
use Rattle.home.specs.Sets.{Processors}
use Rattle.message.specs.Kinds.{kind_number}
use Rattle.message.specs.declared.kind.Kind.{Kind}
use Rattle.message.proofs.Tables.{put_read}
use Rattle.coherence.proofs.FormsKept.{nobody_has}
use Rattle.coherence.proofs.Counting.{indicator, indicator_most}

-- k is the request of p, h the holders, t those asked; x is whether the copy is exclusive.
pub record AskedOf (k : Kind) (h t : Processors) (x : Bool) (p q : ℕ) : Type 0 where
  pub holds : indicator (has t q) ≤ indicator (has h q)
  pub owner : indicator (has t q) + indicator (asks_down k) ≤ 1 + indicator x
  pub owner_asked : indicator (has h q) + indicator x ≤ 1 + indicator (has t q)
  pub all_asked : indicator (has h q) ≤ indicator (asks_down k) + indicator (has t q) + indicator (eqb (kind_number k) 3 && eqb p q)
  pub newcomer : indicator (eqb (kind_number k) 1 && eqb p q) + indicator (eqb (kind_number k) 2 && eqb p q) + indicator (has h q) ≤ 1
  pub upgrader : indicator (eqb (kind_number k) 3 && eqb p q) ≤ indicator (has h q)
  pub upgrader_unasked : indicator (eqb (kind_number k) 3 && eqb p q) + indicator (has t q) ≤ 1
  pub upgrader_shares : indicator (eqb (kind_number k) 3 && eqb p q) + indicator x ≤ 1

-- how a view stands to holders h and mark x, at q
abbrev pub Seen : View → Processors → Bool → ℕ → Type 0
Seen v h x q = (v ≡ Idle → (has h q ≡ false) × (x ≡ false)) × (v ≡ Shared → x ≡ false) × (v ≡ Exclusive → x ≡ true)

pub asked_of : (k : Kind) (v : View) (h t : Processors) (x : Bool) (p q : ℕ) → plan k v h p ≡ Some (Ask t) → Seen v h x q → AskedOf k h t x p q
asked_of k v h t x p q is seen = grind (arith, nobody_has q, put_read h.at p q false false, indicator_most)

pub asked_four : (k : Kind) (v : View) (h t : Processors) (p : ℕ) → plan k v h p ≡ Some (Ask t) → length h.at ≡ 4 → length t.at ≡ 4
asked_four k v h t p is four = grind (arith, length-set)
