-- Choosing the later of candidates, and the loop that does so.
use Rattle.std.proofs.Common.{◌≡◌, ℕ, ◌+◌, ◌<◌, Bool, true, false, cond, List, length, get_or, drop, Some, None, Option, sym, refl, ap, ◌∙◌, arith}
use Rattle.ordering.proofs.Total.{strict_total_order}
use Rattle.ordering.specs.Stamps.{below}
use Rattle.ordering.specs.declared.stamp.Stamp.{Stamp}
use Rattle.std.proofs.lemmas.List.{at_drop_more}
use Rattle.std.proofs.lemmas.Bool.Decides.{nat_tests}
use Rattle.queries.specs.Search.{candidate, later, latest}
use Rattle.trail.specs.declared.address.Address.{Address}
use Rattle.trail.specs.declared.entry.Entry.{Entry}
use Rattle.queries.specs.declared.source.Candidate.{Candidate}

later_none : (x : Option Candidate) → later x None ≡ x
later_none None = refl
later_none (Some c) = refl

-- from one that is not below another that is not below a third
pub falls : (s t u : Stamp) → below s t ≡ false → below t u ≡ false → below s u ≡ false
falls s t u h k = grind (arith, nat_tests)

later_assoc : (x y z : Option Candidate) → later (later x y) z ≡ later x (later y z)
later_assoc None y z = refl
later_assoc (Some c) None z = refl
later_assoc (Some c) (Some d) None = later_none (cond (below c.stamp d.stamp) (Some d) (Some c))
later_assoc (Some c) (Some d) (Some e) = go (below c.stamp d.stamp) (below d.stamp e.stamp) refl refl
  where
    go : (p q : Bool) → below c.stamp d.stamp ≡ p → below d.stamp e.stamp ≡ q
        → later (cond p (Some d) (Some c)) (Some e) ≡ later (Some c) (cond q (Some e) (Some d))
    go true true h k = rw (strict_total_order.transitive c.stamp d.stamp e.stamp h k, k) refl
    go true false h k = rw (h, k) refl
    go false true h k = refl
    go false false h k = rw (falls c.stamp d.stamp e.stamp h k, h) refl

pub latest_more : (a : Address) (s : Stamp) (trail : List Entry) (n : ℕ) (best : Option Candidate) (d : Entry) → n < length trail
    → later (later best (candidate a s n (get_or trail n d))) (latest a s (n + 1) (drop (n + 1) trail)) ≡ later best (latest a s n (drop n trail))
latest_more a s trail n best d h =
    later_assoc best (candidate a s n (get_or trail n d)) (latest a s (n + 1) (drop (n + 1) trail))
    ∙ sym (ap (later best) (at_drop_more (latest a s n) trail n d h))
