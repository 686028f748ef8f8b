-- Stamps are in a strict total order.
use Rattle.std.proofs.Common.{◌≡◌, false, arith}
use Rattle.std.proofs.lemmas.Bool.Decides.{nat_tests}
use Rattle.ordering.specs.declared.stamp.Stamp.{Stamp}
use Rattle.ordering.specs.Stamps.{below, StrictTotalOrder}

neither_below : (s t : Stamp) → below s t ≡ false → below t s ≡ false → s ≡ t
neither_below s t h k =
    let g : s.global ≡ t.global = grind (arith, nat_tests) in
    let l : s.local ≡ t.local = grind (arith, nat_tests) in
    let n : s.node ≡ t.node = grind (arith, nat_tests) in
    λ i. record { global = g i; local = l i; node = n i }

pub strict_total_order : StrictTotalOrder
strict_total_order = record {
  irreflexive = λ s. grind (arith, nat_tests);
  transitive = λ s t u h k. grind (arith, nat_tests);
  total = neither_below;
}
