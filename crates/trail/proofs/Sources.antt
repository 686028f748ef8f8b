-- What may be a source, part by part.
use Rattle.std.proofs.lemmas.Bool.{and_from, and_parts}
use Rattle.trail.specs.Sources.{WritesBelow}

pub writes_are_below : WritesBelow
writes_are_below = record {
  each = λ a s e h. let p = and_parts _ _ h in let q = and_parts _ _ p.0 in (q.0, q.1, p.1);
  all = λ a s e w c b. and_from _ _ (and_from _ _ w c) b;
}
