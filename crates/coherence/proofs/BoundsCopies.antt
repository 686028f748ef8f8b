-- Moves that change a copy: a processor gives way, or takes a copy; and the home hears an acknowledgement. The bounds of the
-- entries on the block are kept.
use Rattle.std.proofs.Common.{◌≡◌, ℕ, ◌+◌, ◌<◌, ◌≤◌, max, true, false, ◌||◌, eqb, ◌⊎◌, List, [], ◌∷◌, sym, refl, ap, ◌∙◌, subst, inl, inr, ⊎_elim, arith}
use Rattle.home.specs.Directories.{round_of}
use Rattle.message.specs.declared.kind.Kind.{Kind}
use Rattle.message.specs.declared.message.Message.{Message}
use Rattle.ordering.specs.Operations.{is_write}
use Rattle.ordering.specs.declared.operation.Words.{Words}
use Rattle.processor.specs.declared.line.Line.{Line}
use Rattle.std.proofs.ByRecursion.{all-has, All-weaker}
use Rattle.std.proofs.lemmas.Bool.{and_from, both_ways, cases_Bool, cases_eq, cond_both, eq-eqb, eqb-true, false≢true, ne_eqb, or_cases}
use Rattle.std.specs.List.{AllByRecursion as All}
use Rattle.trail.specs.declared.entry.Entry.{Entry}
use Rattle.coherence.proofs.Blocks.{Block, all_from_has, hits, peer, pending, pending_is, posted_all, posted_gone, token}
use Rattle.coherence.proofs.Bounds.{Above, Acknowledged, Bounded, Bounds, bound, is_ack, unmoved}
use Rattle.coherence.proofs.BoundsQuiet.{other_class}
use Rattle.coherence.proofs.Counting.{none_passes}
use Rattle.coherence.proofs.Moves.{GivesWay, Hears, Takes}
use Rattle.coherence.proofs.Shifts.{moved_there, put_here, put_there, went_there}
use Rattle.coherence.proofs.Tokens.{held, owned, shared}

-- No acknowledgement of p waits where none is counted.
pub no_acks_of : (ms : List (Message ℕ)) (p : ℕ) → pending ms 12 p ≡ 0 → pending ms 41 p ≡ 0 → All (λ m. is_ack m ≡ true → peer m ≡ p → ⊥) ms
no_acks_of ms p plain marked =
    all_from_has (λ m. is_ack m ≡ true → peer m ≡ p → ⊥) ms (λ m has ack from.
    ⊎_elim (λ c. both_ways (hits 12 p m) (all-has (λ n. hits 12 p n ≡ false) ms m first has) (and_from (eqb (token m) 12) (eqb (peer m) p) c (eq-eqb (peer m) p from)))
    (λ c. both_ways (hits 41 p m) (all-has (λ n. hits 41 p n ≡ false) ms m second has) (and_from (eqb (token m) 41) (eqb (peer m) p) c (eq-eqb (peer m) p from)))
    (or_cases (eqb (token m) 12) (eqb (token m) 41) ack))
  where
    first : All (λ n. hits 12 p n ≡ false) ms
    first = none_passes (hits 12 p) ms (sym (pending_is ms 12 p) ∙ plain)

    second : All (λ n. hits 41 p n ≡ false) ms
    second = none_passes (hits 41 p) ms (sym (pending_is ms 41 p) ∙ marked)

-- A processor gives way: its acknowledgement is above all that it did.
module _ (b : ℕ) (x y : Block) (p : ℕ) (old new : Line) (c d : ℕ) (back : Words) (m a : Message ℕ) (r : GivesWay b x y p old new c d back m a)
    (plain : pending x.messages 12 p ≡ 0) (marked : pending x.messages 41 p ≡ 0)
    (some : 1 ≤ pending y.messages 12 p + pending y.messages 41 p) (owner_marks : owned old ≤ pending y.messages 41 p)
    (not_owner : owned new ≡ 0) (was_owner : shared new ≡ 1 → owned old ≡ 1) where
  there : (q : ℕ) → eqb p q ≡ false → (y.line q ≡ x.line q) × (pending y.messages 12 q ≡ pending x.messages 12 q) × (pending y.messages 41 q ≡ pending x.messages 41 q)
  there q apart =
      let same = moved_there x.messages y.messages m c p r.class r.end a d r.class_back r.end_back r.messages q apart in
      (put_there p q new (x.line q) (y.line q) (r.lines q) apart, same 12, same 41)

  here : y.line p ≡ new
  here = put_here p new (x.line p) (y.line p) (r.lines p)

  gives_bounded : (e : Entry) → Bounded x.line x.clock x.home x.messages e → Bounded y.line y.clock y.home y.messages e
  gives_bounded e bounds = record {
    known = known e.stamp.node refl (cases_Bool (eqb p e.stamp.node));
    written = written e.stamp.node refl (cases_Bool (eqb p e.stamp.node));
    owner = λ q is apart. owner q is apart (cases_Bool (eqb p q));
    sharer = λ q is w. sharer q is w (cases_Bool (eqb p q));
    past = λ low. let g = bounds.past low in let on = r.clocks e.stamp.node in omega arith;
    acknowledged = posted_all (Acknowledged y.line e) x.messages (m ∷ []) (a ∷ []) y.messages r.messages others (own, tt);
  }
    where
      same_bound : bound y.home ≡ bound x.home
      same_bound = ap bound r.home

      mine : e.stamp.node ≡ p → e.stamp.global < y.clock p
      mine at =
          let low : e.stamp.node < 4 = (let s = r.small in omega arith) in
          let g = bounds.past low in
          let same : x.clock e.stamp.node ≡ x.clock p = ap x.clock at in
          let on = r.onward in
          omega arith

      known : (n : ℕ) → n ≡ e.stamp.node → (eqb p n ≡ true) ⊎ (eqb p n ≡ false) → held (y.line n) + (pending y.messages 12 n + pending y.messages 41 n) ≡ 0 → e.stamp.global ≤ bound y.home
      known n at (inl same) none =
          let P : ℕ → Type 0 = λ k. held (y.line k) + (pending y.messages 12 k + pending y.messages 41 k) ≡ 0 in
          let no_way : P p = subst P (sym (eqb-true p n same)) none in
          absurd (omega arith)
      known n at (inr apart) none =
          let t = there n apart in
          let line = ap held t.0 in
          let P : ℕ → Type 0 = λ k. held (x.line k) + (pending x.messages 12 k + pending x.messages 41 k) ≡ 0 in
          let before : P n = omega (arith, t.1, t.2) in
          let g = bounds.known (subst P at before) in
          omega (arith, same_bound)

      written : (n : ℕ) → n ≡ e.stamp.node → (eqb p n ≡ true) ⊎ (eqb p n ≡ false) → is_write e.operation ≡ true → owned (y.line n) + pending y.messages 41 n ≡ 0 → e.stamp.global ≤ bound y.home
      written n at (inl same) w none =
          let Q : ℕ → Type 0 = λ k. owned (y.line k) + pending y.messages 41 k ≡ 0 in
          let now : Q p = subst Q (sym (eqb-true p n same)) none in
          let was = ap owned r.was in
          let not_owned : owned old ≡ 0 = omega arith in
          let P : ℕ → Type 0 = λ k. owned (x.line k) + pending x.messages 41 k ≡ 0 in
          let before : P p = omega arith in
          let g = bounds.written w (subst P (eqb-true p n same ∙ at) before) in
          omega (arith, same_bound)
      written n at (inr apart) w none =
          let t = there n apart in
          let line = ap owned t.0 in
          let P : ℕ → Type 0 = λ k. owned (x.line k) + pending x.messages 41 k ≡ 0 in
          let before : P n = omega (arith, t.2) in
          let g = bounds.written w (subst P at before) in
          omega (arith, same_bound)

      owner : (q : ℕ) → owned (y.line q) ≡ 1 → (e.stamp.node ≡ q → ⊥) → (eqb p q ≡ true) ⊎ (eqb p q ≡ false) → e.stamp.global < y.clock q
      owner q is apart (inl same) =
          let now = ap (λ (k : ℕ). owned (y.line k)) (eqb-true p q same) in
          let line = ap owned here in
          absurd (omega arith)
      owner q is apart (inr other) =
          let line = ap owned (there q other).0 in
          let g = bounds.owner q (omega arith) apart in
          let on = r.clocks q in
          omega arith

      sharer : (q : ℕ) → shared (y.line q) ≡ 1 → is_write e.operation ≡ true → (eqb p q ≡ true) ⊎ (eqb p q ≡ false) → e.stamp.global < y.clock q
      sharer q is w (inl same) = subst (λ (k : ℕ). e.stamp.global < y.clock k) (eqb-true p q same) (go (cases_eq e.stamp.node p))
        where
          owned_before : owned (x.line p) ≡ 1
          owned_before = ap owned r.was ∙ was_owner (sym (ap shared here) ∙ ap (λ (k : ℕ). shared (y.line k)) (eqb-true p q same) ∙ is)

          go : (e.stamp.node ≡ p) ⊎ (e.stamp.node ≡ p → ⊥) → e.stamp.global < y.clock p
          go (inl at) = mine at
          go (inr apart) = let g = bounds.owner p owned_before apart in let on = r.onward in omega arith
      sharer q is w (inr other) =
          let line = ap shared (there q other).0 in
          let g = bounds.sharer q (omega arith) w in
          let on = r.clocks q in
          omega arith

      own : Acknowledged y.line e a
      own ack from =
          let g = mine (from ∙ r.end_back) in
          let clock = r.clock_back in
          record { writes = λ _. omega arith; all = λ _. omega arith }

      others : All (Acknowledged y.line e) x.messages
      others =
          all_from_has (Acknowledged y.line e) x.messages (λ n has ack from.
          let old = all-has (Acknowledged x.line e) x.messages n bounds.acknowledged has ack from in
          let elsewhere : peer n ≡ p → ⊥ = all-has (λ k. is_ack k ≡ true → peer k ≡ p → ⊥) x.messages n (no_acks_of x.messages p plain marked) has ack in
          let line : y.line (peer n) ≡ x.line (peer n) = (there (peer n) (ne_eqb p (peer n) (λ s. elsewhere (sym s)))).0 in
          record { writes = old.writes; all = λ none. old.all (sym (ap held line) ∙ none) })

  pub gives_bounds : Bounds x → Bounds y
  gives_bounds bounds = subst (All (Bounded y.line y.clock y.home y.messages)) (sym r.trail) (All-weaker _ _ gives_bounded x.trail bounds)

-- A processor takes a copy: the reply's clock, which it passes, is the bound of all that the home knows of.
module _ (b : ℕ) (x y : Block) (p : ℕ) (k : Kind) (old new : Line) (c : ℕ) (m : Message ℕ) (r : Takes b x y p k old new c m)
    (other : (eqb c 12 || eqb c 41) ≡ false) (limit : bound x.home < y.clock p) (holds : held new ≡ 1)
    (was_sharer : owned old ≤ owned new)
    (sole : owned new ≡ 1 → (q : ℕ) → eqb p q ≡ false → held (x.line q) + (pending x.messages 12 q + pending x.messages 41 q) ≡ 0)
    (no_owner : shared new ≡ 1 → (q : ℕ) → owned (x.line q) + pending x.messages 41 q ≡ 0) where
  counts : (q : ℕ) → (pending y.messages 12 q ≡ pending x.messages 12 q) × (pending y.messages 41 q ≡ pending x.messages 41 q)
  counts q = unmoved x.messages y.messages (m ∷ []) _ r.messages (other_class m c r.class other, tt) (refl, tt) q

  line_there : (q : ℕ) → eqb p q ≡ false → y.line q ≡ x.line q
  line_there q apart = put_there p q new (x.line q) (y.line q) (r.lines q) apart

  line_here : y.line p ≡ new
  line_here = put_here p new (x.line p) (y.line p) (r.lines p)

  takes_bounded : (e : Entry) → Bounded x.line x.clock x.home x.messages e → Bounded y.line y.clock y.home y.messages e
  takes_bounded e bounds = record {
    known = known e.stamp.node refl (cases_Bool (eqb p e.stamp.node));
    written = written e.stamp.node refl (cases_Bool (eqb p e.stamp.node));
    owner = λ q is apart. owner q is apart (cases_Bool (eqb p q));
    sharer = λ q is w. sharer q is w (cases_Bool (eqb p q));
    past = λ low. let g = bounds.past low in let on = r.clocks e.stamp.node in omega arith;
    acknowledged = posted_all (Acknowledged y.line e) x.messages (m ∷ []) _ y.messages r.messages others ((λ ack from. absurd (false≢true ack)), tt);
  }
    where
      same_bound : bound y.home ≡ bound x.home
      same_bound = ap bound r.home

      known : (n : ℕ) → n ≡ e.stamp.node → (eqb p n ≡ true) ⊎ (eqb p n ≡ false) → held (y.line n) + (pending y.messages 12 n + pending y.messages 41 n) ≡ 0 → e.stamp.global ≤ bound y.home
      known n at (inl same) none =
          let now = ap (λ (k : ℕ). held (y.line k)) (eqb-true p n same) in
          let line = ap held line_here in
          absurd (omega arith)
      known n at (inr apart) none =
          let t = counts n in
          let line = ap held (line_there n apart) in
          let P : ℕ → Type 0 = λ k. held (x.line k) + (pending x.messages 12 k + pending x.messages 41 k) ≡ 0 in
          let before : P n = omega (arith, t.0, t.1) in
          let g = bounds.known (subst P at before) in
          omega (arith, same_bound)

      written : (n : ℕ) → n ≡ e.stamp.node → (eqb p n ≡ true) ⊎ (eqb p n ≡ false) → is_write e.operation ≡ true → owned (y.line n) + pending y.messages 41 n ≡ 0 → e.stamp.global ≤ bound y.home
      written n at (inl same) w none =
          let P : ℕ → Type 0 = λ k. owned (x.line k) + pending x.messages 41 k ≡ 0 in
          let Q : ℕ → Type 0 = λ k. owned (y.line k) + pending y.messages 41 k ≡ 0 in
          let now : Q p = subst Q (sym (eqb-true p n same)) none in
          let line = ap owned line_here in
          let was = ap owned r.was in
          let before : P p = omega (arith, (counts p).1) in
          let g = bounds.written w (subst P (eqb-true p n same ∙ at) before) in
          omega (arith, same_bound)
      written n at (inr apart) w none =
          let line = ap owned (line_there n apart) in
          let P : ℕ → Type 0 = λ k. owned (x.line k) + pending x.messages 41 k ≡ 0 in
          let before : P n = omega (arith, (counts n).1) in
          let g = bounds.written w (subst P at before) in
          omega (arith, same_bound)

      owner : (q : ℕ) → owned (y.line q) ≡ 1 → (e.stamp.node ≡ q → ⊥) → (eqb p q ≡ true) ⊎ (eqb p q ≡ false) → e.stamp.global < y.clock q
      owner q is apart (inl same) =
          let own : owned new ≡ 1 = sym (ap owned line_here) ∙ ap (λ (k : ℕ). owned (y.line k)) (eqb-true p q same) ∙ is in
          let g = bounds.known (sole own e.stamp.node (ne_eqb p e.stamp.node (λ s. apart (sym s ∙ eqb-true p q same)))) in
          subst (λ (k : ℕ). e.stamp.global < y.clock k) (eqb-true p q same) (omega arith)
      owner q is apart (inr elsewhere) =
          let line = ap owned (line_there q elsewhere) in
          let g = bounds.owner q (omega arith) apart in
          let on = r.clocks q in
          omega arith

      sharer : (q : ℕ) → shared (y.line q) ≡ 1 → is_write e.operation ≡ true → (eqb p q ≡ true) ⊎ (eqb p q ≡ false) → e.stamp.global < y.clock q
      sharer q is w (inl same) =
          let own : shared new ≡ 1 = sym (ap shared line_here) ∙ ap (λ (k : ℕ). shared (y.line k)) (eqb-true p q same) ∙ is in
          let g = bounds.written w (no_owner own e.stamp.node) in
          subst (λ (k : ℕ). e.stamp.global < y.clock k) (eqb-true p q same) (omega arith)
      sharer q is w (inr elsewhere) =
          let line = ap shared (line_there q elsewhere) in
          let g = bounds.sharer q (omega arith) w in
          let on = r.clocks q in
          omega arith

      others : All (Acknowledged y.line e) x.messages
      others =
          All-weaker (Acknowledged x.line e) (Acknowledged y.line e)
          (λ n old ack from. let was = old ack from in record { writes = was.writes; all = still n was (cases_Bool (eqb p (peer n))) }) x.messages bounds.acknowledged
        where
          still : (n : Message ℕ) → Above (x.line (peer n)) e n → (eqb p (peer n) ≡ true) ⊎ (eqb p (peer n) ≡ false) → held (y.line (peer n)) ≡ 0 → e.stamp.global < n.clock
          still n was (inl same) none =
              let now = ap (λ (k : ℕ). held (y.line k)) (eqb-true p (peer n) same) in
              let line = ap held line_here in
              absurd (omega arith)
          still n was (inr apart) none = was.all (sym (ap held (line_there (peer n) apart)) ∙ none)

  pub takes_bounds : Bounds x → Bounds y
  takes_bounds bounds = subst (All (Bounded y.line y.clock y.home y.messages)) (sym r.trail) (All-weaker _ _ takes_bounded x.trail bounds)

-- The home hears an acknowledgement: what loses its exception is below it.
module _ (b : ℕ) (x y : Block) (m : Message ℕ) (r : Hears b x y m) where
  abbrev p : ℕ
  p = m.sender

  latest : bound y.home ≡ max x.home.clock.global (max (round_of x.home.directory).latest m.clock)
  latest = ap bound r.home

  gone : (q : ℕ) → eqb p q ≡ false → (pending y.messages 12 q ≡ pending x.messages 12 q) × (pending y.messages 41 q ≡ pending x.messages 41 q)
  gone q apart =
      let same = went_there x.messages y.messages m _ p r.class r.end r.messages q apart in
      (same 12, same 41)

  ack : is_ack m ≡ true
  ack = cond_both m.exclusive 41 12 (λ (c : ℕ). token m ≡ c → is_ack m ≡ true) (λ _ is. ap (λ n. eqb n 12 || eqb n 41) is) (λ _ is. ap (λ n. eqb n 12 || eqb n 41) is) r.class

  hears_bounded : (e : Entry) → Bounded x.line x.clock x.home x.messages e → Bounded y.line y.clock y.home y.messages e
  hears_bounded e bounds = record {
    known = known (cases_Bool (eqb p e.stamp.node));
    written = written (cases_Bool (eqb p e.stamp.node));
    owner = λ q is apart. let line = ap owned (r.lines q) in let g = bounds.owner q (omega arith) apart in let on = r.clocks q in omega arith;
    sharer = λ q is w. let line = ap shared (r.lines q) in let g = bounds.sharer q (omega arith) w in let on = r.clocks q in omega arith;
    past = λ low. let g = bounds.past low in let on = r.clocks e.stamp.node in omega arith;
    acknowledged = posted_all (Acknowledged y.line e) x.messages (m ∷ []) [] y.messages r.messages
        (All-weaker (Acknowledged x.line e) (Acknowledged y.line e)
        (λ n old is from. let was = old is from in record { writes = was.writes; all = λ none. was.all (sym (ap held (r.lines (peer n))) ∙ none) }) x.messages bounds.acknowledged) tt;
  }
    where
      heard : e.stamp.node ≡ p → Above (x.line (peer m)) e m
      heard at = (posted_gone (Acknowledged x.line e) x.messages (m ∷ []) [] y.messages r.messages bounds.acknowledged).0 ack (at ∙ sym r.end)

      known : (eqb p e.stamp.node ≡ true) ⊎ (eqb p e.stamp.node ≡ false)
          → held (y.line e.stamp.node) + (pending y.messages 12 e.stamp.node + pending y.messages 41 e.stamp.node) ≡ 0 → e.stamp.global ≤ bound y.home
      known (inl same) none =
          let at = sym (eqb-true p e.stamp.node same) in
          let line : held (y.line e.stamp.node) ≡ held (x.line (peer m)) = ap held (r.lines e.stamp.node) ∙ ap (λ (k : ℕ). held (x.line k)) (at ∙ sym r.end) in
          let g = (heard at).all (omega arith) in
          omega (arith, latest)
      known (inr apart) none =
          let line = ap held (r.lines e.stamp.node) in
          let t = gone e.stamp.node apart in
          let g = bounds.known (omega (arith, t.0, t.1)) in
          omega (arith, latest)

      written : (eqb p e.stamp.node ≡ true) ⊎ (eqb p e.stamp.node ≡ false)
          → is_write e.operation ≡ true → owned (y.line e.stamp.node) + pending y.messages 41 e.stamp.node ≡ 0 → e.stamp.global ≤ bound y.home
      written (inl same) w none = let g = (heard (sym (eqb-true p e.stamp.node same))).writes w in omega (arith, latest)
      written (inr apart) w none =
          let line = ap owned (r.lines e.stamp.node) in
          let t = gone e.stamp.node apart in
          let g = bounds.written w (omega (arith, t.1)) in
          omega (arith, latest)

  pub hears_bounds : Bounds x → Bounds y
  hears_bounds bounds = subst (All (Bounded y.line y.clock y.home y.messages)) (sym r.trail) (All-weaker _ _ hears_bounded x.trail bounds)
