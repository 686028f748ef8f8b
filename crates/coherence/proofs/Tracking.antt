-- From the tokens of every block: where a device has nothing out for a block nothing of it is under way, and a waiting WORDS or
-- DONE has its home's clock.
use Rattle.std.proofs.Common.{◌≡◌, ℕ, ◌+◌, ◌-◌, ◌<◌, ◌≤◌, Bool, true, false, cond, ◌||◌, ◌⊎◌, List, [], ◌∷◌, Some, None, filter, Option, sym, refl, ap, ◌∙◌, subst, ⊎_elim, arith}
use Rattle.home.specs.declared.machine.Home.{Home}
use Rattle.message.proofs.Soundness.{well_formed_are_sound}
use Rattle.message.specs.Kinds.{same_kind}
use Rattle.message.specs.Laws.{comes_from_home, goes_home}
use Rattle.message.specs.Nodes.{device_node, home_node}
use Rattle.message.specs.Requests.{out}
use Rattle.message.specs.declared.figures.Figures.{Figures}
use Rattle.message.specs.declared.kind.Kind.{Kind}
use Rattle.message.specs.declared.kind.Kind.TheVariants as kind
use Rattle.message.specs.declared.message.Message.{Message}
use Rattle.ordering.specs.declared.clock.Clock.{Clock}
use Rattle.std.proofs.lemmas.Bool.{and_from, both_ways, cases_Bool, eq-eqb, le-ltb, ne_eqb}
use Rattle.std.proofs.lemmas.Bool.Decides.{nat_tests}
use Rattle.std.specs.List.{AllByRecursion as All, slice_get}
use Rattle.coherence.proofs.Arrivals.{counted_about}
use Rattle.coherence.proofs.Blocks.{about, block, peer, pending, request_out, token}
use Rattle.coherence.proofs.Clocks.{clock_at}
use Rattle.coherence.proofs.FormsBuilt.{Well}
use Rattle.coherence.proofs.Orderly.{Tracked, asks_about, gathers_for, now, requests_at}
use Rattle.coherence.proofs.Rising.{all_from_nth, all_nth}
use Rattle.coherence.proofs.Shifts.{TimedReply}
use Rattle.coherence.proofs.Tokens.{Tokens, is_reply, out_is, serving}
use Rattle.coherence.specs.Worlds.{World, home_at}

-- A message that asks for a block on behalf of device d, by its class.
asking_class : (d b : ℕ) (m : Message ℕ) → asks_about d b m ≡ true
    → (m.place ≡ b) × (peer m ≡ device_node d) × ((goes_home m.kind || comes_from_home m.kind) ≡ true) × (((token m ≡ 5) ⊎ (token m ≡ 6)) ⊎ ((token m ≡ 25) ⊎ (token m ≡ 26)))
asking_class d b m is = (grind (arith, nat_tests), grind (arith, nat_tests), grind (arith, nat_tests), grind (arith, nat_tests))

-- WORDS and DONE are replies from a home.
reply_class : (m : Message ℕ) → (same_kind m.kind kind.Words || same_kind m.kind kind.Done) ≡ true
    → (is_reply (token m) ≡ true) × ((goes_home m.kind || comes_from_home m.kind) ≡ true) × (comes_from_home m.kind ≡ true)
reply_class m is = (grind (arith, nat_tests), grind (arith, nat_tests), grind (arith, nat_tests))

-- a home that gathers for a device serves Rblk or Wblk
serves_one : (d : ℕ) (h : Home ℕ) → gathers_for d h ≡ true → 1 ≤ serving h 5 (device_node d) + serving h 6 (device_node d)
serves_one d h is = grind (arith, nat_tests)

-- what holds of all that a test keeps holds of each that passes it
pub kept_passes : {X : Type 0} (P : X → Type 0) (t : X → Bool) (xs : List X) → All P (filter t xs) → All (λ x. t x ≡ true → P x) xs
kept_passes P t [] all = tt
kept_passes P t (x ∷ xs) all = go (t x) refl all (kept_passes P t xs)
  where
    go : (b : Bool) → t x ≡ b → All P (cond b (x ∷ filter t xs) (filter t xs)) → (All P (filter t xs) → All (λ y. t y ≡ true → P y) xs) → All (λ y. t y ≡ true → P y) (x ∷ xs)
    go true is all rest = ((λ _. all.0), rest all.1)
    go false is all rest = ((λ passes. absurd (both_ways (t x) is passes)), rest all)

module _ {A B : Type 0} (w : World A B) (tokens : (b : ℕ) → b < 16 → Tokens (block b w)) where
  -- what a device has out, seen as a node's
  out_seen : (d b : ℕ) → d < 2 → out (requests_at w d) b ≡ None → request_out w b (device_node d) ≡ None
  out_seen d b two none = grind (arith, nat_tests)

  module _ (d b : ℕ) (two : d < 2) (low : b < 16) (none : out (requests_at w d) b ≡ None) where
    nothing : (k : ℕ) → out_is (request_out w b (device_node d)) k ≡ 0
    nothing k = ap (λ (o : Option Kind). out_is o k) (out_seen d b two none)

    none_asked : All (λ m. asks_about d b m ≡ false) w.messages
    none_asked = all_from_nth (λ m. asks_about d b m ≡ false) w.messages (λ i m at. ⊎_elim (λ asks. absurd (refuted i m at asks)) (λ other. other) (cases_Bool (asks_about d b m)))
      where
        refuted : (i : ℕ) (m : Message ℕ) → slice_get w.messages i ≡ Some m → asks_about d b m ≡ true → ⊥
        refuted i m at asks =
            let z = asking_class d b m asks in
            let there : (c : ℕ) → token m ≡ c → 1 ≤ pending (block b w).messages c (device_node d) =
            λ c class. subst (λ (p : ℕ). 1 ≤ pending (filter (about p) w.messages) c (device_node d)) z.0 (counted_about w.messages i m at z.2 c (device_node d) class z.1) in
            let t = (tokens b low).asked (device_node d) in
            let r = t.rblk in
            let s = t.wblk in
            let five = nothing 5 in
            let six = nothing 6 in
            ⊎_elim (⊎_elim (λ c. let one = there 5 c in omega arith) (λ c. let one = there 6 c in omega arith))
            (⊎_elim (λ c. let one = there 25 c in omega arith) (λ c. let one = there 26 c in omega arith)) z.3

    none_served : gathers_for d (home_at w b) ≡ false
    none_served = ⊎_elim (λ gathers_so. absurd (refuted gathers_so)) (λ other. other) (cases_Bool (gathers_for d (home_at w b)))
      where
        refuted : gathers_for d (home_at w b) ≡ true → ⊥
        refuted is =
            let t = (tokens b low).asked (device_node d) in
            let r = t.rblk in
            let s = t.wblk in
            let five = nothing 5 in
            let six = nothing 6 in
            let some = serves_one d (home_at w b) is in
            omega arith

  clock_of_home : (b : ℕ) → clock_at w (16 + b) ≡ (home_at w b).clock
  clock_of_home b =
      let place : 16 + b - 16 ≡ b = omega arith in
      rw (le-ltb (16 + b) 4 (omega arith), ne_eqb (16 + b) 4 (omega arith), ne_eqb (16 + b) 5 (omega arith), le-ltb (16 + b) 16 (omega arith), place) refl

  module _ (f : Figures) (well : All (Well f) w.messages) where
    replied : All (λ m. (same_kind m.kind kind.Words || same_kind m.kind kind.Done) ≡ true → m.clock ≡ now w m.sender) w.messages
    replied = all_from_nth _ w.messages (λ i m at is.
        let class = reply_class m is in
        let sound = well_formed_are_sound f m (all_nth (Well f) w.messages i m well at) in
        let low = sound.block class.1 in
        let from = sound.sender class.2 in
        let timed = all_nth _ w.messages i m (kept_passes (TimedReply (home_at w m.place)) (about m.place) w.messages (tokens m.place low).clocks) at in
        timed (and_from _ _ class.1 (eq-eqb m.place m.place refl)) class.0 ∙ sym (home_clock m.place m.sender from))
      where
        home_clock : (b n : ℕ) → n ≡ home_node b → now w n ≡ (home_at w b).clock.global
        home_clock b n is = ap (λ (k : ℕ). (clock_at w k).global) is ∙ ap (λ (c : Clock ℕ). c.global) (clock_of_home b)

    pub tracked : Tracked w
    tracked = record { asked = none_asked; served = none_served; replied = replied }
