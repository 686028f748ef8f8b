-- The home finishes: its clock goes above all that it knows of, so an operation of its own is above every entry that
-- conflicts with it.
use Rattle.std.proofs.Common.{◌≡◌, ℕ, ◌+◌, ◌<◌, ◌≤◌, true, false, ◌&&◌, eqb, [], ◌∷◌, ◌++◌, Some, None, Option, sym, refl, ap, subst, ⊎_elim, arith}
use Rattle.home.specs.Directories.{round_of}
use Rattle.home.specs.Reactions.{clock_after, finished, reply}
use Rattle.home.specs.Requests.{asks_down}
use Rattle.home.specs.declared.machine.Home.{Home}
use Rattle.message.specs.Kinds.{kind_number, same_kind}
use Rattle.message.specs.declared.kind.Kind.{Kind}
use Rattle.message.specs.declared.kind.Kind.TheVariants as kind
use Rattle.ordering.specs.Operations.{is_write}
use Rattle.ordering.specs.declared.stamp.Stamp.{Stamp}
use Rattle.std.proofs.ByRecursion.{All-push, All-weaker}
use Rattle.std.proofs.lemmas.List.{append-nil}
use Rattle.std.proofs.lemmas.Bool.{both_ways, or_cases, and_right}
use Rattle.std.proofs.lemmas.Bool.Decides.{nat_tests}
use Rattle.std.specs.Option.{option_to_list}
use Rattle.std.specs.List.{AllByRecursion as All}
use Rattle.trail.specs.declared.entry.Entry.{Entry}
use Rattle.coherence.proofs.Blocks.{Block, peer, pending, posted_all}
use Rattle.coherence.proofs.Bounds.{Acknowledged, Bounded, Bounds, Fresh, NoAcks, bound, bounded_on, is_ack}
use Rattle.coherence.proofs.BoundsCopies.{no_acks_of}
use Rattle.coherence.proofs.BoundsQuiet.{reply_class}
use Rattle.coherence.proofs.Carrying.{gathers}
use Rattle.coherence.proofs.Counting.{indicator}
use Rattle.coherence.proofs.HomeClocks.{finishes as timely}
use Rattle.coherence.proofs.Moves.{Finishes}
use Rattle.coherence.proofs.Sole.{copies_add, none_asked, none_owned}
use Rattle.coherence.proofs.Tokens.{Tokens, gathering, held, owned, shared, serving}
use Rattle.coherence.proofs.TokensKept.{same_line}

-- the clock goes above what the home had and what it heard
above : (h : Home ℕ) → bound h < (clock_after h.clock (round_of h.directory)).global
above h = grind (arith, nat_tests)

-- only Wblk writes
writes_for : (h : Home ℕ) (b : ℕ) (e : Entry) → (finished h b).entry ≡ Some e → is_write e.operation ≡ true → same_kind (round_of h.directory).request.kind kind.Wblk ≡ true
writes_for h b e is write = grind (arith, nat_tests)

-- who asks for Wblk takes every copy back
wblk_asks : (k : Kind) → same_kind k kind.Wblk ≡ true → (indicator (asks_down k) ≡ 0) × (eqb (kind_number k) 3 ≡ false)
wblk_asks k is = (grind (arith, nat_tests), grind (arith, nat_tests))

module _ (b : ℕ) (x y : Block) (t : Tokens x) (bounds : Bounds x) (r : Finishes b x y) where
  abbrev h : Home ℕ
  h = x.home

  abbrev BoundedIn : Block → Entry → Type 0
  BoundedIn z e = Bounded z.line z.clock z.home z.messages e

  busy : gathering h ≡ 1
  busy = ap indicator r.gathering

  no_acks : (q : ℕ) → (pending x.messages 12 q ≡ 0) × (pending x.messages 41 q ≡ 0)
  no_acks q = let z = none_asked x t r.heard q in (z.2, z.3)

  no_owner : (q : ℕ) → owned (x.line q) ≡ 0
  no_owner = none_owned x t r.heard busy

  -- where a write was asked for, nobody has a copy
  none_held : same_kind (round_of h.directory).request.kind kind.Wblk ≡ true → (q : ℕ) → held (x.line q) ≡ 0
  none_held is q =
      let k = wblk_asks (round_of h.directory).request.kind is in
      let all = (t.gathered q).all_asked in
      let copy = (t.copies q).copy in
      let waits = (t.gathered q).waits in
      let z = none_asked x t r.heard q in
      let off : (gathers h && (eqb (kind_number (round_of h.directory).request.kind) 3 && eqb (round_of h.directory).request.requester q)) ≡ false = rw k.1 (and_right (gathers h) false refl) in
      let not_upgrading : serving h 3 q ≡ 0 = ap indicator off in
      omega (arith, busy, k.0, z.0, z.1, z.2, z.3)

  global_now : y.home.clock.global ≡ (clock_after h.clock (round_of h.directory)).global
  global_now = ap (λ (k : Home ℕ). k.clock.global) r.home

  answer : NoAcks (reply b (round_of h.directory).request y.home.words y.home.clock.global ∷ [])
  answer = (reply_class b (round_of h.directory).request y.home.words y.home.clock.global, tt)

  up : bound h ≤ bound y.home
  up = let g = global_now in let a = above h in omega arith

  old_bounded : (e : Entry) → BoundedIn x e → BoundedIn y e
  old_bounded = bounded_on x y [] _ (λ q. same_line (y.line q) (x.line q) (r.lines q)) (λ q. let c = r.clocks q in omega arith) up r.messages tt answer

  module _ (e : Entry) (is : (finished h b).entry ≡ Some e) where
    at_home : (e.stamp.node ≡ 16 + b) × (e.stamp.global ≡ (clock_after h.clock (round_of h.directory)).global)
    at_home = let s = (timely h b).stamps e is in (ap (λ (z : Stamp). z.node) s, ap (λ (z : Stamp). z.global) s)

    pub finishes_fresh : Fresh x.trail e
    finishes_fresh =
        All-weaker (BoundedIn x) _ (λ f old conflict apart.
        let known : f.stamp.global ≤ bound h =
        ⊎_elim (λ write. old.written write (let o = no_owner f.stamp.node in let a = no_acks f.stamp.node in omega (arith, a.1)))
        (λ write. old.known (let z = none_held (writes_for h b e is write) f.stamp.node in let a = no_acks f.stamp.node in omega (arith, a.0, a.1)))
        (or_cases (is_write f.operation) (is_write e.operation) conflict) in
        let a = above h in
        omega (arith, at_home.1)) x.trail bounds

    new_finish : BoundedIn y e
    new_finish = record {
      known = λ _. omega (arith, at_home.1, global_now);
      written = λ _ _. omega (arith, at_home.1, global_now);
      owner = λ q own _. absurd (let o = no_owner q in let l = ap owned (r.lines q) in omega arith);
      sharer = λ q own write. absurd (let z = none_held (writes_for h b e is write) q in let l = ap shared (r.lines q) in let s = copies_add (x.line q) in omega arith);
      past = λ low. absurd (omega (arith, at_home.0));
      acknowledged = posted_all (Acknowledged y.line e) x.messages [] _ y.messages r.messages
          (All-weaker (λ m. is_ack m ≡ true → peer m ≡ e.stamp.node → ⊥) (Acknowledged y.line e) (λ m none ack from. absurd (none ack (sym from))) x.messages
          (let a = no_acks e.stamp.node in no_acks_of x.messages e.stamp.node a.0 a.1))
          ((λ ack from. absurd (both_ways (is_ack (reply b (round_of h.directory).request y.home.words y.home.clock.global)) answer.0 ack)), tt);
    }

  pub finishes_bounds : Bounds y
  finishes_bounds = subst (All (BoundedIn y)) (sym r.trail) (go (finished h b).entry refl)
    where
      old : All (BoundedIn y) x.trail
      old = All-weaker (BoundedIn x) (BoundedIn y) old_bounded x.trail bounds

      go : (o : Option Entry) → (finished h b).entry ≡ o → All (BoundedIn y) (x.trail ++ option_to_list o)
      go None is = subst (All (BoundedIn y)) (sym (append-nil x.trail)) old
      go (Some e) is = All-push (BoundedIn y) x.trail e old (new_finish e is)
