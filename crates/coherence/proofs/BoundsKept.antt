-- Every move of a block keeps the bounds of its entries, and an entry that it adds is above those that conflict with it.
use Rattle.std.proofs.Common.{◌≡◌, ℕ, ◌+◌, ◌<◌, ◌≤◌, true, false, eqb, [], ◌∷◌, ◌++◌, Some, None, Option, sym, refl, ap, ◌∙◌, subst, arith}
use Rattle.home.specs.Reactions.{finished}
use Rattle.message.specs.declared.kind.Kind.{Kind}
use Rattle.message.specs.declared.kind.Kind.TheVariants as kind
use Rattle.message.specs.declared.message.Message.{Message}
use Rattle.ordering.specs.declared.operation.Words.{Words}
use Rattle.processor.specs.declared.line.Line.{Line}
use Rattle.processor.specs.declared.line.Line.TheVariants.{Invalid, Shared, Exclusive}
use Rattle.std.proofs.lemmas.List.{append-nil}
use Rattle.std.proofs.lemmas.Bool.{eqb-false}
use Rattle.std.specs.Option.{option_to_list}
use Rattle.trail.specs.declared.entry.Entry.{Entry}
use Rattle.coherence.proofs.Adding.{Enters, enters, finish, grown, last_entry, load, nothing, store}
use Rattle.coherence.proofs.Blocks.{Block, pending, posted_gone}
use Rattle.coherence.proofs.Bounds.{Bounds, Fresh, bound}
use Rattle.coherence.proofs.BoundsCopies as copies
use Rattle.coherence.proofs.BoundsFinished.{finishes_bounds, finishes_fresh}
use Rattle.coherence.proofs.BoundsOperations.{loads_bounds, loads_fresh, stores_bounds, stores_fresh}
use Rattle.coherence.proofs.BoundsQuiet.{asks_bounds, fit_request, frees_bounds, nacked_bounds, refusal_class, request_class, requests_bounds, rests_bounds, returns_bounds, takes_bounds}
use Rattle.coherence.proofs.Carrying.{gathers}
use Rattle.coherence.proofs.Counting.{indicator, indicator_most, not_sure}
use Rattle.coherence.proofs.Moves.{GivesWay, Moves, Takes, rests, loads, stores, requests, invalidates_shared, invalidates_owned, downgrades, shares, owns, betters, gives_back, lands, stored, nacked, again, refuses, asks_holders, hears, finishes, frees}
use Rattle.coherence.proofs.Phases.{nothing_heard}
use Rattle.coherence.proofs.Shifts.{TimedReply, apart, moved_here}
use Rattle.coherence.proofs.Sole.{copies_add, held_most}
use Rattle.coherence.proofs.Tokens.{Tokens, answering, exclusive, gathering, held, holder, is_reply, out_is}

module _ (b : ℕ) (x y : Block) (t : Tokens x) (bounds : Bounds x) where
  -- Who is asked has not answered yet.
  module _ (p : ℕ) (old new : Line) (c d : ℕ) (back : Words) (m a : Message ℕ) (r : GivesWay b x y p old new c d back m a) where
    counted : (n : ℕ) → pending y.messages n p + indicator (eqb c n) ≡ pending x.messages n p + indicator (eqb d n)
    counted = moved_here x.messages y.messages m c p r.class r.end a d r.class_back r.end_back r.messages

    silent : 1 ≤ pending x.messages 10 p + pending x.messages 11 p → (pending x.messages 12 p ≡ 0) × (pending x.messages 41 p ≡ 0)
    silent asked = let w = (t.gathered p).waits in omega (arith, indicator_most)

  -- Who waits for its reply: the reply has the clock of a home that does not gather, which is the bound of all it knows of.
  module _ (p : ℕ) (k : Kind) (old new : Line) (c : ℕ) (m : Message ℕ) (r : Takes b x y p k old new c m) where
    taken : (n : ℕ) → pending y.messages n p + indicator (eqb c n) ≡ pending x.messages n p + indicator (eqb 20 n)
    taken = moved_here x.messages y.messages m c p r.class r.end _ 20 refl refl r.messages

    idle : 1 ≤ answering x.home p → gathering x.home ≡ 0
    idle answered = let a = apart x.home p in omega arith

    limit : p < 4 → is_reply c ≡ true → 1 ≤ answering x.home p → bound x.home < y.clock p
    limit small is answered =
        let free = not_sure (gathers x.home) (idle answered) in
        let none = nothing_heard x.home free in
        let clock = (posted_gone (TimedReply x.home) x.messages (m ∷ []) _ y.messages r.messages t.clocks).0 (ap is_reply r.class ∙ is) in
        let on = r.onward small in
        omega arith

    -- where the requester is given the only copy
    alone : 1 ≤ answering x.home p → 1 ≤ exclusive x.home → 1 ≤ holder x.home p → (q : ℕ) → eqb p q ≡ false
        → held (x.line q) + (pending x.messages 12 q + pending x.messages 41 q) ≡ 0
    alone answered owner holds q other =
        let free = idle answered in
        let one = t.one p q (eqb-false p q other) in
        let copy = (t.copies q).copy in
        let busy = (t.gathered q).busy in
        let waits = (t.gathered q).waits in
        omega arith

  pub bounds_moved : Moves b x y → Bounds y
  bounds_moved (rests r) = rests_bounds b x y bounds r
  bounds_moved (loads p w ws e r) = loads_bounds b x y t bounds p w ws e r
  bounds_moved (stores p w v ws e r) = stores_bounds b x y t bounds p w v ws e r
  bounds_moved (requests n k m r) = requests_bounds b x y n k m (fit_request n (x.line n) k r.fit) bounds r
  bounds_moved (invalidates_shared p ws m a r) =
      let n = counted p (Shared ws) Invalid 10 12 _ m a r in
      let ten = n 10 in
      let twelve = n 12 in
      let none = silent p (Shared ws) Invalid 10 12 _ m a r (omega arith) in
      copies.gives_bounds b x y p (Shared ws) Invalid 10 12 _ m a r none.0 none.1 (omega arith) (omega arith) refl (λ is. absurd (omega arith)) bounds
  bounds_moved (invalidates_owned p ws m a r) =
      let n = counted p (Exclusive ws) Invalid 10 41 _ m a r in
      let ten = n 10 in
      let marked = n 41 in
      let none = silent p (Exclusive ws) Invalid 10 41 _ m a r (omega arith) in
      copies.gives_bounds b x y p (Exclusive ws) Invalid 10 41 _ m a r none.0 none.1 (omega arith) (omega arith) refl (λ is. absurd (omega arith)) bounds
  bounds_moved (downgrades p ws m a r) =
      let n = counted p (Exclusive ws) (Shared ws) 11 41 _ m a r in
      let eleven = n 11 in
      let marked = n 41 in
      let none = silent p (Exclusive ws) (Shared ws) 11 41 _ m a r (omega arith) in
      copies.gives_bounds b x y p (Exclusive ws) (Shared ws) 11 41 _ m a r none.0 none.1 (omega arith) (omega arith) refl (λ is. refl) bounds
  bounds_moved (shares p m small r) =
      let n = taken p kind.Gets (x.line p) (Shared m.words) 13 m r 13 in
      let reply = (t.asked p).reply in
      let asked = ap (λ (o : Option Kind). out_is o 1) r.asked in
      let missing = (t.copies p).missing in
      let sum = copies_add (x.line p) in
      let sharing = (t.copies p).sharing in
      copies.takes_bounds b x y p kind.Gets (x.line p) (Shared m.words) 13 m r refl (limit p kind.Gets (x.line p) (Shared m.words) 13 m r small refl (omega arith)) refl
      (omega arith) (λ is. absurd (omega arith)) (λ _ q. let own = (t.copies q).owner in let marked = (t.gathered q).marked in omega arith) bounds
  bounds_moved (owns p m small r) =
      let n = taken p kind.Getx (x.line p) (Exclusive m.words) 14 m r 14 in
      let reply = (t.asked p).reply in
      let own = (t.copies p).owner in
      let copy = (t.copies p).copy in
      let sum = copies_add (x.line p) in
      let most = held_most (x.line p) in
      copies.takes_bounds b x y p kind.Getx (x.line p) (Exclusive m.words) 14 m r refl (limit p kind.Getx (x.line p) (Exclusive m.words) 14 m r small refl (omega arith)) refl
      (omega arith) (λ _ q. alone p kind.Getx (x.line p) (Exclusive m.words) 14 m r (omega arith) (omega arith) (omega arith) q) (λ is. absurd (omega arith)) bounds
  bounds_moved (betters p ws m small r) =
      let n = taken p kind.Upg (Shared ws) (Exclusive ws) 15 m r 15 in
      let reply = (t.asked p).reply in
      let own = (t.copies p).owner in
      let copy = (t.copies p).copy in
      let granted = (t.copies p).granted in
      let sum = copies_add (x.line p) in
      copies.takes_bounds b x y p kind.Upg (Shared ws) (Exclusive ws) 15 m r refl (limit p kind.Upg (Shared ws) (Exclusive ws) 15 m r small refl (omega arith)) refl
      (omega arith) (λ _ q. alone p kind.Upg (Shared ws) (Exclusive ws) 15 m r (omega arith) (omega arith) (omega arith) q) (λ is. absurd (omega arith)) bounds
  bounds_moved (gives_back p m small r) = takes_bounds b x y p kind.Wb 16 m refl bounds r
  bounds_moved (lands n m device r) = takes_bounds b x y n kind.Rblk 17 m refl bounds r
  bounds_moved (stored n m device r) = takes_bounds b x y n kind.Wblk 42 m refl bounds r
  bounds_moved (nacked p k m is r) = nacked_bounds b x y p k m is bounds r
  bounds_moved (again n k m a is r) = returns_bounds b x y n _ _ m a (refusal_class k is) (request_class k is) bounds r
  bounds_moved (refuses n k m a is r) = returns_bounds b x y n _ _ m a (request_class k is) (refusal_class k is) bounds r
  bounds_moved (asks_holders m t' s r) = asks_bounds b x y m t' s bounds r
  bounds_moved (hears m r) = copies.hears_bounds b x y m r bounds
  bounds_moved (finishes r) = finishes_bounds b x y t bounds r
  bounds_moved (frees n m r) = frees_bounds b x y n m bounds r

  module _ (e : Entry) (added : y.trail ≡ x.trail ++ e ∷ []) where
    not_still : {P : Type 0} → y.trail ≡ x.trail → P
    not_still same = absurd (grown x.trail e (sym same ∙ added))

    same_entry : (f : Entry) → y.trail ≡ x.trail ++ f ∷ [] → f ≡ e
    same_entry f is = last_entry x.trail f e (sym is ∙ added)

    pub fresh_moved : Moves b x y → Fresh x.trail e
    fresh_moved move = by (enters b x y move)
      where
        by : Enters b x y → Fresh x.trail e
        by (nothing same) = not_still same
        by (load p w ws f r) = subst (Fresh x.trail) (same_entry f r.trail) (loads_fresh b x y t bounds p w ws f r)
        by (store p w v ws f r) =
            subst (Fresh x.trail) (same_entry f r.trail) (stores_fresh b x y t bounds p w v ws f r)
        by (finish r) = go (finished x.home b).entry refl
          where
            go : (o : Option Entry) → (finished x.home b).entry ≡ o → Fresh x.trail e
            go None is =
                not_still (r.trail ∙ ap (λ (f : Option Entry). x.trail ++ option_to_list f) is ∙ append-nil x.trail)
            go (Some f) is =
                let entered = r.trail ∙ ap (λ (g : Option Entry). x.trail ++ option_to_list g) is in
                subst (Fresh x.trail) (same_entry f entered) (finishes_fresh b x y t bounds r f is)
