-- Tokens where one node moves and the home stays: only that node's records are to be shown. With it, how the counts of
-- messages change where the class and the end of what goes and of what comes are known.
use Rattle.std.proofs.Common.{◌≡◌, ℕ, ◌+◌, ◌≤◌, Bool, true, false, cond, ◌&&◌, eqb, List, [], ◌∷◌, Option, sym, refl, ap, ◌∙◌, subst, ⊎_elim, arith}
use Rattle.home.specs.declared.machine.Home.{Home}
use Rattle.message.specs.declared.kind.Kind.{Kind}
use Rattle.message.specs.declared.message.Message.{Message}
use Rattle.processor.specs.declared.line.Line.{Line}
use Rattle.std.proofs.lemmas.Bool.{and_right, cases_Bool, eq-eqb, eqb-true}
use Rattle.std.specs.List.{AllByRecursion as All}
use Rattle.coherence.proofs.Blocks.{Block, Posted, token, peer, pending, pending_moved, pending_gone, pending_come}
use Rattle.coherence.proofs.Counting.{indicator, indicator_most}
use Rattle.coherence.proofs.Tokens.{Tokens, AskedFor, Gathered, Held, answering, gathering, held, is_reply, owned, shared}

-- the test of an end, at the node and elsewhere
at_end : (t : Bool) (p : ℕ) → indicator (t && eqb p p) ≡ indicator t
at_end true p = ap indicator (eq-eqb p p refl)
at_end false p = refl

off_end : (t : Bool) (p q : ℕ) → eqb p q ≡ false → indicator (t && eqb p q) ≡ 0
off_end t p q apart = ap indicator (and_right t (eqb p q) apart)

-- One message, m, of class a, at node p goes or comes.
module _ (before now : List (Message ℕ)) (m : Message ℕ) (a p : ℕ) (class : token m ≡ a) (end : peer m ≡ p) where
  pub went : Posted before (m ∷ []) [] now → (q c : ℕ) → pending now c q + indicator (eqb a c && eqb p q) ≡ pending before c q
  went post q c = rw (← class, ← end) (pending_gone c q before now m post)

  pub came : Posted before [] (m ∷ []) now → (q c : ℕ) → pending now c q ≡ pending before c q + indicator (eqb a c && eqb p q)
  came post q c = rw (← class, ← end) (pending_come c q before now m post)

  pub went_here : Posted before (m ∷ []) [] now → (c : ℕ) → pending now c p + indicator (eqb a c) ≡ pending before c p
  went_here post c = omega (arith, went post p c, at_end (eqb a c) p)

  pub went_there : Posted before (m ∷ []) [] now → (q : ℕ) → eqb p q ≡ false → (c : ℕ) → pending now c q ≡ pending before c q
  went_there post q apart c = omega (arith, went post q c, off_end (eqb a c) p q apart)

  pub came_here : Posted before [] (m ∷ []) now → (c : ℕ) → pending now c p ≡ pending before c p + indicator (eqb a c)
  came_here post c = omega (arith, came post p c, at_end (eqb a c) p)

  pub came_there : Posted before [] (m ∷ []) now → (q : ℕ) → eqb p q ≡ false → (c : ℕ) → pending now c q ≡ pending before c q
  came_there post q apart c = omega (arith, came post q c, off_end (eqb a c) p q apart)

  -- and another, n, of class d, at the same node comes
  module _ (n : Message ℕ) (d : ℕ) (ClassBack : token n ≡ d) (end_back : peer n ≡ p) (post : Posted before (m ∷ []) (n ∷ []) now) where
    moved : (q c : ℕ) → pending now c q + indicator (eqb a c && eqb p q) ≡ pending before c q + indicator (eqb d c && eqb p q)
    moved q c = rw (← class, ← ClassBack) (
        ap (λ r. pending now c q + indicator (eqb (token m) c && eqb r q)) (sym end)
        ∙ pending_moved c q before now m n post
        ∙ ap (λ r. pending before c q + indicator (eqb (token n) c && eqb r q)) end_back)

    pub moved_here : (c : ℕ) → pending now c p + indicator (eqb a c) ≡ pending before c p + indicator (eqb d c)
    moved_here c = omega (arith, moved p c, at_end (eqb a c) p, at_end (eqb d c) p)

    pub moved_there : (q : ℕ) → eqb p q ≡ false → (c : ℕ) → pending now c q ≡ pending before c q
    moved_there q apart c = omega (arith, moved q c, off_end (eqb a c) p q apart, off_end (eqb d c) p q apart)

-- a read of what was put at p
pub put_here : {A : Type 0} (p : ℕ) (new old now : A) → now ≡ cond (eqb p p) new old → now ≡ new
put_here p new old now is = is ∙ ap (λ b. cond b new old) (eq-eqb p p refl)

pub put_there : {A : Type 0} (p q : ℕ) (new old now : A) → now ≡ cond (eqb p q) new old → eqb p q ≡ false → now ≡ old
put_there p q new old now is apart = is ∙ ap (λ b. cond b new old) apart

-- what was there, put back
pub put_same : {A : Type 0} (p q : ℕ) (f : ℕ → A) → cond (eqb p q) (f p) (f q) ≡ f q
put_same p q f = ⊎_elim (λ here. rw here (ap f (eqb-true p q here))) (λ there. rw there refl) (cases_Bool (eqb p q))

-- Node p before and after: its line as numbers, and its messages, of which one of class c goes and one of class d comes.
pub record Swaps (x y : Block) (p : ℕ) (old new : Line) (c d : ℕ) : Type 0 where
  pub apart : answering x.home p + gathering x.home ≤ 1
  pub held_then : held (x.line p) ≡ held old
  pub shared_then : shared (x.line p) ≡ shared old
  pub owned_then : owned (x.line p) ≡ owned old
  pub held_now : held (y.line p) ≡ held new
  pub shared_now : shared (y.line p) ≡ shared new
  pub owned_now : owned (y.line p) ≡ owned new
  pub count : (n : ℕ) → pending y.messages n p + indicator (eqb c n) ≡ pending x.messages n p + indicator (eqb d n)
  pub gone : pending y.messages c p + indicator (eqb c c) ≡ pending x.messages c p + indicator (eqb d c)

-- a home that has replied does not gather
pub apart : (h : Home ℕ) (q : ℕ) → answering h q + gathering h ≤ 1
apart h q = grind (arith, indicator_most)

pub swaps : (x y : Block) (p : ℕ) (old new : Line) (c d : ℕ) → x.line p ≡ old → y.line p ≡ cond (eqb p p) new (x.line p)
    → ((n : ℕ) → pending y.messages n p + indicator (eqb c n) ≡ pending x.messages n p + indicator (eqb d n))
    → Swaps x y p old new c d
swaps x y p old new c d was put count =
    let now = put_here p new (x.line p) (y.line p) put in
    record {
      apart = apart x.home p;
      held_then = ap held was;
      shared_then = ap shared was;
      owned_then = ap owned was;
      held_now = ap held now;
      shared_now = ap shared now;
      owned_now = ap owned now;
      count = count;
      gone = count c;
    }

-- every waiting reply has the home's clock
abbrev pub TimedReply : Home ℕ → Message ℕ → Type 0
TimedReply h m = is_reply (token m) ≡ true → m.clock ≡ h.clock.global

-- The records of a node whose messages are as many as before.
module _ (h : Home ℕ) (before now : List (Message ℕ)) (q : ℕ) (same : (c : ℕ) → pending now c q ≡ pending before c q) where
  pub asked_same : (o : Option Kind) → AskedFor o h before q → AskedFor o h now q
  asked_same o r = omega (arith, same)

  pub gathered_same : Gathered h before q → Gathered h now q
  gathered_same r = omega (arith, same)

  pub held_same : (l : Line) (o : Option Kind) → Held l o h before q → Held l o h now q
  held_same l o r = omega (arith, same)

-- what holds at p and elsewhere
pub each : (p : ℕ) (P : ℕ → Type 0) → P p → ((q : ℕ) → eqb p q ≡ false → P q) → (q : ℕ) → P q
each p P here there q = ⊎_elim (λ same. subst P (eqb-true p q same) here) (there q) (cases_Bool (eqb p q))

-- Nothing changes but at node p.
pub record Elsewhere (x y : Block) (p : ℕ) : Type 0 where
  pub home : y.home ≡ x.home
  pub lines : (q : ℕ) → eqb p q ≡ false → y.line q ≡ x.line q
  pub outs : (q : ℕ) → eqb p q ≡ false → y.out q ≡ x.out q
  pub counts : (q : ℕ) → eqb p q ≡ false → (c : ℕ) → pending y.messages c q ≡ pending x.messages c q

pub node_moves : (x y : Block) (p : ℕ) → Tokens x → Elsewhere x y p
    → AskedFor (y.out p) x.home y.messages p
    → Gathered x.home y.messages p
    → Held (y.line p) (y.out p) x.home y.messages p
    → All (TimedReply x.home) y.messages → Tokens y
node_moves x y p t e asked gathered held timed = record {
  asked = λ q. subst (λ h. AskedFor (y.out q) h y.messages q) (sym e.home) (each p (λ n. AskedFor (y.out n) x.home y.messages n) asked
      (λ n apart. rw (e.outs n apart) (asked_same x.home x.messages y.messages n (e.counts n apart) (x.out n) (t.asked n))) q);
  gathered = λ q. subst (λ h. Gathered h y.messages q) (sym e.home) (each p (λ n. Gathered x.home y.messages n) gathered
      (λ n apart. gathered_same x.home x.messages y.messages n (e.counts n apart) (t.gathered n)) q);
  copies = λ q. subst (λ h. Held (y.line q) (y.out q) h y.messages q) (sym e.home) (each p (λ n. Held (y.line n) (y.out n) x.home y.messages n) held
      (λ n apart. rw (e.outs n apart, e.lines n apart) (held_same x.home x.messages y.messages n (e.counts n apart) (x.line n) (x.out n) (t.copies n))) q);
  one = rw e.home t.one;
  some = rw e.home t.some;
  owner_asked = rw e.home t.owner_asked;
  holders_four = rw e.home t.holders_four;
  awaited_four = rw e.home t.awaited_four;
  asks = rw e.home t.asks;
  clocks = rw e.home timed;
}
