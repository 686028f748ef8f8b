-- A home's clock: it stays or passes, and its operation is stamped with it.
use Rattle.std.proofs.Common.{◌≡◌, ℕ, ◌<◌, max, true, false, ◌⊎◌, is_some, IfSome, Some, None, Option, refl, ap, ◌∙◌, inl, inr, arith}
use Rattle.home.proofs.Keeps.{by_rule}
use Rattle.home.specs.Directories.{round_of, awaits}
use Rattle.home.specs.Reactions.{clock_after, entry_for, finished, refused, began, heard_home, after_hearing, clock_freed, awaits_taken, received, words_after}
use Rattle.home.specs.Requests.{operation_for, request_of}
use Rattle.home.specs.Sets.{is_empty}
use Rattle.home.specs.declared.directory.Round.{Round}
use Rattle.home.specs.declared.machine.Home.{Home}
use Rattle.home.specs.declared.request.Request.{Request}
use Rattle.message.specs.Nodes.{home_node, is_device}
use Rattle.message.specs.declared.kind.Kind.{Kind}
use Rattle.message.specs.declared.message.Message.{Message}
use Rattle.message.specs.declared.reaction.Reaction.{Reaction}
use Rattle.ordering.specs.Clocks.{passed, counted}
use Rattle.ordering.specs.Operations.{is_block}
use Rattle.ordering.specs.Stamps.{stamped}
use Rattle.ordering.specs.declared.clock.Clock.{Clock}
use Rattle.ordering.specs.declared.operation.Operation.{Operation}
use Rattle.ordering.specs.declared.operation.Words.{Words}
use Rattle.std.proofs.lemmas.Bool.{cond_both}
use Rattle.std.proofs.lemmas.Bool.Decides.{nat_tests}
use Rattle.trail.specs.declared.entry.Entry.{Entry}
use Rattle.message.specs.Reactions.{quiet}
use Rattle.coherence.proofs.Arising.{never}

-- What a home enters: an operation on its block of memory.
pub record BlockOperation (b : ℕ) (e : Entry) : Type 0 where
  pub block : is_block e.operation ≡ true
  pub space : e.space ≡ 0
  pub place : e.place ≡ b

pub record HomeTimely (c : Clock ℕ) (b : ℕ) (x : Reaction (Home ℕ)) : Type 0 where
  pub onward : (x.next.clock ≡ c) ⊎ (c.global < x.next.clock.global)
  pub stamps : (e : Entry) → x.entry ≡ Some e → e.stamp ≡ stamped x.next.clock (home_node b)
  pub rises : is_some x.entry ≡ true → c.global < x.next.clock.global
  pub enters : (e : Entry) → x.entry ≡ Some e → BlockOperation b e

above : (c : Clock ℕ) (g : Round) → c.global < (clock_after c g).global
above c g =
    cond_both (is_some (operation_for g.request.kind)) (counted (passed c (max g.latest g.request.clock))) (passed c g.latest)
    (λ (k : Clock ℕ). c.global < k.global) (λ _. omega arith) (λ _. omega arith)

on_blocks : (k : Kind) (o : Operation) → operation_for k ≡ Some o → is_block o ≡ true
on_blocks k o h = grind (arith, nat_tests)

finish_enters : (b : ℕ) (r : Request) (w : Words) (c : Clock ℕ) (e : Entry) → entry_for b r w c ≡ Some e → (e.stamp ≡ stamped c (home_node b)) × BlockOperation b e
finish_enters b r w c e h = go (operation_for r.kind) refl h
  where
    go : (o : Option Operation) → operation_for r.kind ≡ o
        → ◌≡◌ {A = Option Entry} (elim o [
          | None ↦ None
          | Some x ↦ Some (record { party = r.requester; sequence = r.sequence; operation = x; space = 0; place = b; values = w; stamp = stamped c (home_node b) })
        ]) (Some e) → (e.stamp ≡ stamped c (home_node b)) × BlockOperation b e
    go None is h = never cc
    go (Some x) is h =
        let same : e.operation ≡ x = cc in
        (cc, record { block = ap is_block same ∙ on_blocks r.kind x is; space = cc; place = cc })

pub finishes : (h : Home ℕ) (b : ℕ) → HomeTimely h.clock b (finished h b)
finishes h b =
    let g = round_of h.directory in
    let c = clock_after h.clock g in
    let w = words_after h.words g.request in
    record {
      onward = inr (above h.clock g);
      stamps = λ e is. (finish_enters b g.request w c e is).0;
      rises = λ _. above h.clock g;
      enters = λ e is. (finish_enters b g.request w c e is).1;
    }

-- nothing is done, and the clock stays or passes
rests : (c : Clock ℕ) (b : ℕ) (x : Reaction (Home ℕ)) → x.entry ≡ None → (x.next.clock ≡ c) ⊎ (c.global < x.next.clock.global) → HomeTimely c b x
rests c b x is moved = record { onward = moved; stamps = λ e h. never cc; rises = λ h. never (let same : is_some x.entry ≡ false = ap is_some is in cc); enters = λ e h. never cc }

freed : (c : Clock ℕ) (n : ℕ) → (clock_freed c n ≡ c) ⊎ (c.global < (clock_freed c n).global)
freed c n =
    cond_both (is_device n) (passed c c.global) c (λ (k : Clock ℕ). (k ≡ c) ⊎ (c.global < k.global)) (λ _. inr (omega arith)) (λ _. inl refl)

pub home_timely : (h : Home ℕ) (b : ℕ) (m : Message ℕ) → IfSome (received h b m) (HomeTimely h.clock b)
home_timely h b m =
    by_rule (HomeTimely h.clock b) h b m
    (λ _. cond_both (awaits h.directory m.sender) (Some (after_hearing k b)) None Found
    (λ _. cond_both (is_empty (round_of k.directory).awaited) (finished k b) (quiet k) (HomeTimely h.clock b) (λ _. finishes k b) (λ _. rests h.clock b (quiet k) refl (inl refl)))
    (λ _. tt))
    (cond_both (awaits_taken h.directory m.sender) _ None Found (λ _. rests h.clock b _ refl (freed h.clock m.sender)) (λ _. tt))
    (rests h.clock b (refused h b (request_of m)) refl (inl refl))
    (λ _ s. cond_both (is_empty s) (finished (began h (request_of m)) b) _ (HomeTimely h.clock b) (λ _. finishes (began h (request_of m)) b) (λ _. rests h.clock b _ refl (inl refl)))
  where
    k : Home ℕ
    k = heard_home h m

    Found : Option (Reaction (Home ℕ)) → Type 0
    Found o = IfSome o (HomeTimely h.clock b)
