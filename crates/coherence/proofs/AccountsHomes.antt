-- What a home does, sends and serves has the access that was issued under its number: that of a request which came or of
-- the one that it served.
use Rattle.std.proofs.Common.{◌≡◌, ℕ, true, false, IfSome, Some, None, Option, sym, refl, ap, ◌∙◌, subst, arith}
use Rattle.home.proofs.Back.{one_more}
use Rattle.home.specs.Directories.{round_of, awaits}
use Rattle.home.specs.Reactions.{acknowledged, after_hearing, ask_one, asked, asks, awaits_taken, began, clock_after, entry_for, finished, heard_home, received, refused, reply, taken, words_after}
use Rattle.home.specs.Requests.{asks_by, request_of}
use Rattle.home.specs.Sets.{has, is_empty}
use Rattle.home.specs.declared.machine.Home.{Home}
use Rattle.home.specs.Sets.{Processors}
use Rattle.home.specs.declared.request.Request.{Request}
use Rattle.message.specs.Kinds.{is_request}
use Rattle.message.specs.Messages.{plain}
use Rattle.message.specs.Nodes.{home_node}
use Rattle.message.specs.Reactions.{sent, quiet}
use Rattle.message.specs.declared.kind.Kind.{Kind}
use Rattle.message.specs.declared.message.Message.{Message}
use Rattle.message.specs.declared.reaction.Reaction.{Reaction}
use Rattle.ordering.specs.declared.clock.Clock.{Clock}
use Rattle.ordering.specs.declared.operation.Words.{Words}
use Rattle.ordering.specs.declared.order.Access.{Access}
use Rattle.std.proofs.lemmas.Bool.{both_ways, cond_both}
use Rattle.std.proofs.lemmas.Bool.Decides.{nat_tests}
use Rattle.std.specs.List.{AllByRecursion as All}
use Rattle.trail.specs.declared.entry.Entry.{Entry}
use Rattle.coherence.proofs.AccountsProcessors.{entry_issue}
use Rattle.coherence.proofs.Arising.{never}
use Rattle.coherence.proofs.BalanceHomes.{asks_as, by_request, carried_as, carried_back, no_question, no_reply, serves_as}
use Rattle.coherence.proofs.Carrying.{block_access, carries, carried_access, entry_access, gathers, issued_as, served_access, serves}
use Rattle.coherence.proofs.Phases.{gathers_so}
use Rattle.coherence.specs.Histories.{Issued}

-- What is known of an operation in a message, at a home, and of a request.
module _ (K : Issued → Type 0) where
  abbrev pub MessageKnown : Message ℕ → Type 0
  MessageKnown m = (n q : ℕ) → carries n q m ≡ true → K (issued_as n q (carried_access m))

  abbrev pub HomeKnown : ℕ → Home ℕ → Type 0
  HomeKnown b h = (n q : ℕ) → serves n q h ≡ true → K (issued_as n q (served_access b h))

  abbrev RequestKnown : ℕ → Request → Type 0
  RequestKnown b r = (n q : ℕ) → asks_as n q b r ≡ true → K (issued_as n q (block_access r.kind b))

  pub record HomeAccounts (b : ℕ) (r : Reaction (Home ℕ)) : Type 0 where
    pub entry : (e : Entry) → r.entry ≡ Some e → K (entry_issue e)
    pub sends : All MessageKnown (sent r.sent)
    pub next : HomeKnown b r.next

  uncarried : (m : Message ℕ) → ((n q : ℕ) → carries n q m ≡ false) → MessageKnown m
  uncarried m none n q carried = absurd (both_ways (carries n q m) (none n q) carried)

  done_as_asked : (b : ℕ) (r : Request) (w : Words) (c : Clock ℕ) (e : Entry) → entry_for b r w c ≡ Some e
      → (asks_as e.party e.sequence b r ≡ true) × (block_access r.kind b ≡ entry_access e)
  done_as_asked b r w c e is = grind (arith, nat_tests)

  request_access : (m : Message ℕ) → is_request m.kind ≡ true → carried_access m ≡ block_access m.kind m.place
  request_access m is = grind (arith, nat_tests)

  module _ (b : ℕ) where
    abbrev answer : Home ℕ → Message ℕ
    answer k = reply b (round_of k.directory).request (words_after k.words (round_of k.directory).request) (clock_after k.clock (round_of k.directory)).global

    finished_known : (k : Home ℕ) → RequestKnown b (round_of k.directory).request → HomeAccounts b (finished k b)
    finished_known k known = record {
      entry = λ e is.
          let own = done_as_asked b (round_of k.directory).request _ _ e is in
          subst (λ (a : Access). K (issued_as e.party e.sequence a)) own.1 (known e.party e.sequence own.0);
      sends = (uncarried (answer k) (λ n q. no_reply n q b (round_of k.directory).request (words_after k.words (round_of k.directory).request) (clock_after k.clock (round_of k.directory)).global), tt);
      next = λ n q serving. absurd (both_ways false refl serving);
    }

    module _ (h : Home ℕ) (m : Message ℕ) (came : MessageKnown m) (held : HomeKnown b h) (place : is_request m.kind ≡ true → m.place ≡ b) where
      asked_known : is_request m.kind ≡ true → RequestKnown b (request_of m)
      asked_known is n q asking =
          let carried : carries n q m ≡ true = carried_as n q b m is ∙ asking in
          let same : carried_access m ≡ block_access m.kind b = request_access m is ∙ ap (block_access m.kind) (place is) in
          subst (λ (a : Access). K (issued_as n q a)) same (came n q carried)

      held_known : gathers h ≡ true → RequestKnown b (round_of h.directory).request
      held_known busy n q asking = held n q (serves_as n q b h busy ∙ asking)

      at_ack : IfSome (acknowledged h b m) (HomeAccounts b)
      at_ack =
          let k = heard_home h m in
          cond_both (awaits h.directory m.sender) (Some (after_hearing k b)) None (λ (o : Option (Reaction (Home ℕ))). IfSome o (HomeAccounts b))
          (λ waits.
          let known = held_known (gathers_so h m.sender waits) in
          cond_both (is_empty (round_of k.directory).awaited) (finished k b) (quiet k) (HomeAccounts b)
          (λ _. finished_known k known)
          (λ _. record { entry = λ e is. never cc; sends = tt; next = known }))
          (λ _. tt)

      at_taken : IfSome (taken h m.sender) (HomeAccounts b)
      at_taken =
          cond_both (awaits_taken h.directory m.sender) _ None (λ (o : Option (Reaction (Home ℕ))). IfSome o (HomeAccounts b))
          (λ _. record { entry = λ e is. never cc; sends = tt; next = λ n q serving. absurd (both_ways false refl serving) })
          (λ _. tt)

      at_refusal : is_request m.kind ≡ true → HomeAccounts b (refused h b (request_of m))
      at_refusal is = record {
        entry = λ e done. never cc;
        sends = (λ n q carried. asked_known is n q (sym (carried_back n q b (request_of m)) ∙ carried), tt);
        next = held;
      }

      questions_known : (k : Kind) (s : Processors) → All MessageKnown (sent (asks (asks_by k) b s))
      questions_known k s = one_more MessageKnown _ _ (one 0) (one_more MessageKnown _ _ (one 1) (one_more MessageKnown _ _ (one 2) (one_more MessageKnown _ _ (one 3) tt)))
        where
          one : (p : ℕ) → IfSome (ask_one (asks_by k) b s p) MessageKnown
          one p =
              cond_both (has s p) (Some (plain (asks_by k) (home_node b) p b)) None (λ (o : Option (Message ℕ)). IfSome o MessageKnown)
              (λ _. uncarried (plain (asks_by k) (home_node b) p b) (λ n q. no_question n q b k p)) (λ _. tt)

      at_request : is_request m.kind ≡ true → gathers h ≡ false → (s : Processors) → HomeAccounts b (asked h b (request_of m) s)
      at_request is idle s =
          cond_both (is_empty s) (finished (began h (request_of m)) b) _ (HomeAccounts b)
          (λ _. finished_known (began h (request_of m)) (asked_known is))
          (λ _. record { entry = λ e done. never cc; sends = questions_known m.kind s; next = asked_known is })

      pub home_accounts : IfSome (received h b m) (HomeAccounts b)
      home_accounts = by_request (HomeAccounts b) h b m (λ _. at_ack) (λ _. at_taken) at_refusal at_request
