-- What a home sends is well formed, and what it keeps stays so.
use Rattle.std.proofs.Common.{◌≡◌, ℕ, ◌<◌, true, false, ltb, leb, IfSome, Some, None, Option, refl, arith}
use Rattle.home.proofs.Back.{one_more}
use Rattle.home.specs.Directories.{round_of, view, awaits}
use Rattle.home.specs.Laws.{is_free}
use Rattle.home.specs.Plans.{plan}
use Rattle.home.specs.Reactions.{clock_after, words_after, reply, finished, nack, ask_one, asks, began, asked, planned, heard_home, after_hearing, acknowledged, taken, received}
use Rattle.home.specs.Requests.{request_of, asks_down, asks_by, gives_copy}
use Rattle.home.specs.Sets.{has, with_member, is_empty}
use Rattle.home.specs.declared.machine.Home.{Home}
use Rattle.home.specs.declared.plan.Plan.{Plan}
use Rattle.home.specs.declared.plan.Plan.TheVariants.{Refuse, Ask}
use Rattle.home.specs.Sets.{Processors}
use Rattle.home.specs.declared.request.Request.{Request}
use Rattle.message.specs.Checks.{has_processor}
use Rattle.message.specs.Kinds.{same_kind}
use Rattle.message.specs.Messages.{plain}
use Rattle.message.specs.Nodes.{home_node}
use Rattle.message.specs.Reactions.{sent, quiet}
use Rattle.message.specs.declared.figures.Figures.{Figures}
use Rattle.message.specs.declared.kind.Kind.{Kind}
use Rattle.message.specs.declared.kind.Kind.TheVariants as kind
use Rattle.message.specs.declared.message.Message.{Message}
use Rattle.message.specs.declared.reaction.Reaction.{Reaction}
use Rattle.ordering.specs.Clocks.{number_end, is_within}
use Rattle.ordering.specs.declared.operation.Words.{Words}
use Rattle.std.proofs.lemmas.Bool.{cond_both}
use Rattle.std.proofs.lemmas.Bool.Decides.{nat_tests}
use Rattle.std.specs.List.{AllByRecursion as All}
use Rattle.coherence.proofs.FormsBuilt.{Well, global_within}
use Rattle.coherence.proofs.FormsKept.{RequestWell, OnBoard, HomeWell, request_kept, nobody_on_board, fewer, one_more_on_board, copy_goes_to_processor, PlanGood, plan_good}

pub record HomeGood (f : Figures) (b : ℕ) (x : Reaction (Home ℕ)) : Type 0 where
  pub next : HomeWell f b x.next
  pub sends : is_within x.next.clock ≡ true → All (Well f) (sent x.sent)

module _ (f : Figures) (b : ℕ) (small : b < 16) where
  question_well : (k : Kind) (p : ℕ) → has_processor f p ≡ true → Well f (plain (asks_by k) (home_node b) p b)
  question_well k p own = grind (arith, nat_tests)

  questions_well : (k : Kind) (s : Processors) → OnBoard f s → All (Well f) (sent (asks (asks_by k) b s))
  questions_well k s on =
      one_more (Well f) _ _ (one 0) (one_more (Well f) _ _ (one 1) (one_more (Well f) _ _ (one 2) (one_more (Well f) _ _ (one 3) tt)))
    where
      one : (p : ℕ) → IfSome (ask_one (asks_by k) b s p) (Well f)
      one p = cond_both (has s p) (Some (plain (asks_by k) (home_node b) p b)) None (λ (o : Option (Message ℕ)). IfSome o (Well f)) (λ h. question_well k p (on p h)) (λ _. tt)

  reply_well : (r : Request) (w : Words) (c : ℕ) → RequestWell f b r → leb c number_end ≡ true → Well f (reply b r w c)
  reply_well r w c well le = grind (arith, nat_tests)

  nack_well : (r : Request) → RequestWell f b r → Well f (nack b r)
  nack_well r well = grind (arith, nat_tests)

  finish_good : (k : Home ℕ) → HomeWell f b k → is_free k ≡ false → HomeGood f b (finished k b)
  finish_good k well busy = record {
    next = record {
      holders =
          cond_both (gives_copy (round_of k.directory).request.kind) (with_member k.directory.holders (round_of k.directory).request.requester true) k.directory.holders (OnBoard f)
          (λ gives. one_more_on_board f k.directory.holders (round_of k.directory).request.requester (copy_goes_to_processor f b (round_of k.directory).request (well.request busy) gives) well.holders)
          (λ _. well.holders);
      awaited = nobody_on_board f;
      request = λ _. well.request busy;
    };
    sends = λ within. (
      reply_well (round_of k.directory).request (words_after k.words (round_of k.directory).request) (clock_after k.clock (round_of k.directory)).global (well.request busy)
          (global_within (clock_after k.clock (round_of k.directory)) within),
      tt,
    );
  }

  asked_good : (h : Home ℕ) (r : Request) (s : Processors) → HomeWell f b h → RequestWell f b r → OnBoard f s → HomeGood f b (asked h b r s)
  asked_good h r s well req on =
      cond_both (is_empty s) (finished (began h r) b) _ (HomeGood f b)
      (λ _. finish_good (began h r) (record { holders = well.holders; awaited = nobody_on_board f; request = λ _. req }) refl)
      (λ _. record {
        next = record { holders = well.holders; awaited = on; request = λ _. req };
        sends = λ _. questions_well r.kind s on;
      })

  busy_if_awaiting : (h : Home ℕ) (p : ℕ) → awaits h.directory p ≡ true → is_free h ≡ false
  busy_if_awaiting h p e = grind (arith, nat_tests)

  heard_good : (h : Home ℕ) (m : Message ℕ) → HomeWell f b h → is_free h ≡ false → HomeWell f b (heard_home h m)
  heard_good h m well busy = record {
    holders =
        cond_both (asks_down (round_of h.directory).request.kind) h.directory.holders (with_member h.directory.holders m.sender false) (OnBoard f)
        (λ _. well.holders)
        (λ _ q e. well.holders q (fewer h.directory.holders m.sender q e));
    awaited = λ q e. well.awaited q (fewer (round_of h.directory).awaited m.sender q e);
    request = λ _. well.request busy;
  }

  ack_good : (h : Home ℕ) (m : Message ℕ) → HomeWell f b h → IfSome (acknowledged h b m) (HomeGood f b)
  ack_good h m well =
      cond_both (awaits h.directory m.sender) (Some (after_hearing k b)) None (λ (o : Option (Reaction (Home ℕ))). IfSome o (HomeGood f b))
      (λ waits.
      let busy = busy_if_awaiting h m.sender waits in
      let heard = heard_good h m well busy in
      cond_both (is_empty (round_of k.directory).awaited) (finished k b) (quiet k) (HomeGood f b) (λ _. finish_good k heard refl) (λ _. record { next = heard; sends = λ _. tt }))
      (λ _. tt)
    where
      k : Home ℕ
      k = heard_home h m

  taken_good : (h : Home ℕ) (n : ℕ) → HomeWell f b h → IfSome (taken h n) (HomeGood f b)
  taken_good h n well = grind (arith, nat_tests)

  planned_good : (h : Home ℕ) (m : Message ℕ) (x : Option Plan) → HomeWell f b h → Well f m → m.receiver ≡ home_node b → PlanGood m.kind h.directory.holders x
      → IfSome (planned h b (request_of m) x) (HomeGood f b)
  planned_good h m None well form to good = tt
  planned_good h m (Some Refuse) well form to good = record { next = well; sends = λ _. (nack_well (request_of m) (request_kept f b m form to good), tt) }
  planned_good h m (Some (Ask s)) well form to good = asked_good h (request_of m) s well (request_kept f b m form to good.0) (λ q e. well.holders q (good.1 q e))

  pub home_good : (h : Home ℕ) (m : Message ℕ) → HomeWell f b h → Well f m → m.receiver ≡ home_node b → IfSome (received h b m) (HomeGood f b)
  home_good h m well form to =
      let Q : Option (Reaction (Home ℕ)) → Type 0 = λ o. IfSome o (HomeGood f b) in
      cond_both (ltb b 16) _ None Q
      (λ _. cond_both (same_kind m.kind kind.Ack) _ _ Q
      (λ _. ack_good h m well)
      (λ _. cond_both (same_kind m.kind kind.Taken) _ _ Q
      (λ _. taken_good h m.sender well)
      (λ _. planned_good h m (plan m.kind (view h.directory) h.directory.holders m.sender) well form to (plan_good m.kind (view h.directory) h.directory.holders m.sender))))
      (λ _. tt)
