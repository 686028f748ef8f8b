-- What each reaction of a home does to the operations under way: it gives a request back, gathers for it, or does it.
use Rattle.std.proofs.Common.{◌≡◌, ℕ, ◌<◌, true, false, eqb, ◌⊎◌, IfSome, Some, None, Option, sym, refl, ◌∙◌, inl, inr, arith}
use Rattle.home.proofs.Back.{one_more}
use Rattle.home.proofs.Keeps.{by_rule}
use Rattle.home.specs.Directories.{round_of, awaits}
use Rattle.home.specs.Reactions.{clock_after, words_after, finished, reply, nack, asks, ask_one, asked, began, heard_home, after_hearing, awaits_taken, received}
use Rattle.home.specs.Requests.{request_of, asks_by}
use Rattle.home.specs.Sets.{has, is_empty}
use Rattle.home.specs.declared.machine.Home.{Home}
use Rattle.home.specs.Sets.{Processors}
use Rattle.home.specs.declared.request.Request.{Request}
use Rattle.message.specs.Messages.{plain}
use Rattle.message.specs.Nodes.{home_node}
use Rattle.message.specs.Reactions.{sent, quiet}
use Rattle.message.specs.declared.kind.Kind.{Kind}
use Rattle.message.specs.declared.message.Message.{Message}
use Rattle.message.specs.declared.reaction.Reaction.{Reaction}
use Rattle.ordering.specs.Operations.{is_block}
use Rattle.ordering.specs.declared.operation.Words.{Words}
use Rattle.std.proofs.lemmas.Bool.{cond_both, and_parts, and_from, both_ways, eqb-true}
use Rattle.std.proofs.lemmas.Bool.Decides.{nat_tests}
use Rattle.std.specs.List.{AllByRecursion as All}
use Rattle.trail.specs.declared.entry.Entry.{Entry}
use Rattle.coherence.proofs.Arising.{never}
use Rattle.coherence.proofs.Carrying.{carries, gathers, serves, is_block_request, block_access, carried_access, served_access, entry_access}
use Rattle.coherence.proofs.Orderly.{is_channel}
use Rattle.coherence.proofs.Phases.{gathers_so}
use Rattle.coherence.proofs.Tally.{crosses}

-- A message of a home: no channel keeps it, it brings no word, and what it carries is what came.
pub record GivenBack (m y : Message ℕ) : Type 0 where
  pub channel : is_channel y.kind ≡ false
  pub value : (p q : ℕ) → crosses 18 p q y ≡ false
  pub back : (n s : ℕ) → carries n s y ≡ true → (carries n s m ≡ true) × (carried_access m ≡ carried_access y) × (y.clock ≡ m.clock) × (is_block (carried_access y).operation ≡ true)

pub record HomeErrands (b : ℕ) (h : Home ℕ) (m : Message ℕ) (x : Reaction (Home ℕ)) : Type 0 where
  pub sends : All (GivenBack m) (sent x.sent)
  pub gathers : (n s : ℕ) → serves n s x.next ≡ true
      → ((serves n s h ≡ true) × ((round_of x.next.directory).request ≡ (round_of h.directory).request))
      ⊎ ((carries n s m ≡ true) × (carried_access m ≡ served_access b x.next) × ((round_of x.next.directory).request.clock ≡ m.clock))
  pub does : (e : Entry) → x.entry ≡ Some e
      → ((serves e.party e.sequence h ≡ true) × (served_access b h ≡ entry_access e) × ((round_of h.directory).request.clock < e.stamp.global))
      ⊎ ((carries e.party e.sequence m ≡ true) × (carried_access m ≡ entry_access e) × (m.clock < e.stamp.global))

-- the replies, and INV and DOWN
silent_kind : (m y : Message ℕ) → is_channel y.kind ≡ false → ((p q : ℕ) → crosses 18 p q y ≡ false) → ((n s : ℕ) → carries n s y ≡ false) → GivenBack m y
silent_kind m y channel value carried = record { channel = channel; value = value; back = λ n s c. absurd (let no_way : ⊥ = both_ways (carries n s y) (carried n s) c in no_way) }

module _ (m : Message ℕ) (b : ℕ) where
  question : (k : Kind) (p : ℕ) → GivenBack m (plain (asks_by k) (home_node b) p b)
  question k p = silent_kind m (plain (asks_by k) (home_node b) p b) (grind (arith, nat_tests)) (λ p q. grind (arith, nat_tests)) (λ n s. grind (arith, nat_tests))

  questions : (k : Kind) (s : Processors) → All (GivenBack m) (sent (asks (asks_by k) b s))
  questions k s =
      one_more (GivenBack m) _ _ (one 0) (one_more (GivenBack m) _ _ (one 1) (one_more (GivenBack m) _ _ (one 2) (one_more (GivenBack m) _ _ (one 3) tt)))
    where
      one : (p : ℕ) → IfSome (ask_one (asks_by k) b s p) (GivenBack m)
      one p = cond_both (has s p) (Some (plain (asks_by k) (home_node b) p b)) None (λ (o : Option (Message ℕ)). IfSome o (GivenBack m)) (λ h. question k p) (λ _. tt)

  reply_silent : (r : Request) (w : Words) (c : ℕ) → GivenBack m (reply b r w c)
  reply_silent r w c = silent_kind m (reply b r w c) (grind (arith, nat_tests)) (λ p q. grind (arith, nat_tests)) (λ n s. grind (arith, nat_tests))

  nack_back : m.place ≡ b → GivenBack m (nack b (request_of m))
  nack_back at = record {
    channel = refl;
    value = λ p q. grind (arith, nat_tests);
    back = λ n s c. (grind (arith, nat_tests), grind (arith, nat_tests), refl, grind (arith, nat_tests));
  }

-- to finish is to do the request's operation
finish_sends : (g : Home ℕ) (b : ℕ) (m : Message ℕ) → All (GivenBack m) (sent (finished g b).sent)
finish_sends g b m =
    (reply_silent m b (round_of g.directory).request (words_after g.words (round_of g.directory).request) (clock_after g.clock (round_of g.directory)).global, tt)

module _ (g : Home ℕ) (b : ℕ) (e : Entry) (does : (finished g b).entry ≡ Some e) where
  finish_kind : is_block_request (round_of g.directory).request.kind ≡ true
  finish_kind = grind (arith, nat_tests)

  finish_party : (e.party ≡ (round_of g.directory).request.requester) × (e.sequence ≡ (round_of g.directory).request.sequence)
  finish_party = (grind (arith, nat_tests), grind (arith, nat_tests))

  finish_access : entry_access e ≡ block_access (round_of g.directory).request.kind b
  finish_access = grind (arith, nat_tests)

  finish_past : (round_of g.directory).request.clock < e.stamp.global
  finish_past = grind (arith, nat_tests)

module _ (b : ℕ) (h : Home ℕ) (m : Message ℕ) (at : m.place ≡ b) where
  -- a request is taken
  asked_carried : (n s : ℕ) → is_block_request m.kind ≡ true → m.sender ≡ n → m.sequence ≡ s → (carries n s m ≡ true) × (carried_access m ≡ block_access m.kind b)
  asked_carried n s block from number = (grind (arith, nat_tests), grind (arith, nat_tests))

  takes : (s : Processors) → HomeErrands b h m (asked h b (request_of m) s)
  takes s =
      cond_both (is_empty s) (finished (began h (request_of m)) b) _ (HomeErrands b h m)
      (λ _. record {
        sends = finish_sends (began h (request_of m)) b m;
        gathers = λ n q c. absurd (both_ways false refl c);
        does = λ e does.
            let g = began h (request_of m) in
            let p = finish_party g b e does in
            let c = asked_carried e.party e.sequence (finish_kind g b e does) (sym p.0) (sym p.1) in
            inr (c.0, c.1 ∙ sym (finish_access g b e does), finish_past g b e does);
      })
      (λ _. record {
        sends = questions m b m.kind s;
        gathers = λ n q c.
            let k = and_parts (is_block_request m.kind) _ c in
            let l = and_parts (eqb m.sender n) (eqb m.sequence q) k.1 in
            let r = asked_carried n q k.0 (eqb-true m.sender n l.0) (eqb-true m.sequence q l.1) in
            inr (r.0, r.1, refl);
        does = λ e does. never cc;
      })

  -- ACK lets the home go on, or finish
  abbrev heard : Home ℕ
  heard = heard_home h m

  served : (e : Entry) → gathers h ≡ true → is_block_request (round_of h.directory).request.kind ≡ true → e.party ≡ (round_of h.directory).request.requester → e.sequence ≡ (round_of h.directory).request.sequence
      → serves e.party e.sequence h ≡ true
  served e busy block party number = grind (arith, nat_tests)

  hears : awaits h.directory m.sender ≡ true → HomeErrands b h m (after_hearing heard b)
  hears awaited =
      cond_both (is_empty (round_of heard.directory).awaited) (finished heard b) (quiet heard) (HomeErrands b h m)
      (λ _. record {
        sends = finish_sends heard b m;
        gathers = λ n q c. absurd (both_ways false refl c);
        does = λ e does.
            let p = finish_party heard b e does in
            inl (served e (gathers_so h m.sender awaited) (finish_kind heard b e does) p.0 p.1, sym (finish_access heard b e does), finish_past heard b e does);
      })
      (λ _. record { sends = tt; gathers = λ n q c. inl (and_from (gathers h) _ (gathers_so h m.sender awaited) c, refl); does = λ e does. never cc })

  pub home_errands : IfSome (received h b m) (HomeErrands b h m)
  home_errands =
      by_rule (HomeErrands b h m) h b m
      (λ _. cond_both (awaits h.directory m.sender) (Some (after_hearing heard b)) None Found hears (λ _. tt))
      (cond_both (awaits_taken h.directory m.sender) _ None Found
      (λ _. record { sends = tt; gathers = λ n q c. absurd (both_ways false refl c); does = λ e does. never cc })
      (λ _. tt))
      (record { sends = (nack_back m b at, tt); gathers = λ n q c. inl (c, refl); does = λ e does. never cc })
      (λ _ s. takes s)
    where
      Found : Option (Reaction (Home ℕ)) → Type 0
      Found o = IfSome o (HomeErrands b h m)
