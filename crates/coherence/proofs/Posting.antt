-- What a reaction posts: a processor and a bridge at most one message; and how a test counts what is posted and entered.
use Rattle.std.proofs.Common.{◌≡◌, ℕ, ◌+◌, Bool, false, List, [], ◌∷◌, ◌++◌, get_or, IfSome, Some, None, Option, ap, ◌∙◌, arith}
use Rattle.bridge.specs.Inputs as bridge
use Rattle.device.specs.Meaning.{Meaning}
use Rattle.home.proofs.Back.{one_more}
use Rattle.home.proofs.Keeps.{by_rule}
use Rattle.home.specs.Directories.{round_of, awaits}
use Rattle.home.specs.Reactions.{ask_one, asks, awaits_taken, began, finished, heard_home, nack, received, reply}
use Rattle.home.specs.Requests.{asks_by, request_of}
use Rattle.home.specs.Sets.{has, is_empty}
use Rattle.home.specs.declared.machine.Home.{Home}
use Rattle.home.specs.Sets.{Processors}
use Rattle.home.specs.declared.request.Request.{Request}
use Rattle.message.specs.Messages.{plain}
use Rattle.message.specs.Nodes.{home_node}
use Rattle.message.specs.Reactions.{sent, quiet}
use Rattle.message.specs.declared.kind.Kind.{Kind}
use Rattle.message.specs.declared.message.Message.{Message}
use Rattle.message.specs.declared.reaction.Outbox.{Outbox}
use Rattle.message.specs.declared.reaction.Reaction.{Reaction}
use Rattle.ordering.specs.declared.operation.Words.{Words}
use Rattle.processor.specs.Laws.{EachReaction}
use Rattle.std.proofs.lemmas.Bool.{cond_both}
use Rattle.std.proofs.lemmas.Bool.Decides.{nat_tests}
use Rattle.std.specs.Option.{option_to_list}
use Rattle.coherence.proofs.Counting.{indicator, count, count_none, count_cons, count_push, count_append, none_counted}

-- The first message of an outbox.
abbrev pub posted : Outbox → Option (Message ℕ)
posted o = get_or o.at 0 None

-- A processor and a bridge send no second one.
pub processor_posts : EachReaction (λ s n i r. sent r.sent ≡ option_to_list (posted r.sent))
processor_posts s n i r h = grind (arith, nat_tests)

pub bridge_posts : {S : Type 0} (m : Meaning S) → bridge.EachReaction m (λ b d i r. sent r.sent ≡ option_to_list (posted r.sent))
bridge_posts m b d i r h = grind (arith, nat_tests)

module _ {X : Type 0} (p : X → Bool) where
  -- whether there is something that passes the test, as a number
  abbrev pub hit : Option X → ℕ
  hit o = elim o [ None ↦ 0 | Some x ↦ indicator (p x) ]

  pub count_listed : (xs : List X) (o : Option X) → count p (xs ++ option_to_list o) ≡ count p xs + hit o
  count_listed xs None = let none = count_none p in omega (arith, count_append p xs [])
  count_listed xs (Some x) = count_push p xs x

-- what waits once one message more is posted
pub count_posted : (p : Message ℕ → Bool) (ms : List (Message ℕ)) (o : Outbox) → sent o ≡ option_to_list (posted o) → count p (ms ++ sent o) ≡ count p ms + hit p (posted o)
count_posted p ms o one = ap (λ (ns : List (Message ℕ)). count p (ms ++ ns)) one ∙ count_listed p ms (posted o)

-- A home's questions and replies, where a test takes none of them.
module _ (p : Message ℕ → Bool) (b : ℕ) where
  abbrev pub NoQuestion : Type 0
  NoQuestion = (k : Kind) (q : ℕ) → p (plain (asks_by k) (home_node b) q b) ≡ false

  abbrev pub NoReply : Type 0
  NoReply = (r : Request) (w : Words) (c : ℕ) → p (reply b r w c) ≡ false

  pub count_one : (m : Message ℕ) → count p (m ∷ []) ≡ indicator (p m)
  count_one m = let none = count_none p in omega (arith, count_cons p m [])

  pub questions_uncounted : NoQuestion → (k : Kind) (s : Processors) → count p (sent (asks (asks_by k) b s)) ≡ 0
  questions_uncounted unasked k s = none_counted p _ (one_more Q _ _ (one 0) (one_more Q _ _ (one 1) (one_more Q _ _ (one 2) (one_more Q _ _ (one 3) tt))))
    where
      Q : Message ℕ → Type 0
      Q m = p m ≡ false

      one : (q : ℕ) → IfSome (ask_one (asks_by k) b s q) Q
      one q = cond_both (has s q) (Some (plain (asks_by k) (home_node b) q b)) None (λ (o : Option (Message ℕ)). IfSome o Q) (λ _. unasked k q) (λ _. tt)

  reply_uncounted : NoReply → (k : Home ℕ) → count p (sent (finished k b).sent) ≡ 0
  reply_uncounted unasked k = none_counted p (sent (finished k b).sent) (unasked (round_of k.directory).request _ _, tt)

  -- then none of what it sends passes
  pub home_uncounted : NoQuestion → NoReply → (h : Home ℕ) (m : Message ℕ) → p (nack b (request_of m)) ≡ false
      → IfSome (received h b m) (λ r. count p (sent r.sent) ≡ 0)
  home_uncounted unasked none h m back =
      let P : Reaction (Home ℕ) → Type 0 = λ r. count p (sent r.sent) ≡ 0 in
      let k = heard_home h m in
      by_rule P h b m
      (λ _. cond_both (awaits h.directory m.sender) _ None (λ (o : Option (Reaction (Home ℕ))). IfSome o P)
      (λ _. cond_both (is_empty (round_of k.directory).awaited) (finished k b) (quiet k) P (λ _. reply_uncounted none k) (λ _. count_none p))
      (λ _. tt))
      (cond_both (awaits_taken h.directory m.sender) _ None (λ (o : Option (Reaction (Home ℕ))). IfSome o P) (λ _. count_none p) (λ _. tt))
      (none_counted p (nack b (request_of m) ∷ []) (back, tt))
      (λ _ s. cond_both (is_empty s) (finished (began h (request_of m)) b) _ P (λ _. reply_uncounted none (began h (request_of m))) (λ _. questions_uncounted unasked m.kind s))
