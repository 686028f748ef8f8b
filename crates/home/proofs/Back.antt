-- A NACK is the request given back: nothing else that a home sends is one.
use Rattle.std.proofs.Common.{◌≡◌, ℕ, Bool, true, false, List, ◌∷◌, IfSome, Some, None, Option, refl, arith}
use Rattle.std.proofs.lemmas.Bool.{cond_both, both_ways}
use Rattle.std.proofs.lemmas.Bool.Decides.{nat_tests}
use Rattle.std.specs.List.{AllByRecursion as All}
use Rattle.message.specs.Kinds.{same_kind}
use Rattle.message.specs.Messages.{plain}
use Rattle.message.specs.Nodes.{home_node}
use Rattle.message.specs.Reactions.{gathered, sent, quiet}
use Rattle.message.specs.declared.kind.Kind.{Kind}
use Rattle.message.specs.declared.kind.Kind.TheVariants.{Nack}
use Rattle.message.specs.declared.message.Message.{Message}
use Rattle.message.specs.declared.reaction.Reaction.{Reaction}
use Rattle.home.specs.Directories.{round_of, awaits}
use Rattle.home.specs.Laws.{GivenBack, NacksGiveBack}
use Rattle.home.specs.Reactions.{began, finished, asked, ask_one, asks, heard_home, after_hearing, acknowledged}
use Rattle.home.specs.Requests.{request_of, asks_by, reply_kind}
use Rattle.home.specs.Sets.{has, is_empty}
use Rattle.home.specs.declared.machine.Home.{Home}
use Rattle.home.specs.Sets.{Processors}
use Rattle.home.proofs.Keeps.{by_rule}

never : (P : Type 0) (t : Bool) → t ≡ false → t ≡ true → P
never P t n y = absurd (both_ways t n y)

no_reply : (k : Kind) → same_kind (reply_kind k) Nack ≡ false
no_reply k = grind (arith, nat_tests)

no_question : (k : Kind) → same_kind (asks_by k) Nack ≡ false
no_question k = grind (arith, nat_tests)

-- each message of an outbox
pub one_more : (Q : Message ℕ → Type 0) (o : Option (Message ℕ)) (os : List (Option (Message ℕ))) → IfSome o Q → All Q (gathered os) → All Q (gathered (o ∷ os))
one_more Q None os f a = a
one_more Q (Some m) os f a = (f, a)

all_asked : (Q : Message ℕ → Type 0) (k : Kind) (b : ℕ) (s : Processors) → ((p : ℕ) → Q (plain k (home_node b) p b)) → All Q (sent (asks k b s))
all_asked Q k b s q =
    let one : (p : ℕ) → IfSome (ask_one k b s p) Q =
    λ p. cond_both (has s p) (Some (plain k (home_node b) p b)) None (λ (o : Option (Message ℕ)). IfSome o Q) (λ _. q p) (λ _. tt) in
    one_more Q _ _ (one 0) (one_more Q _ _ (one 1) (one_more Q _ _ (one 2) (one_more Q _ _ (one 3) tt)))

abbrev Back : Home ℕ → ℕ → Message ℕ → Reaction (Home ℕ) → Type 0
Back h b m x = All (λ n. same_kind n.kind Nack ≡ true → GivenBack h b m x n) (sent x.sent)

at_finish : (h k : Home ℕ) (b : ℕ) (m : Message ℕ) → Back h b m (finished k b)
at_finish h k b m = (never _ _ (no_reply (round_of k.directory).request.kind), tt)

at_ack : (h : Home ℕ) (b : ℕ) (m : Message ℕ) → IfSome (acknowledged h b m) (Back h b m)
at_ack h b m =
    let Q : Option (Reaction (Home ℕ)) → Type 0 = λ o. IfSome o (Back h b m) in
    let k = heard_home h m in
    cond_both (awaits h.directory m.sender) (Some (after_hearing k b)) None Q
    (λ _. cond_both (is_empty (round_of k.directory).awaited) (finished k b) (quiet k) (Back h b m) (λ _. at_finish h k b m) (λ _. tt))
    (λ _. tt)

at_asked : (h : Home ℕ) (b : ℕ) (m : Message ℕ) (s : Processors) → Back h b m (asked h b (request_of m) s)
at_asked h b m s =
    cond_both (is_empty s) (finished (began h (request_of m)) b) _ (Back h b m)
    (λ _. at_finish h (began h (request_of m)) b m)
    (λ _. all_asked _ (asks_by m.kind) b s (λ p. never _ _ (no_question m.kind)))

pub nacks_give_back : NacksGiveBack
nacks_give_back h b m =
    by_rule (Back h b m) h b m
    (λ _. at_ack h b m)
    (grind (arith, nat_tests))
    (λ _. record { nack = refl; same = refl }, tt)
    (λ _ s. at_asked h b m s)
