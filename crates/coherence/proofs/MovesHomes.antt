-- What a home does is, for its block, one move or two, and nothing for any other.
use Rattle.std.proofs.Common.{◌≡◌, ℕ, true, false, ◌||◌, eqb, [], IfSome, Some, None, filter, Option, sym, refl, ◌∙◌, arith}
use Rattle.home.proofs.Keeps.{by_rule}
use Rattle.home.specs.Directories.{round_of, view, awaits}
use Rattle.home.specs.Plans.{plan}
use Rattle.home.specs.Reactions.{finished, asks, began, heard_home, after_hearing, awaits_taken, received}
use Rattle.home.specs.Requests.{request_of, asks_by, reply_kind}
use Rattle.home.specs.Sets.{is_empty}
use Rattle.home.specs.declared.directory.Directory.{Directory}
use Rattle.home.specs.declared.directory.Phase.TheVariants.{Free}
use Rattle.home.specs.declared.machine.Home.{Home}
use Rattle.home.specs.declared.plan.Plan.TheVariants.{Ask}
use Rattle.home.specs.Sets.{Processors}
use Rattle.message.specs.Kinds.{kind_number, is_request}
use Rattle.message.specs.Laws.{goes_home, comes_from_home}
use Rattle.message.specs.Messages.{plain}
use Rattle.message.specs.Nodes.{home_node}
use Rattle.message.specs.Reactions.{sent, quiet}
use Rattle.message.specs.declared.kind.Kind.{Kind}
use Rattle.message.specs.declared.message.Message.{Message}
use Rattle.message.specs.declared.reaction.Reaction.{Reaction}
use Rattle.std.proofs.ByRecursion.{All-weaker}
use Rattle.std.proofs.lemmas.Bool.{and_right, cond_both, ne_eqb}
use Rattle.std.proofs.lemmas.Bool.Decides.{nat_tests}
use Rattle.std.specs.Option.{option_to_list}
use Rattle.std.specs.List.{AllByRecursion as All}
use Rattle.trail.specs.declared.entry.Entry.{Entry}
use Rattle.coherence.proofs.Blocks.{about, on, token, peer}
use Rattle.coherence.proofs.HomeClocks.{HomeTimely, home_timely}
use Rattle.coherence.proofs.Posts.{kept_none, kept_not}
use Rattle.coherence.proofs.Timing.{came_so}

-- what holds of each question holds of all of them
pub each_asked : (Q : Message ℕ → Type 0) (k : Kind) (b : ℕ) (s : Processors) → ((p : ℕ) → Q (plain k (home_node b) p b)) → All Q (sent (asks k b s))
each_asked Q k b s each = grind (arith, nat_tests)

-- Everything that the home of block a sends is about block a.
sends_own : (a : ℕ) (h : Home ℕ) (m : Message ℕ) → IfSome (received h a m) (λ x. All (λ n. n.place ≡ a) (sent x.sent))
sends_own a h m =
    by_rule Own h a m
    (λ _. cond_both (awaits h.directory m.sender) (Some (after_hearing k a)) None Found
    (λ _. cond_both (is_empty (round_of k.directory).awaited) (finished k a) (quiet k) Own (λ _. (refl, tt)) (λ _. tt))
    (λ _. tt))
    (cond_both (awaits_taken h.directory m.sender) _ None Found (λ _. tt) (λ _. tt))
    (refl, tt)
    (λ _ s. cond_both (is_empty s) (finished (began h (request_of m)) a) _ Own (λ _. (refl, tt)) (λ _. each_asked (λ n. n.place ≡ a) (asks_by m.kind) a s (λ p. refl)))
  where
    Own : Reaction (Home ℕ) → Type 0
    Own x = All (λ n. n.place ≡ a) (sent x.sent)

    Found : Option (Reaction (Home ℕ)) → Type 0
    Found o = IfSome o Own

    k : Home ℕ
    k = heard_home h m

-- So it is about no other block, and neither is what it does.
module _ (a b : ℕ) (apart : a ≡ b → ⊥) (h : Home ℕ) (m : Message ℕ) (r : Reaction (Home ℕ)) (is : received h a m ≡ Some r) where
  pub sends_elsewhere : filter (about b) (sent r.sent) ≡ []
  sends_elsewhere =
      kept_none (about b) (sent r.sent)
      (All-weaker (λ n. n.place ≡ a) (λ n. about b n ≡ false) (λ n own. and_right _ (eqb n.place b) (ne_eqb n.place b (λ e. apart (sym own ∙ e)))) (sent r.sent)
      (came_so (received h a m) (λ x. All (λ n. n.place ≡ a) (sent x.sent)) r is (sends_own a h m)))

  pub enters_elsewhere : filter (on b) (option_to_list r.entry) ≡ []
  enters_elsewhere = go r.entry refl
    where
      t : HomeTimely h.clock a r
      t = came_so (received h a m) (HomeTimely h.clock a) r is (home_timely h a m)

      go : (o : Option Entry) → r.entry ≡ o → filter (on b) (option_to_list o) ≡ []
      go None at = refl
      go (Some e) at =
          let own = t.enters e at in
          kept_not (on b) e (and_right (eqb e.space 0) _ (rw own.block (ne_eqb e.place b (λ same. apart (sym own.place ∙ same)))))

-- what is asked by a request, by its class and its reply
pub request_class : (m : Message ℕ) → is_request m.kind ≡ true → (token m ≡ kind_number m.kind) × (peer m ≡ m.sender) × (goes_home m.kind ≡ true)
request_class m is = (grind (arith, nat_tests), grind (arith, nat_tests), grind (arith, nat_tests))

pub replies_come : (k : Kind) → (goes_home (reply_kind k) || comes_from_home (reply_kind k)) ≡ true
replies_come k = grind (arith, nat_tests)

pub questions_come : (k : Kind) → (goes_home (asks_by k) || comes_from_home (asks_by k)) ≡ true
questions_come k = grind (arith, nat_tests)

-- a home that asks is free
pub asks_if_free : (d : Directory) (k : Kind) (s : Processors) (p : ℕ) → plan k (view d) d.holders p ≡ Some (Ask s) → d.phase ≡ Free
asks_if_free d k s p is = grind (arith, nat_tests)
