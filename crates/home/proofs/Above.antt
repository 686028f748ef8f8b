-- A reply stands above all that its home was told.
use Rattle.std.proofs.Common.{◌≡◌, ℕ, Bool, true, false, ◌||◌, is_some, IfSome, Some, None, Option, refl, arith, rules}
use Rattle.std.proofs.lemmas.Bool.{cond_both, both_ways}
use Rattle.std.proofs.lemmas.Bool.Decides.{nat_tests}
use Rattle.message.specs.Kinds.{same_kind}
use Rattle.message.specs.declared.kind.Kind.TheVariants.{Ack}
use Rattle.message.specs.declared.message.Message.{Message}
use Rattle.message.specs.declared.reaction.Reaction.{Reaction}
use Rattle.home.specs.Directories.{round_of, awaits}
use Rattle.home.specs.Laws.{has_replied, FinishesAboveAll, HearsAll, RepliedAbove, RepliesAboveAll}
use Rattle.home.specs.Reactions.{began, finished, asked, heard_home, after_hearing, acknowledged}
use Rattle.home.specs.Requests.{request_of, operation_for}
use Rattle.home.specs.Sets.{is_empty}
use Rattle.home.specs.declared.machine.Home.{Home}
use Rattle.home.specs.Sets.{Processors}
use Rattle.home.proofs.Keeps.{by_rule}
use Rattle.message.specs.Reactions.{quiet}

finishes : FinishesAboveAll
finishes h b = search rules

hears : HearsAll
hears h m = search rules

abbrev Above : Home ℕ → Message ℕ → Reaction (Home ℕ) → Type 0
Above h m x = has_replied h ≡ false → has_replied x.next ≡ true → RepliedAbove h m x

neither : (P : Type 0) (t : Bool) → t ≡ false → t ≡ true → P
neither P t n y = absurd (both_ways t n y)

for_device : (a o : Bool) → a ≡ false → (a || o) ≡ true → o ≡ true
for_device a o n h = grind (arith, nat_tests)

at_request : (h : Home ℕ) (b : ℕ) (m : Message ℕ) → same_kind m.kind Ack ≡ false → RepliedAbove h m (finished (began h (request_of m)) b)
at_request h b m n =
    let f = finishes (began h (request_of m)) b in
    record {
      own = f.own;
      this = λ d. f.asked (for_device (same_kind m.kind Ack) (is_some (operation_for m.kind)) n d);
      earlier = neither _ _ n;
      request = neither _ _ n;
      stamped = f.stamped;
      replied = f.replied;
    }

at_asked : (h : Home ℕ) (b : ℕ) (m : Message ℕ) (s : Processors) → same_kind m.kind Ack ≡ false → Above h m (asked h b (request_of m) s)
at_asked h b m s n =
    cond_both (is_empty s) (finished (began h (request_of m)) b) _ (Above h m)
    (λ _ _ _. at_request h b m n)
    (λ _ _ r. neither _ false refl r)

at_last : (h : Home ℕ) (b : ℕ) (m : Message ℕ) → Above h m (finished (heard_home h m) b)
at_last h b m _ _ =
    let k = hears h m in
    let f = finishes (heard_home h m) b in
    record {
      own = f.own;
      this = λ _. omega arith;
      earlier = λ _. omega arith;
      request = λ _. f.asked;
      stamped = f.stamped;
      replied = f.replied;
    }

at_ack : (h : Home ℕ) (b : ℕ) (m : Message ℕ) → IfSome (acknowledged h b m) (Above h m)
at_ack h b m =
    let Q : Option (Reaction (Home ℕ)) → Type 0 = λ o. IfSome o (Above h m) in
    let k = heard_home h m in
    cond_both (awaits h.directory m.sender) (Some (after_hearing k b)) None Q
    (λ _. cond_both (is_empty (round_of k.directory).awaited) (finished k b) (quiet k) (Above h m)
    (λ _. at_last h b m)
    (λ _ _ r. neither _ false refl r))
    (λ _. tt)

pub replies_above_all : RepliesAboveAll
replies_above_all h b m =
    by_rule (Above h m) h b m
    (λ _. at_ack h b m)
    (grind (arith, nat_tests))
    (neither _ (has_replied h))
    (λ n s. at_asked h b m s n)
