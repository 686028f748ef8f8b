-- What holds of every rule holds of what a home receives; so its clock never goes back, and its words stay.
use Rattle.std.proofs.Common.{◌≡◌, ℕ, ◌≤◌, Bool, true, false, ◌&&◌, ltb, IfSome, Some, None, Option, refl, ◌∙◌, arith}
use Rattle.std.proofs.lemmas.Bool.{cond_both, cond-false}
use Rattle.std.proofs.lemmas.Bool.Decides.{nat_tests}
use Rattle.message.specs.Kinds.{same_kind}
use Rattle.message.specs.declared.kind.Kind.TheVariants.{Ack, Taken}
use Rattle.message.specs.declared.message.Message.{Message}
use Rattle.message.specs.declared.reaction.Reaction.{Reaction}
use Rattle.home.specs.Laws.{brings_words, does_write, ClockNeverGoesBack, WordsStay}
use Rattle.home.specs.Plans.{plan}
use Rattle.home.specs.Directories.{round_of, view, awaits}
use Rattle.home.specs.Reactions.{finished, refused, asked, planned, heard_home, after_hearing, acknowledged, taken, received}
use Rattle.home.specs.Requests.{request_of}
use Rattle.home.specs.Sets.{is_empty}
use Rattle.home.specs.declared.machine.Home.{Home}
use Rattle.home.specs.declared.plan.Plan.{Plan}
use Rattle.home.specs.declared.plan.Plan.TheVariants.{Refuse, Ask}
use Rattle.home.specs.Sets.{Processors}
use Rattle.home.specs.declared.request.Request.{Request}
use Rattle.message.specs.Reactions.{quiet}

by_plan : (P : Reaction (Home ℕ) → Type 0) (h : Home ℕ) (b : ℕ) (r : Request) (p : Option Plan)
    → P (refused h b r) → ((s : Processors) → P (asked h b r s)) → IfSome (planned h b r p) P
by_plan P h b r None u a = tt
by_plan P h b r (Some Refuse) u a = u
by_plan P h b r (Some (Ask s)) u a = a s

pub by_rule : (P : Reaction (Home ℕ) → Type 0) (h : Home ℕ) (b : ℕ) (m : Message ℕ)
    → (same_kind m.kind Ack ≡ true → IfSome (acknowledged h b m) P)
    → IfSome (taken h m.sender) P
    → P (refused h b (request_of m))
    → (same_kind m.kind Ack ≡ false → (s : Processors) → P (asked h b (request_of m) s))
    → IfSome (received h b m) P
by_rule P h b m k t u a =
    let r = request_of m in
    let Q : Option (Reaction (Home ℕ)) → Type 0 = λ o. IfSome o P in
    let p = plan r.kind (view h.directory) h.directory.holders r.requester in
    cond_both (ltb b 16) _ None Q
    (λ _. cond_both (same_kind m.kind Ack) _ _ Q k
    (λ n. cond_both (same_kind m.kind Taken) _ _ Q (λ _. t) (λ _. by_plan P h b r p u (a n))))
    (λ _. tt)

pub clock_never_goes_back : ClockNeverGoesBack
clock_never_goes_back h b m =
    by_rule (λ x. h.clock.global ≤ x.next.clock.global) h b m
    (λ _. grind (arith, nat_tests))
    (grind (arith, nat_tests))
    (omega arith)
    (λ _ s. grind (arith, nat_tests))

finish_keeps : (h : Home ℕ) (b : ℕ) → does_write (finished h b) ≡ false → (finished h b).next.words ≡ h.words
finish_keeps h b w = grind (arith, nat_tests)

hearing_keeps : (N : Type 0) (h : Home ℕ) (b : ℕ) (m : Message ℕ) → (N → m.exclusive ≡ false)
    → IfSome (acknowledged h b m) (λ x. N → does_write x ≡ false → x.next.words ≡ h.words)
hearing_keeps N h b m e =
    let P : Reaction (Home ℕ) → Type 0 = λ x. N → does_write x ≡ false → x.next.words ≡ h.words in
    let Q : Option (Reaction (Home ℕ)) → Type 0 = λ o. IfSome o P in
    let k = heard_home h m in
    let same : N → k.words ≡ h.words = λ n. cond-false m.exclusive m.words h.words (e n) in
    cond_both (awaits h.directory m.sender) (Some (after_hearing k b)) None Q
    (λ _. cond_both (is_empty (round_of k.directory).awaited) (finished k b) (quiet k) P
    (λ _ n d. finish_keeps k b d ∙ same n)
    (λ _ n _. same n))
    (λ _. tt)

unmarked : (a mark : Bool) → a ≡ true → (a && mark) ≡ false → mark ≡ false
unmarked a mark e n = grind (arith, nat_tests)

pub words_stay : WordsStay
words_stay h b m =
    by_rule (λ x. brings_words m ≡ false → does_write x ≡ false → x.next.words ≡ h.words) h b m
    (λ e. hearing_keeps (brings_words m ≡ false) h b m (unmarked _ m.exclusive e))
    (grind (arith, nat_tests))
    (λ _ _. refl)
    (λ _ s. grind (arith, nat_tests))
