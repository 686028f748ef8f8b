-- What a plan leads to is what it says: its messages, its entries and its numbers.
use Rattle.std.proofs.Common.{◌≡◌, ℕ, ◌+◌, ◌≤◌, cond, length, is_some, Some, None, Ok, Err, Option, Result, refl, ap, ◌∙◌, arith}
use Rattle.bridge.proofs.Writing.{plans_are_kept}
use Rattle.bridge.specs.Deeds.{performed}
use Rattle.bridge.specs.Plans.{sends, enters, plan_within}
use Rattle.bridge.specs.declared.plan.Deed.{Deed}
use Rattle.bridge.specs.declared.plan.Deed.TheVariants.{Load, Store, Interrupt, Request, Read, Write, Land, Finish, Resend}
use Rattle.bridge.specs.declared.plan.Plan.{Plan}
use Rattle.bridge.specs.declared.state.Bridge.{Bridge}
use Rattle.coherence.specs.Steps.{bridge_within}
use Rattle.device.specs.Meaning.{Meaning}
use Rattle.message.specs.Reactions.{sent_count}
use Rattle.message.specs.declared.reaction.Reaction.{Reaction}
use Rattle.coherence.specs.declared.fault.Fault.{Fault}
use Rattle.std.proofs.lemmas.Bool.Decides.{nat_tests}
use Rattle.std.specs.Option.{option_to_list}
use Rattle.raster.specs.Commits.{planned, fitting, bridge_committed}
use Rattle.raster.specs.Lists.{Lists, left, posted}

pub record Kept {S : Type 0} (p : Plan ℕ) (x : Reaction (Bridge S ℕ)) : Type 0 where
  pub messages : sent_count x.sent ≡ sends p.deed
  pub entries : length (option_to_list x.entry) ≡ cond (enters p.deed) 1 0
  pub within : bridge_within x.next ≡ plan_within p
  pub answer : x.answer ≡ None

one : {T : Type 0} (o : Option T) → length (option_to_list o) ≡ cond (is_some o) 1 0
one None = refl
one (Some x) = refl

module _ {S : Type 0} (m : Meaning S) (d : ℕ) (b : Bridge S ℕ) where
  tells_nothing : (p : Plan ℕ) (a : Deed) → p.deed ≡ a → (performed m d b p).answer ≡ None
  tells_nothing p (Load a) is = rw is refl
  tells_nothing p (Store a v) is = rw is refl
  tells_nothing p (Interrupt x) is = rw is refl
  tells_nothing p (Request x) is = rw is refl
  tells_nothing p (Read a) is = rw is refl
  tells_nothing p (Write a v) is = rw is refl
  tells_nothing p (Land h k ws) is = rw is refl
  tells_nothing p (Finish h k) is = rw is refl
  tells_nothing p (Resend x) is = rw is refl

  pub keeps : (p : Plan ℕ) → Kept p (planned m d b p)
  unfolding planned
  keeps p =
      let law = plans_are_kept m in
      let clock = law.clock b d p in
      let sequence = law.sequence b d p in
      record {
        messages = law.messages b d p;
        entries = one (performed m d b p).entry ∙ ap (λ e. cond e 1 0) (law.entries b d p);
        within = cc;
        answer = tells_nothing p p.deed refl;
      }

-- What fits is committed: the plan with its numbers at rest, done, is what the plan leads to.
module _ {S : Type 0} (m : Meaning S) (d : ℕ) (b : Bridge S ℕ) (p : Plan ℕ) (taken : Option ℕ) (l : Lists) where
  pub refuses : (r : Result (Plan ℕ) Fault) (f : Fault) → r ≡ Err f → r ≡ fitting d p taken l
      → (Err f, b, l) ≡ bridge_committed d b (Ok (planned m d b p)) taken l
  refuses r f is fits = let k = keeps m d b p in let s = k.messages in let e = k.entries in let w = k.within in grind (arith, nat_tests)

  pub has_room : (r : Result (Plan ℕ) Fault) (q : Plan ℕ) → r ≡ Ok q → r ≡ fitting d p taken l
      → (length (left l.messages taken) + sent_count (planned m d b q).sent ≤ l.message_room)
      × (length l.trail + length (option_to_list (planned m d b q).entry) ≤ l.trail_room)
  has_room r q is fits =
      let k = keeps m d b p in
      let s = k.messages in
      let e = k.entries in
      let w = k.within in
      let same : q ≡ p = grind (arith, nat_tests) in
      rw same (grind (arith, nat_tests))

  pub commits : (r : Result (Plan ℕ) Fault) (q : Plan ℕ) → r ≡ Ok q → r ≡ fitting d p taken l
      → (Ok None, (planned m d b q).next, posted l taken (planned m d b q).sent (planned m d b q).entry)
      ≡ bridge_committed d b (Ok (planned m d b p)) taken l
  commits r q is fits =
      let k = keeps m d b p in
      let s = k.messages in
      let e = k.entries in
      let w = k.within in
      let a = k.answer in
      let same : q ≡ p = grind (arith, nat_tests) in
      rw same (grind (arith, nat_tests))
