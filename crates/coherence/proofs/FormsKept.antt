-- What a home keeps is well formed: the request that it has taken, and holders and awaited that are the board's.
use Rattle.std.proofs.lemmas.Bool.Decides.{nat_tests}
use Rattle.std.proofs.Common.{◌≡◌, ℕ, zero, suc, Bool, true, false, Some, None, Option, sym, refl, ◌∙◌, subst, ⊎_elim, arith}
use Rattle.home.specs.Directories.{round_of}
use Rattle.home.specs.Laws.{is_free}
use Rattle.home.specs.Plans.{refuse, ask, plan, column, newcomer, holder, at_once, ask_others}
use Rattle.home.specs.Requests.{request_of, gives_copy}
use Rattle.home.specs.Sets.{nobody, has, with_member}
use Rattle.home.specs.declared.directory.View.{View}
use Rattle.home.specs.declared.directory.View.TheVariants as view
use Rattle.home.specs.declared.machine.Home.{Home}
use Rattle.home.specs.declared.plan.Plan.{Plan}
use Rattle.home.specs.declared.plan.Plan.TheVariants.{Refuse, Ask}
use Rattle.home.specs.Sets.{Processors}
use Rattle.home.specs.declared.request.Request.{Request}
use Rattle.message.proofs.Soundness.{well_formed_are_sound}
use Rattle.message.specs.Checks.{has_processor}
use Rattle.message.specs.Kinds.{is_request}
use Rattle.message.specs.Nodes.{home_node}
use Rattle.message.specs.declared.figures.Figures.{Figures}
use Rattle.message.specs.declared.kind.Kind.{Kind}
use Rattle.message.specs.declared.kind.Kind.TheVariants as kind
use Rattle.message.specs.declared.message.Message.{Message}
use Rattle.message.proofs.Tables.{put_read}
use Rattle.std.proofs.lemmas.Bool.{cond_both, both_ways, or_left, cases_Bool}
use Rattle.coherence.proofs.FormsBuilt.{Well, as_row, no_nack}

-- The message that a request came as, to the home of block b.
abbrev pub asked_of : ℕ → Request → Message ℕ
asked_of b r = record {
  kind = r.kind;
  sender = r.requester;
  receiver = home_node b;
  place = b;
  words = r.words;
  clock = r.clock;
  sequence = r.sequence;
  exclusive = false;
  refused = None;
}

pub record RequestWell (f : Figures) (b : ℕ) (r : Request) : Type 0 where
  pub asks : is_request r.kind ≡ true
  pub well : Well f (asked_of b r)

abbrev pub OnBoard : Figures → Processors → Type 0
OnBoard f s = (p : ℕ) → has s p ≡ true → has_processor f p ≡ true

pub record HomeWell (f : Figures) (b : ℕ) (h : Home ℕ) : Type 0 where
  pub holders : OnBoard f h.directory.holders
  pub awaited : OnBoard f (round_of h.directory).awaited
  pub request : is_free h ≡ false → RequestWell f b (round_of h.directory).request

no_ack : (k : Kind) → is_request k ≡ true → k ≡ kind.Ack → ⊥
no_ack k h is = both_ways (is_request kind.Ack) refl (subst (λ (j : Kind). is_request j ≡ true) is h)

-- a well-formed request is kept as it came
pub request_kept : (f : Figures) (b : ℕ) (m : Message ℕ) → Well f m → m.receiver ≡ home_node b → is_request m.kind ≡ true → RequestWell f b (request_of m)
request_kept f b m well to asks =
    let sound = well_formed_are_sound f m well in
    let place : m.place ≡ b = (let e = sound.receiver (or_left (is_request m.kind) _ asks) in omega arith) in
    let plain : m.exclusive ≡ false = ⊎_elim (λ t. absurd (no_ack m.kind asks (sound.mark t))) (λ n. n) (cases_Bool m.exclusive) in
    let nothing = (as_row f m m.kind refl (no_nack m.kind asks) well).1 in
    let G : ℕ → ℕ → Bool → Option Kind → Type 0 =
    λ r p x o. Well f (record { kind = m.kind; sender = m.sender; receiver = r; place = p; words = m.words; clock = m.clock; sequence = m.sequence; exclusive = x; refused = o }) in
    let g0 : G m.receiver m.place m.exclusive m.refused = well in
    let g1 : G (home_node b) m.place m.exclusive m.refused = subst (λ (r : ℕ). G r m.place m.exclusive m.refused) to g0 in
    let g2 : G (home_node b) b m.exclusive m.refused = subst (λ (p : ℕ). G (home_node b) p m.exclusive m.refused) place g1 in
    let g3 : G (home_node b) b false m.refused = subst (λ (x : Bool). G (home_node b) b x m.refused) plain g2 in
    record { asks = asks; well = subst (λ (o : Option Kind). G (home_node b) b false o) nothing g3 }

-- sets of the board's processors
pub nobody_has : (p : ℕ) → has nobody p ≡ false
nobody_has zero = refl
nobody_has (suc zero) = refl
nobody_has (suc (suc zero)) = refl
nobody_has (suc (suc (suc zero))) = refl
nobody_has (suc (suc (suc (suc p)))) = refl

pub nobody_on_board : (f : Figures) → OnBoard f nobody
nobody_on_board f p h = absurd (both_ways (has nobody p) (nobody_has p) h)

pub fewer : (s : Processors) (p q : ℕ) → has (with_member s p false) q ≡ true → has s q ≡ true
fewer s p q h =
    ⊎_elim (λ x. absurd (both_ways (has (with_member s p false) q) x.1 h)) (λ x. sym x.0 ∙ h)
    (put_read s.at p q false false)

pub one_more_on_board : (f : Figures) (s : Processors) (p : ℕ) → has_processor f p ≡ true → OnBoard f s → OnBoard f (with_member s p true)
one_more_on_board f s p own on q h =
    ⊎_elim (λ x. subst (λ (n : ℕ). has_processor f n ≡ true) x.0 own) (λ x. on q (sym x.0 ∙ h))
    (put_read s.at p q true false)

-- copies are given to processors
pub copy_goes_to_processor : (f : Figures) (b : ℕ) (r : Request) → RequestWell f b r → gives_copy r.kind ≡ true → has_processor f r.requester ≡ true
copy_goes_to_processor f b r w gives = grind (arith, nat_tests)

-- A plan is for a request, and asks holders alone.
abbrev pub PlanGood : Kind → Processors → Option Plan → Type 0
PlanGood k h None = Unit {0}
PlanGood k h (Some Refuse) = is_request k ≡ true
PlanGood k h (Some (Ask s)) = (is_request k ≡ true) × ((q : ℕ) → has s q ≡ true → has h q ≡ true)

module _ (k : Kind) (h : Processors) (asks : is_request k ≡ true) where
  once_good : PlanGood k h at_once
  once_good = (asks, λ q e. absurd (both_ways (has nobody q) (nobody_has q) e))

  all_good : PlanGood k h (ask h)
  all_good = (asks, λ q e. e)

  newcomer_good : (p : ℕ) (x : Option Plan) → PlanGood k h x → PlanGood k h (newcomer h p x)
  newcomer_good p x good = cond_both (has h p) None x (PlanGood k h) (λ _. tt) (λ _. good)

  holder_good : (p : ℕ) (x : Option Plan) → PlanGood k h x → PlanGood k h (holder h p x)
  holder_good p x good = cond_both (has h p) x refuse (PlanGood k h) (λ _. good) (λ _. asks)

  column_good : (v : View) (i s x : Option Plan) → PlanGood k h i → PlanGood k h s → PlanGood k h x → PlanGood k h (column v i s x)
  column_good view.Idle i s x a b c = a
  column_good view.Shared i s x a b c = b
  column_good view.Exclusive i s x a b c = c
  column_good view.Busy i s x a b c = asks

pub plan_good : (k : Kind) (v : View) (h : Processors) (p : ℕ) → PlanGood k h (plan k v h p)
plan_good kind.Gets v h p =
    column_good kind.Gets h refl v (newcomer h p at_once) (newcomer h p at_once) (newcomer h p (ask h))
    (newcomer_good kind.Gets h refl p at_once (once_good kind.Gets h refl)) (newcomer_good kind.Gets h refl p at_once (once_good kind.Gets h refl)) (newcomer_good kind.Gets h refl p (ask h) (all_good kind.Gets h refl))
plan_good kind.Getx v h p =
    column_good kind.Getx h refl v (newcomer h p at_once) (newcomer h p (ask h)) (newcomer h p (ask h))
    (newcomer_good kind.Getx h refl p at_once (once_good kind.Getx h refl)) (newcomer_good kind.Getx h refl p (ask h) (all_good kind.Getx h refl)) (newcomer_good kind.Getx h refl p (ask h) (all_good kind.Getx h refl))
plan_good kind.Upg v h p =
    column_good kind.Upg h refl v refuse (holder h p (ask_others h p)) refuse
    refl (holder_good kind.Upg h refl p (ask_others h p) (refl, λ q e. fewer h p q e)) refl
plan_good kind.Wb v h p =
    column_good kind.Wb h refl v refuse refuse (holder h p (ask h))
    refl refl (holder_good kind.Wb h refl p (ask h) (all_good kind.Wb h refl))
plan_good kind.Rblk v h p = column_good kind.Rblk h refl v at_once at_once (ask h) (once_good kind.Rblk h refl) (once_good kind.Rblk h refl) (all_good kind.Rblk h refl)
plan_good kind.Wblk v h p = column_good kind.Wblk h refl v at_once (ask h) (ask h) (once_good kind.Wblk h refl) (all_good kind.Wblk h refl) (all_good kind.Wblk h refl)
plan_good _ v h p = tt
