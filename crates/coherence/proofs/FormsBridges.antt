-- What a bridge sends is well formed, whatever its device wishes.
use Rattle.std.proofs.lemmas.Bool.Decides.{nat_tests}
use Rattle.std.proofs.Common.{◌≡◌, ℕ, ◌+◌, ◌<◌, ◌≤◌, true, false, ◌&&◌, ltb, leb, IfSome, Some, None, Ok, Err, Option, Result, sym, refl, subst, arith}
use Rattle.bridge.specs.Acts.{Decision, own, wish_message, interrupt, request, act_on, act_plan}
use Rattle.bridge.specs.Acts as acts
use Rattle.bridge.specs.Deeds.{performed}
use Rattle.bridge.specs.Inputs.{Input, Act, Receive, reaction}
use Rattle.bridge.specs.Plans.{plan_within}
use Rattle.bridge.specs.Receipts.{asked, asked_access, replied, again, refused, receive_kind}
use Rattle.bridge.specs.declared.fault.DeviceFault.{DeviceFault}
use Rattle.bridge.specs.declared.plan.Deed.{Deed}
use Rattle.bridge.specs.declared.plan.Deed.TheVariants.{Interrupt, Request, Read, Write, Land, Finish, Resend}
use Rattle.bridge.specs.declared.plan.Plan.{Plan}
use Rattle.bridge.specs.declared.state.Bridge.{Bridge}
use Rattle.device.specs.Meaning.{Meaning}
use Rattle.device.specs.declared.meaning.Wish.{Wish}
use Rattle.message.specs.Checks.{has_processor, word_count}
use Rattle.message.specs.Forms.{row, returned}
use Rattle.message.specs.Kinds.{is_request}
use Rattle.message.specs.Nodes.{home_node, device_node, is_device}
use Rattle.message.specs.Reactions.{sent}
use Rattle.message.specs.Requests.{is_out}
use Rattle.message.specs.declared.figures.Figures.{Figures}
use Rattle.message.specs.declared.kind.Kind.{Kind}
use Rattle.message.specs.declared.kind.Kind.TheVariants as kind
use Rattle.message.specs.declared.message.Message.{Message}
use Rattle.message.specs.declared.reaction.Reaction.{Reaction}
use Rattle.ordering.specs.Clocks.{number_end, is_within}
use Rattle.ordering.specs.Words.{no_words, first_word}
use Rattle.ordering.specs.declared.operation.Operation.{Operation}
use Rattle.ordering.specs.declared.operation.Operation.TheVariants as operation
use Rattle.ordering.specs.declared.operation.Words.{Words}
use Rattle.std.proofs.lemmas.Bool.{and_parts, cond_both}
use Rattle.std.specs.List.{AllByRecursion as All}
use Rattle.coherence.proofs.Arising.{never}
use Rattle.coherence.proofs.FormsBuilt.{Well, Fits, fits_by, as_row, as_back, home_end, global_within, from_home}
use Rattle.coherence.specs.Steps.{bridge_within}

-- What may come to the bridge of device d: a wish on this board, and well-formed messages to it.
abbrev pub Allowed : Figures → ℕ → Input → Type 0
Allowed f d (Act ps) = (ps ≡ f.processors) × (ps ≤ 4)
Allowed f d (Receive x) = Well f x × (x.receiver ≡ device_node d)

-- What a deed sends is well formed.
abbrev DeedWell : Figures → ℕ → Deed → Type 0
DeedWell f d (Interrupt x) = Well f x
DeedWell f d (Request x) = Well f x
DeedWell f d (Read a) = (ltb a.place (word_count f (device_node d)) ≡ true) × (has_processor f a.party ≡ true)
DeedWell f d (Land h k ws) = (h ≡ home_node k) × (k < 16)
DeedWell f d (Finish h k) = (h ≡ home_node k) × (k < 16)
DeedWell f d (Resend x) = Well f x
DeedWell f d _ = Unit {0}

abbrev PlanWell : Figures → ℕ → Plan ℕ → Type 0
PlanWell f d p = plan_within p ≡ true → DeedWell f d p.deed

abbrev DecidedWell : Figures → ℕ → Decision → Type 0
DecidedWell f d (Ok p) = PlanWell f d p
DecidedWell f d (Err e) = Unit {0}

abbrev KnownWell : Figures → ℕ → Option (Plan ℕ) → Type 0
KnownWell f d o = IfSome o (PlanWell f d)

module _ {S : Type 0} (m : Meaning S) (f : Figures) (d : ℕ) (device : is_device (device_node d) ≡ true) (far : ltb (device_node d) 4 ≡ false) where
  -- the numbers of what goes out, which the plan leaves within their end
  clock_well : (b : Bridge S ℕ) (q : ℕ) (a : Deed) → plan_within (record { clock = b.clock; sequence = q; deed = a }) ≡ true → leb b.clock.global number_end ≡ true
  clock_well b q a within = global_within b.clock (and_parts (is_within b.clock) (leb q (number_end + 1)) within).0

  -- wishes
  interrupt_well : (b : Bridge S ℕ) (ps p v : ℕ) → ps ≡ f.processors → ps ≤ 4 → DecidedWell f d (interrupt d b ps p v)
  interrupt_well b ps p v is few = grind (arith, nat_tests)

  request_well : (b : Bridge S ℕ) (r : Kind) (k : ℕ) (ws : Words)
      → (k < 16 → (leb b.clock.global number_end && leb b.sequence number_end) ≡ true → Well f (wish_message r d b (home_node k) k ws))
      → DecidedWell f d (request d b r k ws)
  request_well b r k ws well = grind (arith, nat_tests)

  own_well : (b : Bridge S ℕ) (w : ℕ) (a : Deed) → DeedWell f d a → DecidedWell f d (own m d b w a)
  own_well b w a well = cond_both (ltb w (acts.word_count m b)) _ _ (DecidedWell f d) (λ _ _. well) (λ _. tt)

  act_on_well : (o : Operation) (b : Bridge S ℕ) (ps : ℕ) (h : Wish) → ps ≡ f.processors → ps ≤ 4 → DecidedWell f d (act_on o m d ps b h)
  act_on_well operation.Ld b ps h is few = tt
  act_on_well operation.St b ps h is few = tt
  act_on_well operation.LdIo b ps h is few = own_well b h.place _ tt
  act_on_well operation.StIo b ps h is few = own_well b h.place _ tt
  act_on_well operation.Int b ps h is few = interrupt_well b ps h.processor (first_word h.words) is few
  act_on_well operation.LdBlk b ps h is few =
      request_well b kind.Rblk h.place no_words (λ small numbers.
      fits_by f (row kind.Rblk) (wish_message kind.Rblk d b (home_node h.place) h.place no_words) (record { sender = device; receiver = home_end f h.place small; words = refl; numbers = numbers }))
  act_on_well operation.StBlk b ps h is few =
      request_well b kind.Wblk h.place h.words (λ small numbers.
      fits_by f (row kind.Wblk) (wish_message kind.Wblk d b (home_node h.place) h.place h.words) (record { sender = device; receiver = home_end f h.place small; words = refl; numbers = numbers }))

  act_well : (b : Bridge S ℕ) (ps : ℕ) (o : Option Wish) → m.wish b.device ≡ o → ps ≡ f.processors → ps ≤ 4 → DecidedWell f d (act_plan m d ps b)
  act_well b ps None w is few = rw (w, act_plan) tt
  act_well b ps (Some h) w is few = rw (w, act_plan) (act_on_well h.operation b ps h is few)

  -- messages
  resent_well : (b : Bridge S ℕ) (x : Message ℕ) (k : Kind) → is_request k ≡ true → Fits f (returned (row k)) x → x.receiver ≡ device_node d → leb b.clock.global number_end ≡ true
      → Well f (again k d b x)
  resent_well b x k asks fit to le = grind (arith, nat_tests)

  module _ (b : Bridge S ℕ) (x : Message ℕ) (form : Well f x) (to : x.receiver ≡ device_node d) where
    asked_well : (a : Deed) → DeedWell f d a → KnownWell f d (asked m b x a)
    asked_well a well = cond_both (ltb x.place (acts.word_count m b)) _ None (KnownWell f d) (λ _ _. well) (λ _. tt)

    replied_well : (k : Kind) (a : Deed) → DeedWell f d a → KnownWell f d (replied b x k a)
    replied_well k a well = cond_both (is_out b.requests x.place k) _ None (KnownWell f d) (λ _ _. well) (λ _. tt)

    refused_well : x.kind ≡ kind.Nack → (o : Option Kind) → x.refused ≡ o → KnownWell f d (refused d b x)
    refused_well is None e = rw (e, refused) tt
    refused_well is (Some k) e =
        let back = as_back f x k is e form in
        rw (e, refused)
        (cond_both (is_out b.requests x.place k) _ None (KnownWell f d)
        (λ _ within. resent_well b x k back.0 back.1 to (clock_well b b.sequence (Resend (again k d b x)) within))
        (λ _. tt))

    by_kind : (k : Kind) → x.kind ≡ k → KnownWell f d (receive_kind k m d b x)
    by_kind kind.Rio is =
        let fit = (as_row f x kind.Rio is refl form).0 in
        asked_well (Read (asked_access x)) (subst (λ (n : ℕ). ltb x.place (word_count f n) ≡ true) to fit.receiver, fit.sender)
    by_kind kind.Wio is = asked_well (Write (asked_access x) (first_word x.words)) tt
    by_kind kind.Done is = replied_well kind.Wblk (Finish x.sender x.place) (from_home f x form kind.Done is refl)
    by_kind kind.Words is = replied_well kind.Rblk (Land x.sender x.place x.words) (from_home f x form kind.Words is refl)
    by_kind kind.Nack is = refused_well is x.refused refl
    by_kind _ is = tt

  performed_sends : (b : Bridge S ℕ) (p : Plan ℕ) → PlanWell f d p → bridge_within (performed m d b p).next ≡ true → All (Well f) (sent (performed m d b p).sent)
  performed_sends b p well within = grind (arith, nat_tests)

  abbrev done : Bridge S ℕ → Decision → Result (Reaction (Bridge S ℕ)) DeviceFault
  done b x = elim x [ Ok p ↦ Ok (performed m d b p) | Err e ↦ Err e ]

  pub bridge_sends : (b : Bridge S ℕ) (i : Input) (r : Reaction (Bridge S ℕ)) → Allowed f d i → reaction m d b i ≡ Some r → bridge_within r.next ≡ true
      → All (Well f) (sent r.sent)
  bridge_sends b (Act ps) r a h within = go (act_plan m d ps b) (act_well b ps (m.wish b.device) refl a.0 a.1) h
    where
      go : (x : Decision) → DecidedWell f d x
          → ◌≡◌ {A = Option (Reaction (Bridge S ℕ))} (elim (done b x) [ Ok r ↦ Some r | Err e ↦ None ]) (Some r)
          → All (Well f) (sent r.sent)
      go (Ok p) well h =
          let same : performed m d b p ≡ r = cc in
          subst (λ (y : Reaction (Bridge S ℕ)). All (Well f) (sent y.sent)) same
          (performed_sends b p well (subst (λ (y : Reaction (Bridge S ℕ)). bridge_within y.next ≡ true) (sym same) within))
      go (Err e) well h = never cc
  bridge_sends b (Receive x) r a h within = go (receive_kind x.kind m d b x) (by_kind b x a.0 a.1 x.kind refl) h
    where
      go : (o : Option (Plan ℕ)) → KnownWell f d o
          → ◌≡◌ {A = Option (Reaction (Bridge S ℕ))} (elim o [ Some p ↦ Some (performed m d b p) | None ↦ None ]) (Some r)
          → All (Well f) (sent r.sent)
      go (Some p) well h =
          let same : performed m d b p ≡ r = cc in
          subst (λ (y : Reaction (Bridge S ℕ)). All (Well f) (sent y.sent)) same
          (performed_sends b p well (subst (λ (y : Reaction (Bridge S ℕ)). bridge_within y.next ≡ true) (sym same) within))
      go None well h = never cc
