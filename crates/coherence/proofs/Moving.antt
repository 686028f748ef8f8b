-- Every effect is, for each block, one of its moves, or two in turn.
use Rattle.std.proofs.Common.{◌≡◌, ℕ, ◌<◌, ◌≤◌, true, eqb, ◌⊎◌, List, length, Some, sym, refl, ap, ◌∙◌, subst, inl, inr, arith}
use Rattle.bridge.specs.declared.state.Bridge.{Bridge}
use Rattle.device.specs.Meaning.{Meaning, Laws}
use Rattle.home.specs.Reactions.{received}
use Rattle.home.specs.declared.machine.Home.{Home}
use Rattle.list.specs.Contents.{removed}
use Rattle.message.proofs.Soundness.{well_formed_are_sound}
use Rattle.message.specs.Laws.{goes_home, comes_from_home}
use Rattle.message.specs.Messages.{no_message}
use Rattle.message.specs.Nodes.{home_node}
use Rattle.message.specs.Reactions.{sent}
use Rattle.message.specs.Requests.{out}
use Rattle.message.specs.declared.figures.Figures.{Figures}
use Rattle.message.specs.declared.kind.Kind.TheVariants as kind
use Rattle.message.specs.declared.message.Message.{Message}
use Rattle.message.specs.declared.reaction.Reaction.{Reaction}
use Rattle.processor.specs.Inputs as processor
use Rattle.std.proofs.lemmas.List.{get_or-set_other}
use Rattle.std.proofs.lemmas.Bool.{and_right, cases_eq, ne_eqb}
use Rattle.std.proofs.lemmas.Bool.Decides.{nat_tests}
use Rattle.std.specs.Option.{option_to_list}
use Rattle.coherence.proofs.Blocks.{Block, block, about, on}
use Rattle.coherence.proofs.Clocks.{Shape}
use Rattle.coherence.proofs.Forms.{HomesWell}
use Rattle.coherence.proofs.FormsBuilt.{Well, refuses_requests}
use Rattle.coherence.proofs.Meeting.{Asks, Meets, at_call, at_first_wish, at_second_wish, to_processor, to_home, to_first, to_second}
use Rattle.coherence.proofs.Moves.{Passes, once, rests, OutPut}
use Rattle.coherence.proofs.MovesBridges as bridges
use Rattle.coherence.proofs.MovesCalls.{ByNumber, call_moves}
use Rattle.coherence.proofs.MovesDeliveries.{delivery_moves}
use Rattle.coherence.proofs.MovesHomes.{sends_elsewhere, enters_elsewhere}
use Rattle.coherence.proofs.MovesOwnHome.{home_moves}
use Rattle.coherence.proofs.Phases.{busy_gathering}
use Rattle.coherence.proofs.Posts.{kept_added, kept_still}
use Rattle.coherence.proofs.SlotsKept.{Tabled}
use Rattle.coherence.proofs.Stepping.{after}
use Rattle.coherence.specs.Steps.{Effect, by_home, by_first, by_second, figures, waiting}
use Rattle.coherence.specs.Worlds.{World, home_at, no_home, with_first, with_second}
use Rattle.coherence.specs.declared.call.Call.{Call}
use Rattle.coherence.specs.declared.call.Call.TheVariants as call

block_refused : (f : Figures) (m : Message ℕ) → Well f m → 4 ≤ m.receiver → bridges.BlockRefused m
block_refused f m well device k is = grind (arith, nat_tests)

-- an acknowledgement is a processor's
ack_sender : (f : Figures) (m : Message ℕ) → Well f m → m.kind ≡ kind.Ack → m.sender < 4
ack_sender f m well is = grind (arith, nat_tests)

-- a call names its request by number
by_number : (c : Call) (p : ℕ) (i : processor.Input) → Asks c p i → ByNumber i
by_number (call.Request q b k) p i asks = subst ByNumber (sym asks.3) (k, asks.2)
by_number (call.Act d) p i asks = absurd asks
by_number (call.Deliver n) p i asks = absurd asks
by_number _ p i asks = subst ByNumber (sym asks.1) tt

-- what has a rule at a home goes home
goes : (h : Home ℕ) (b : ℕ) (m : Message ℕ) (r : Reaction (Home ℕ)) → received h b m ≡ Some r → goes_home m.kind ≡ true
goes h b m r is = grind (arith, nat_tests)

module _ {A B : Type 0} (ma : Meaning A) (mb : Meaning B) where
  -- What every world of a run is, as far as its moves need it.
  pub record Fitted (w : World A B) : Type 0 where
    pub shape : Shape w
    pub few : w.count ≤ 4
    pub tabled : Tabled w
    pub first : length w.first.requests.at ≡ 16
    pub second : length w.second.requests.at ≡ 16
    pub homes : HomesWell (figures ma mb w) w

  module _ (la : Laws ma) (lb : Laws mb) (w : World A B) (fitted : Fitted w) (b : ℕ) (low : b < 16) where
    abbrev x : Block
    x = block b w

    abbrev Now : List (Message ℕ) → Effect A B → Type 0
    Now ms e = Passes b x (block b (after w ms e))

    first_out : (r : Bridge A ℕ) → OutPut b x (block b (with_first w r)) 4 (out r.requests b)
    first_out r q = grind (arith, nat_tests)

    second_out : (r : Bridge B ℕ) → OutPut b x (block b (with_second w r)) 5 (out r.requests b)
    second_out r q = grind (arith, nat_tests)

    -- what was checked of a delivered message
    sender_known : (m : Message ℕ) → Well (figures ma mb w) m → comes_from_home m.kind ≡ true → m.sender ≡ home_node m.place
    sender_known m well = (well_formed_are_sound (figures ma mb w) m well).sender

    pub passes : (c : Call) (e : Effect A B) → Meets ma mb w c e → Now (waiting ma mb c w) e
    passes c e (at_call p small i r asks own ok rest h is) =
        subst (λ (ms : List (Message ℕ)). Now ms e) (sym rest)
        (subst (Now w.messages) (sym is) (once (call_moves w fitted.shape p (omega (arith, fitted.few)) (fitted.tabled p (omega (arith, fitted.few))) b low i r h own (by_number c p i asks))))
    passes c e (at_first_wish r act h is) =
        subst (λ (k : Call). Now (waiting ma mb k w) e) (sym act)
        (subst (Now w.messages) (sym is)
        (once (bridges.wish_moves b low x (block b (after w w.messages (by_first w r))) 4 (omega arith) refl w.messages w.trail refl refl (λ q. refl) (λ q. refl) refl
        ma 0 refl w.first r fitted.first refl (first_out r.next) refl la w.count h refl)))
    passes c e (at_second_wish r act h is) =
        subst (λ (k : Call). Now (waiting ma mb k w) e) (sym act)
        (subst (Now w.messages) (sym is)
        (once (bridges.wish_moves b low x (block b (after w w.messages (by_second w r))) 5 (omega arith) refl w.messages w.trail refl refl (λ q. refl) (λ q. refl) refl
        mb 1 refl w.second r fitted.second refl (second_out r.next) refl lb w.count h refl)))
    passes c e (to_processor p small m r way h is) =
        subst (λ (k : Call). Now (waiting ma mb k w) e) (sym way.call)
        (subst (Now (removed w.messages way.at)) (sym is)
        (once (delivery_moves w fitted.shape p (omega (arith, fitted.few)) (fitted.tabled p (omega (arith, fitted.few))) b low way.at way.there m way.is way.receiver
        r (sender_known m way.well) (refuses_requests (figures ma mb w) m way.well) h)))
    passes c e (to_first m r way h is) =
        subst (λ (k : Call). Now (waiting ma mb k w) e) (sym way.call)
        (subst (Now (removed w.messages way.at)) (sym is)
        (once (bridges.delivery_moves b low x (block b (after w (removed w.messages way.at) (by_first w r))) 4 (omega arith) refl w.messages w.trail refl refl (λ q. refl) (λ q. refl) refl
        ma 0 refl w.first r fitted.first refl (first_out r.next) refl way.at way.there m way.is way.receiver refl
        (sender_known m way.well) (block_refused (figures ma mb w) m way.well (let four = way.receiver in omega arith)) h)))
    passes c e (to_second m r way h is) =
        subst (λ (k : Call). Now (waiting ma mb k w) e) (sym way.call)
        (subst (Now (removed w.messages way.at)) (sym is)
        (once (bridges.delivery_moves b low x (block b (after w (removed w.messages way.at) (by_second w r))) 5 (omega arith) refl w.messages w.trail refl refl (λ q. refl) (λ q. refl) refl
        mb 1 refl w.second r fitted.second refl (second_out r.next) refl way.at way.there m way.is way.receiver refl
        (sender_known m way.well) (block_refused (figures ma mb w) m way.well (let five = way.receiver in omega arith)) h)))
    passes c e (to_home a small m r way h is) =
        subst (λ (k : Call). Now (waiting ma mb k w) e) (sym way.call)
        (subst (Now (removed w.messages way.at)) (sym is) (go (cases_eq a b)))
      where
        place : m.place ≡ a
        place = let to = (well_formed_are_sound (figures ma mb w) m way.well).receiver (goes (home_at w a) a m r h) in let at = way.receiver in omega arith

        elsewhere : (a ≡ b → ⊥) → Now (removed w.messages way.at) (by_home w a r)
        elsewhere apart = once (rests (record {
          lines = λ q. refl;
          outs = λ q. refl;
          clocks = λ q. omega arith;
          home = get_or-set_other w.homes a b r.next no_home (λ e. apart (sym e));
          messages = kept_still (about b) w.messages (sent r.sent) way.at no_message way.there
              (ap (about b) way.is ∙ and_right _ (eqb m.place b) (ne_eqb m.place b (λ e. apart (sym place ∙ e)))) (sends_elsewhere a b apart (home_at w a) m r h);
          trail = kept_added (on b) w.trail (option_to_list r.entry) (enters_elsewhere a b apart (home_at w a) m r h);
        }))

        go : (a ≡ b) ⊎ (a ≡ b → ⊥) → Now (removed w.messages way.at) (by_home w a r)
        go (inr apart) = elsewhere apart
        go (inl same) =
            subst (λ (n : ℕ). Now (removed w.messages way.at) (by_home w n r)) (sym same)
            (home_moves w fitted.shape b low way.at way.there m way.is (place ∙ same) (ack_sender (figures ma mb w) m way.well)
            (λ gathering. ((fitted.homes b low).request (busy_gathering (home_at w b) gathering)).asks) r (subst (λ (n : ℕ). received (home_at w n) n m ≡ Some r) same h))
