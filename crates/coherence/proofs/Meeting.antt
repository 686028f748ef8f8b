-- How an effect arises, with what was checked before: arguments in range, and a well-formed message that goes to its receiver.
use Rattle.std.proofs.lemmas.Bool.Decides.{nat_tests}
use Rattle.std.proofs.Common.{◌≡◌, ℕ, ◌<◌, ◌≤◌, Bool, true, false, cond, ltb, length, get_or, Some, None, Ok, Err, Option, Result, sym, refl, ap, ◌∙◌, subst, arith}
use Rattle.bridge.specs.Inputs as bridge
use Rattle.bridge.specs.Reactions as bridge_reactions
use Rattle.bridge.specs.declared.fault.DeviceFault.{DeviceFault}
use Rattle.bridge.specs.declared.state.Bridge.{Bridge}
use Rattle.device.specs.Meaning.{Meaning}
use Rattle.home.specs.Reactions as home
use Rattle.home.specs.declared.machine.Home.{Home}
use Rattle.message.specs.Checks.{word_count, well_formed}
use Rattle.message.specs.Kinds.{request_numbered}
use Rattle.message.specs.Messages.{no_message}
use Rattle.message.specs.Nodes.{device_node, home_node, node_numbered}
use Rattle.message.specs.Pairs.{oldest_of_pair}
use Rattle.message.specs.declared.kind.Kind.{Kind}
use Rattle.message.specs.declared.message.Message.{Message}
use Rattle.message.specs.declared.node.Node.{Node}
use Rattle.message.specs.declared.node.Node.TheVariants as node
use Rattle.message.specs.declared.reaction.Reaction.{Reaction}
use Rattle.processor.specs.Calls as call
use Rattle.processor.specs.Inputs as processor
use Rattle.processor.specs.Receive as receipt
use Rattle.processor.specs.declared.refusal.Refusal.{Refusal}
use Rattle.processor.specs.declared.state.Processor.{Processor}
use Rattle.std.proofs.lemmas.Bool.{ltb-true, ltb-false, and_parts}
use Rattle.std.specs.Option.{option_map}
use Rattle.coherence.proofs.Arising.{Arises, allowed, at_first, at_home, at_processor, at_second, came, from_wish, never, passed_check}
use Rattle.coherence.proofs.FormsBuilt.{Well}
use Rattle.coherence.proofs.FormsNodes.{processor_number, device_number, home_number, receiver_on_board}
use Rattle.coherence.proofs.FormsProcessors.{Allowed}
use Rattle.coherence.specs.Steps.{Effect, check, argument, words_of, figures, by_processor, by_home, by_first, by_second, called, reacted, delivered, ruled, in_turn, requested, acted, wished, effect, waiting}
use Rattle.coherence.specs.Worlds.{World, processor_at, home_at}
use Rattle.coherence.specs.declared.call.Call.{Call}
use Rattle.coherence.specs.declared.call.Call.TheVariants.{Load, Store, Request, LdIo, StIo, Collect, GiveUp, Act, Deliver, Poll}
use Rattle.coherence.specs.declared.fault.Fault.{Fault}

-- What a call of a processor asks of it: which processor, and what.
abbrev pub Asks : Call → ℕ → processor.Input → Type 0
Asks (Load p n) q i = (q ≡ p) × (i ≡ processor.Load n) × (n < 64)
Asks (Store p n v) q i = (q ≡ p) × (i ≡ processor.Store n v) × (n < 64)
Asks (Request p b k) q i = (q ≡ p) × (j : Kind) × (request_numbered k ≡ Some j) × (i ≡ processor.Request b j)
Asks (LdIo p d n) q i = (q ≡ p) × (i ≡ processor.Ldio d n) × (d < 2)
Asks (StIo p d n v) q i = (q ≡ p) × (i ≡ processor.Stio d n v) × (d < 2)
Asks (Collect p d) q i = (q ≡ p) × (i ≡ processor.Collect d) × (d < 2)
Asks (GiveUp p d) q i = (q ≡ p) × (i ≡ processor.GiveUp d) × (d < 2)
Asks (Act d) q i = ⊥
Asks (Deliver n) q i = ⊥
Asks (Poll p) q i = (q ≡ p) × (i ≡ processor.Poll)

module _ {A B : Type 0} (ma : Meaning A) (mb : Meaning B) (w : World A B) where
  -- The message that a call delivers, to the node with this number.
  pub record Goes (c : Call) (m : Message ℕ) (to : ℕ) : Type 0 where
    pub at : ℕ
    pub call : c ≡ Deliver at
    pub there : at < length w.messages
    pub turn : oldest_of_pair w.messages at ≡ None
    pub is : get_or w.messages at no_message ≡ m
    pub well : Well (figures ma mb w) m
    pub receiver : m.receiver ≡ to

  -- A processor is called, a device has a wish, or a message reaches a node of the board.
  pub data Meets (c : Call) (e : Effect A B) : Type 0 where
    at_call : (p : ℕ) → p < w.count → (i : processor.Input) (r : Reaction (Processor ℕ)) → Asks c p i → processor.message_of i ≡ None → Allowed (figures ma mb w) i → waiting ma mb c w ≡ w.messages
        → processor.reaction (processor_at w p) p i ≡ Some r → e ≡ by_processor w p r → Meets c e
    at_first_wish : (r : Reaction (Bridge A ℕ)) → c ≡ Act 0 → bridge.reaction ma 0 w.first (bridge.Act w.count) ≡ Some r → e ≡ by_first w r → Meets c e
    at_second_wish : (r : Reaction (Bridge B ℕ)) → c ≡ Act 1 → bridge.reaction mb 1 w.second (bridge.Act w.count) ≡ Some r → e ≡ by_second w r → Meets c e
    to_processor : (p : ℕ) → p < w.count → (m : Message ℕ) (r : Reaction (Processor ℕ)) → Goes c m p → processor.reaction (processor_at w p) p (processor.Receive m) ≡ Some r → e ≡ by_processor w p r → Meets c e
    to_home : (b : ℕ) → b < 16 → (m : Message ℕ) (r : Reaction (Home ℕ)) → Goes c m (home_node b) → home.received (home_at w b) b m ≡ Some r → e ≡ by_home w b r → Meets c e
    to_first : (m : Message ℕ) (r : Reaction (Bridge A ℕ)) → Goes c m (device_node 0) → bridge.reaction ma 0 w.first (bridge.Receive m) ≡ Some r → e ≡ by_first w r → Meets c e
    to_second : (m : Message ℕ) (r : Reaction (Bridge B ℕ)) → Goes c m (device_node 1) → bridge.reaction mb 1 w.second (bridge.Receive m) ≡ Some r → e ≡ by_second w r → Meets c e

  from_call : (c : Call) (e : Effect A B) (p : ℕ) (i : processor.Input) (x : Result (Reaction (Processor ℕ)) Refusal) → p < w.count → Asks c p i → processor.message_of i ≡ None → Allowed (figures ma mb w) i
      → waiting ma mb c w ≡ w.messages → processor.reaction (processor_at w p) p i ≡ processor.accepted x → called w p x ≡ Ok e → Meets c e
  from_call c e p i (Ok r) small asks own ok rest is h = at_call p small i r asks own ok rest is (let same : by_processor w p r ≡ e = cc in sym same)
  from_call c e p i (Err f) small asks own ok rest is h = never cc

  wish_done : {S : Type 0} (x : Result (Reaction (Bridge S ℕ)) DeviceFault) (r : Reaction (Bridge S ℕ)) → x ≡ Ok r → elim x [ Ok r ↦ Some r | Err f ↦ None ] ≡ Some r
  wish_done x r is = rw is refl

  from_act : (e : Effect A B) (d : ℕ) → d < 2 → acted ma mb w d ≡ Ok e → Meets (Act d) e
  from_act e d two h = go (ltb d 1) refl h
    where
      go : (b : Bool) → ltb d 1 ≡ b → cond b (wished (by_first w) (bridge_reactions.act ma 0 w.count w.first)) (wished (by_second w) (bridge_reactions.act mb 1 w.count w.second)) ≡ Ok e → Meets (Act d) e
      go true low h =
          let lt = ltb-true d 1 low in
          let zero : d ≡ 0 = omega arith in
          let x = from_wish ma mb w e (by_first w) (bridge_reactions.act ma 0 w.count w.first) h in
          at_first_wish x.0 (ap Act zero) (wish_done (bridge_reactions.act ma 0 w.count w.first) x.0 x.1) x.2
      go false high h =
          let le = ltb-false d 1 high in
          let one : d ≡ 1 = omega arith in
          let x = from_wish ma mb w e (by_second w) (bridge_reactions.act mb 1 w.count w.second) h in
          at_second_wish x.0 (ap Act one) (wish_done (bridge_reactions.act mb 1 w.count w.second) x.0 x.1) x.2

  module _ (i : ℕ) (there : i < length w.messages) (turn : oldest_of_pair w.messages i ≡ None) where
    abbrev message : Message ℕ
    message = get_or w.messages i no_message

    goes : (to : ℕ) → Well (figures ma mb w) message → message.receiver ≡ to → Goes (Deliver i) message to
    goes to well is = record { at = i; call = refl; there = there; turn = turn; is = refl; well = well; receiver = is }

    from_node : (e : Effect A B) (n : Option Node) → Well (figures ma mb w) message → node_numbered message.receiver ≡ n → reacted ma mb w message n ≡ Some e → Meets (Deliver i) e
    from_node e None well at h = never cc
    from_node e (Some (node.Processor p)) well at h =
        let x = came (by_processor w p) (receipt.receive (processor_at w p) p message) e h in
        let n = processor_number message.receiver p at in
        let on = receiver_on_board (figures ma mb w) message well n.1 in
        let lt = ltb-true message.receiver w.count (and_parts (ltb message.receiver 4) (ltb message.receiver w.count) on).1 in
        to_processor p (subst (λ (q : ℕ). q < w.count) n.0 lt) message x.0 (goes p well n.0) x.1 x.2
    from_node e (Some (node.Home b)) well at h =
        let x = came (by_home w b) (home.received (home_at w b) b message) e h in
        let n = home_number message.receiver b at in
        to_home b n.1 message x.0 (goes (home_node b) well n.0) x.1 x.2
    from_node e (Some (node.Device d)) well at h = go (ltb d 1) refl h
      where
        two : (message.receiver ≡ device_node d) × (d < 2)
        two = device_number message.receiver d at

        go : (b : Bool) → ltb d 1 ≡ b
            → cond b (option_map (by_first w) (bridge_reactions.receive ma 0 w.first message)) (option_map (by_second w) (bridge_reactions.receive mb 1 w.second message)) ≡ Some e → Meets (Deliver i) e
        go true low h =
            let x = came (by_first w) (bridge_reactions.receive ma 0 w.first message) e h in
            let lt = ltb-true d 1 low in
            to_first message x.0 (goes 4 well (omega (arith, two.0))) x.1 x.2
        go false high h =
            let x = came (by_second w) (bridge_reactions.receive mb 1 w.second message) e h in
            let le = ltb-false d 1 high in
            to_second message x.0 (goes 5 well (omega (arith, two.0, two.1))) x.1 x.2

    from_delivery : (e : Effect A B) (x : Option (Effect A B)) → delivered ma mb w message ≡ x → ruled ma mb w i x ≡ Ok e → Meets (Deliver i) e
    from_delivery e None is h = never cc
    from_delivery e (Some f) is h =
        let same : f ≡ e = cc in
        let ok = allowed (well_formed (figures ma mb w) message) (reacted ma mb w message (node_numbered message.receiver)) e (is ∙ ap Some same) in
        from_node e (node_numbered message.receiver) ok.0 refl ok.1

  from_oldest : (e : Effect A B) (i : ℕ) (o : Option ℕ) → i < length w.messages → oldest_of_pair w.messages i ≡ o → in_turn ma mb w i o ≡ Ok e → Meets (Deliver i) e
  from_oldest e i (Some q) there turn h = never cc
  from_oldest e i None there turn h = from_delivery i there turn e (delivered ma mb w (get_or w.messages i no_message)) refl h

  from_request : (e : Effect A B) (p b n : ℕ) (k : Option Kind) → request_numbered n ≡ k → p < w.count → requested ma mb w p b k ≡ Ok e → Meets (Request p b n) e
  from_request e p b n None is small h = never cc
  from_request e p b n (Some j) is small h = from_call (Request p b n) e p (processor.Request b j) (call.request (processor_at w p) p b j) small (refl, j, is, refl) refl tt refl refl h

  -- how many words the figures give a device
  counted_words : (d : ℕ) → d < 2 → word_count (figures ma mb w) (device_node d) ≡ length (words_of ma mb w d)
  counted_words d two = grind (arith, nat_tests)

  has_word : (d n : ℕ) → ltb d 2 ≡ true → ltb n (length (words_of ma mb w d)) ≡ true → ltb n (word_count (figures ma mb w) (device_node d)) ≡ true
  has_word d n two h = subst (λ (k : ℕ). ltb n k ≡ true) (sym (counted_words d (ltb-true d 2 two))) h

  -- the checks of a processor's call, and then what it does
  one : {X : Result (Effect A B) Fault} (p : ℕ) (f : Fault) (e : Effect A B) → check (ltb p w.count) f X ≡ Ok e → (p < w.count) × (X ≡ Ok e)
  one {X} p f e h = let x = passed_check (ltb p w.count) f X e h in (ltb-true p w.count x.0, x.1)

  two : {X : Result (Effect A B) Fault} (p : ℕ) (f g : Fault) (b : Bool) (e : Effect A B) → check (ltb p w.count) f (check b g X) ≡ Ok e → (p < w.count) × (b ≡ true) × (X ≡ Ok e)
  two {X} p f g b e h = let x = one p f e h in let y = passed_check b g X e x.1 in (x.0, y.0, y.1)

  three : {X : Result (Effect A B) Fault} (p : ℕ) (f g k : Fault) (b d : Bool) (e : Effect A B) → check (ltb p w.count) f (check b g (check d k X)) ≡ Ok e
      → (p < w.count) × (b ≡ true) × (d ≡ true) × (X ≡ Ok e)
  three {X} p f g k b d e h = let x = two p f g b e h in let y = passed_check d k X e x.2 in (x.0, x.1, y.0, y.1)

  pub meets : (c : Call) (e : Effect A B) → effect ma mb c w ≡ Ok e → Meets c e
  meets (Load p n) e h =
      let x = two p (argument 1) (argument 2) (ltb n 64) e h in
      from_call (Load p n) e p (processor.Load n) (call.load (processor_at w p) p n) x.0 (refl, refl, ltb-true n 64 x.1) refl tt refl refl x.2
  meets (Store p n v) e h =
      let x = two p (argument 1) (argument 2) (ltb n 64) e h in
      from_call (Store p n v) e p (processor.Store n v) (call.store (processor_at w p) p n v) x.0 (refl, refl, ltb-true n 64 x.1) refl tt refl refl x.2
  meets (Request p b k) e h =
      let x = two p (argument 1) (argument 2) (ltb b 16) e h in
      from_request e p b k (request_numbered k) refl x.0 x.2
  meets (LdIo p d n) e h =
      let x = three p (argument 1) (argument 2) (argument 3) (ltb d 2) (ltb n (length (words_of ma mb w d))) e h in
      from_call (LdIo p d n) e p (processor.Ldio d n) (call.ldio (processor_at w p) p d n) x.0 (refl, refl, ltb-true d 2 x.1) refl (has_word d n x.1 x.2) refl refl x.3
  meets (StIo p d n v) e h =
      let x = three p (argument 1) (argument 2) (argument 3) (ltb d 2) (ltb n (length (words_of ma mb w d))) e h in
      from_call (StIo p d n v) e p (processor.Stio d n v) (call.stio (processor_at w p) p d n v) x.0 (refl, refl, ltb-true d 2 x.1) refl (has_word d n x.1 x.2) refl refl x.3
  meets (Collect p d) e h =
      let x = two p (argument 1) (argument 2) (ltb d 2) e h in
      from_call (Collect p d) e p (processor.Collect d) (call.collect (processor_at w p) d) x.0 (refl, refl, ltb-true d 2 x.1) refl tt refl refl x.2
  meets (GiveUp p d) e h =
      let x = two p (argument 1) (argument 2) (ltb d 2) e h in
      from_call (GiveUp p d) e p (processor.GiveUp d) (call.give_up (processor_at w p) d) x.0 (refl, refl, ltb-true d 2 x.1) refl tt refl refl x.2
  meets (Act d) e h =
      let x = passed_check (ltb d 2) (argument 1) (acted ma mb w d) e h in
      from_act e d (ltb-true d 2 x.0) x.1
  meets (Deliver i) e h =
      let x = passed_check (ltb i (length w.messages)) (argument 1) (in_turn ma mb w i (oldest_of_pair w.messages i)) e h in
      from_oldest e i (oldest_of_pair w.messages i) (ltb-true i (length w.messages) x.0) refl x.1
  meets (Poll p) e h =
      let x = one p (argument 1) e h in
      at_call p x.0 processor.Poll (call.poll (processor_at w p)) (refl, refl) refl tt refl refl (let same : by_processor w p (call.poll (processor_at w p)) ≡ e = cc in sym same)

  -- and so one node reacts
  pub meets_arises : w.count ≤ 4 → (c : Call) (e : Effect A B) → Meets c e → Arises ma mb w e
  meets_arises four c e (at_call p small i r asks own ok rest h is) = at_processor p (omega arith) i r h is
  meets_arises four c e (at_first_wish r call h is) = at_first (bridge.Act w.count) r h is
  meets_arises four c e (at_second_wish r call h is) = at_second (bridge.Act w.count) r h is
  meets_arises four c e (to_processor p small m r goes h is) = at_processor p (omega arith) (processor.Receive m) r h is
  meets_arises four c e (to_home b small m r goes h is) = at_home b small m r h is
  meets_arises four c e (to_first m r goes h is) = at_first (bridge.Receive m) r h is
  meets_arises four c e (to_second m r goes h is) = at_second (bridge.Receive m) r h is
