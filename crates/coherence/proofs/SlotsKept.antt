-- Every call keeps the balance of awaited words: a slot awaits its word exactly while one Rio or VALUE for it waits.
use Rattle.std.proofs.Common.{◌≡◌, ℕ, ◌+◌, ◌<◌, ◌≤◌, true, false, ◌⊎◌, List, ◌++◌, get_or, set, Some, None, sym, refl, ap, ◌∙◌, subst, inl, inr, arith}
use Rattle.bridge.specs.Inputs as bridge
use Rattle.bridge.specs.declared.state.Bridge.{Bridge}
use Rattle.device.specs.Meaning.{Meaning}
use Rattle.home.specs.Reactions.{nack, received}
use Rattle.home.specs.Requests.{request_of}
use Rattle.home.specs.declared.machine.Home.{Home}
use Rattle.list.specs.Contents.{removed}
use Rattle.message.specs.Kinds.{is_request}
use Rattle.message.specs.Nodes.{device_node, home_node}
use Rattle.message.specs.Reactions.{sent}
use Rattle.message.specs.declared.kind.Kind.{Kind}
use Rattle.message.specs.declared.message.Message.{Message}
use Rattle.message.specs.declared.reaction.Outbox.{Outbox}
use Rattle.message.specs.declared.reaction.Reaction.{Reaction}
use Rattle.processor.specs.Inputs as processor
use Rattle.processor.specs.Slots.{is_awaited}
use Rattle.processor.specs.States.{made}
use Rattle.processor.specs.declared.slot.Slot.{Slot}
use Rattle.processor.specs.declared.slot.Slot.TheVariants.{Free}
use Rattle.processor.specs.declared.state.Processor.{Processor}
use Rattle.std.proofs.lemmas.List.{get_or-replicate, get_or-set_other, get_or-set_same}
use Rattle.std.proofs.lemmas.Bool.{and_right, cases_eq, ne_eqb}
use Rattle.std.proofs.lemmas.Bool.Decides.{nat_tests}
use Rattle.std.specs.Option.{option_to_list}
use Rattle.coherence.proofs.Carrying.{SlotsBalanced}
use Rattle.coherence.proofs.Clocks.{Shape}
use Rattle.coherence.proofs.Counting.{indicator, count, count_append}
use Rattle.coherence.proofs.FormsBuilt.{refuses_requests}
use Rattle.coherence.proofs.Meeting.{Goes, Meets, at_call, at_first_wish, at_second_wish, to_processor, to_home, to_first, to_second}
use Rattle.coherence.proofs.Posting.{processor_posts, bridge_posts, posted, count_posted, NoQuestion, NoReply, home_uncounted}
use Rattle.coherence.proofs.Slots.{awaits, crossing, calls_balance, messages_balance, only_own_rio, no_rio_back, no_value, bridge_answers, wishes_answer_nothing, only_own_value, no_rio, no_rio_again}
use Rattle.coherence.proofs.Stepping.{after}
use Rattle.coherence.proofs.Tables.{ProcessorTables, processor_tables_kept}
use Rattle.coherence.proofs.Tally.{crosses, traffic, traffic_counts, traffic_empty, traffic_out}
use Rattle.coherence.proofs.Timing.{came_so}
use Rattle.coherence.specs.Makings.{Making, make}
use Rattle.coherence.specs.Steps.{Effect, figures, by_processor, by_home, by_first, by_second, waiting}
use Rattle.coherence.specs.Worlds.{World, processor_at, home_at, no_processor}
use Rattle.coherence.specs.declared.call.Call.{Call}

-- what is posted, as traffic
posted_traffic : (ms : List (Message ℕ)) (o : Outbox) → sent o ≡ option_to_list (posted o) → (s r c : ℕ) → traffic (ms ++ sent o) c s r ≡ traffic ms c s r + crossing c s r o
posted_traffic ms o one s r c =
    traffic_counts (ms ++ sent o) s r c ∙ count_posted (crosses c s r) ms o one ∙ ap (λ (n : ℕ). n + crossing c s r o) (sym (traffic_counts ms s r c))

-- a message to another node is not in the traffic to this one
elsewhere : (m : Message ℕ) (s r c : ℕ) → (m.receiver ≡ r → ⊥) → crosses c s r m ≡ false
elsewhere m s r c apart = and_right _ _ (ne_eqb m.receiver r apart)

-- what a home sends is neither Rio nor VALUE
home_quiet : (h : Home ℕ) (b : ℕ) (m : Message ℕ) (r : Reaction (Home ℕ)) → received h b m ≡ Some r → (ms : List (Message ℕ)) (s t : ℕ)
    → (traffic (ms ++ sent r.sent) 7 s t ≡ traffic ms 7 s t) × (traffic (ms ++ sent r.sent) 18 s t ≡ traffic ms 18 s t)
home_quiet h b m r is ms s t = (none 7 (λ k q. grind (arith, nat_tests)) (λ x w c. grind (arith, nat_tests)) (grind (arith, nat_tests)), none 18 (λ k q. grind (arith, nat_tests)) (λ x w c. grind (arith, nat_tests)) (grind (arith, nat_tests)))
  where
    none : (c : ℕ) → NoQuestion (crosses c s t) b → NoReply (crosses c s t) b → crosses c s t (nack b (request_of m)) ≡ false → traffic (ms ++ sent r.sent) c s t ≡ traffic ms c s t
    none c unasked replies back =
        let zero_sent = came_so (received h b m) (λ x. count (crosses c s t) (sent x.sent) ≡ 0) r is (home_uncounted (crosses c s t) b unasked replies h m back) in
        let new = traffic_counts (ms ++ sent r.sent) s t c in
        let old = traffic_counts ms s t c in
        omega (arith, count_append (crosses c s t) ms (sent r.sent))

-- Each processor's tables are whole.
abbrev pub Tabled : {A B : Type 0} → World A B → Type 0
Tabled w = (p : ℕ) → p < 4 → ProcessorTables (processor_at w p)

module _ {A B : Type 0} (ma : Meaning A) (mb : Meaning B) (w : World A B) (shape : Shape w) (few : w.count ≤ 4) where
  -- what holds of a processor that changed and of the others holds of all
  pub processor_put : (Q : ℕ → Processor ℕ → Type 0) (p : ℕ) → p < 4 → (s : Processor ℕ) → Q p s → ((q : ℕ) → q < 4 → (q ≡ p → ⊥) → Q q (processor_at w q))
      → (q : ℕ) → q < 4 → Q q (get_or (set w.processors p s) q no_processor)
  processor_put Q p small s new others q low = go (cases_eq q p)
    where
      go : (q ≡ p) ⊎ (q ≡ p → ⊥) → Q q (get_or (set w.processors p s) q no_processor)
      go (inl same) =
          subst (λ (n : ℕ). Q n (get_or (set w.processors p s) n no_processor)) (sym same)
          (subst (Q p) (sym (get_or-set_same w.processors p s no_processor (omega (arith, shape.processors)))) new)
      go (inr apart) = subst (Q q) (sym (get_or-set_other w.processors p q s no_processor apart)) (others q low apart)

  pub tabled_kept : (c : Call) (e : Effect A B) → Meets ma mb w c e → Tabled w → (ms : List (Message ℕ)) → Tabled (after w ms e)
  tabled_kept c e (at_call p small i r asks own ok rest h is) t ms =
      subst (λ (x : Effect A B). Tabled (after w ms x)) (sym is)
      (processor_put (λ q s. ProcessorTables s) p (omega arith) r.next (processor_tables_kept (processor_at w p) p i r h (t p (omega arith))) (λ q low apart. t q low))
  tabled_kept c e (to_processor p small m r goes h is) t ms =
      subst (λ (x : Effect A B). Tabled (after w ms x)) (sym is)
      (processor_put (λ q s. ProcessorTables s) p (omega arith) r.next (processor_tables_kept (processor_at w p) p (processor.Receive m) r h (t p (omega arith))) (λ q low apart. t q low))
  tabled_kept c e (at_first_wish r call h is) t ms = subst (λ (x : Effect A B). Tabled (after w ms x)) (sym is) t
  tabled_kept c e (at_second_wish r call h is) t ms = subst (λ (x : Effect A B). Tabled (after w ms x)) (sym is) t
  tabled_kept c e (to_home b small m r goes h is) t ms = subst (λ (x : Effect A B). Tabled (after w ms x)) (sym is) t
  tabled_kept c e (to_first m r goes h is) t ms = subst (λ (x : Effect A B). Tabled (after w ms x)) (sym is) t
  tabled_kept c e (to_second m r goes h is) t ms = subst (λ (x : Effect A B). Tabled (after w ms x)) (sym is) t

  -- The balance at one slot.
  abbrev Even : List (Message ℕ) → ℕ → ℕ → Processor ℕ → Type 0
  Even ms d p s = awaits s d ≡ traffic ms 7 p (device_node d) + traffic ms 18 (device_node d) p

  -- the waiting messages at a delivery
  delivered_rest : (c : Call) (m : Message ℕ) (to : ℕ) → Goes ma mb w c m to → (s r k : ℕ) → traffic (waiting ma mb c w) k s r + indicator (crosses k s r m) ≡ traffic w.messages k s r
  delivered_rest c m to goes s r k =
      let out = traffic_out w.messages goes.at goes.there s r k in
      let P : Message ℕ → Type 0 = λ x. traffic (removed w.messages goes.at) k s r + indicator (crosses k s r x) ≡ traffic w.messages k s r in
      let Q : Call → Type 0 = λ x. traffic (waiting ma mb x w) k s r + indicator (crosses k s r m) ≡ traffic w.messages k s r in
      subst Q (sym goes.call) (subst P goes.is out)

  module _ (tables : Tabled w) (old : SlotsBalanced w) where
    after_call : (p : ℕ) → p < 4 → (i : processor.Input) (r : Reaction (Processor ℕ)) → processor.message_of i ≡ None → processor.reaction (processor_at w p) p i ≡ Some r
        → SlotsBalanced (after w w.messages (by_processor w p r))
    after_call p small i r own h q d low two =
        let s = processor_at w p in
        let ms = w.messages in
        let one = posted_traffic ms r.sent (processor_posts s p i r h) in
        processor_put (Even (ms ++ sent r.sent) d) p small r.next
        (let a = calls_balance s p i r h own (tables p small).slots d two in
        let b = old p d small two in
        let v = no_value s p i r h (device_node d) p in
        omega (arith, one p (device_node d) 7, one (device_node d) p 18))
        (λ n less apart.
        let b = old n d less two in
        let v = no_value s p i r h (device_node d) n in
        let u = only_own_rio s p i r h n (device_node d) apart in
        omega (arith, one n (device_node d) 7, one (device_node d) n 18))
        q low

    after_message : (c : Call) (p : ℕ) → p < 4 → (m : Message ℕ) (r : Reaction (Processor ℕ)) → Goes ma mb w c m p → processor.reaction (processor_at w p) p (processor.Receive m) ≡ Some r
        → SlotsBalanced (after w (waiting ma mb c w) (by_processor w p r))
    after_message c p small m r goes h q d low two =
        let s = processor_at w p in
        let ms = waiting ma mb c w in
        let one = posted_traffic ms r.sent (processor_posts s p (processor.Receive m) r h) in
        let out = delivered_rest c m p goes in
        let to : m.receiver ≡ p = goes.receiver in
        processor_put (Even (ms ++ sent r.sent) d) p small r.next
        (let a = messages_balance s p (processor.Receive m) r h m refl to (tables p small).slots d two in
        let b = old p d small two in
        let v = no_value s p (processor.Receive m) r h (device_node d) p in
        let u = no_rio_back s p (processor.Receive m) r h m refl p (device_node d) in
        let far = ap indicator (elsewhere m p (device_node d) 7 (λ e. let no_way : ⊥ = omega arith in no_way)) in
        omega (arith, one p (device_node d) 7, one (device_node d) p 18, out p (device_node d) 7, out (device_node d) p 18))
        (λ n less apart.
        let b = old n d less two in
        let v = no_value s p (processor.Receive m) r h (device_node d) n in
        let u = no_rio_back s p (processor.Receive m) r h m refl n (device_node d) in
        let far = ap indicator (elsewhere m n (device_node d) 7 (λ e. let no_way : ⊥ = omega arith in no_way)) in
        let back = ap indicator (elsewhere m (device_node d) n 18 (λ e. apart (sym e ∙ to))) in
        omega (arith, one n (device_node d) 7, one (device_node d) n 18, out n (device_node d) 7, out (device_node d) n 18))
        q low

    after_home : (c : Call) (b : ℕ) → b < 16 → (m : Message ℕ) (r : Reaction (Home ℕ)) → Goes ma mb w c m (home_node b) → received (home_at w b) b m ≡ Some r
        → SlotsBalanced (after w (waiting ma mb c w) (by_home w b r))
    after_home c b small m r goes h q d low two =
        let out = delivered_rest c m (home_node b) goes in
        let to : m.receiver ≡ home_node b = goes.receiver in
        let rio = home_quiet (home_at w b) b m r h (waiting ma mb c w) q (device_node d) in
        let value = home_quiet (home_at w b) b m r h (waiting ma mb c w) (device_node d) q in
        let far = ap indicator (elsewhere m q (device_node d) 7 (λ e. let no_way : ⊥ = omega arith in no_way)) in
        let back = ap indicator (elsewhere m (device_node d) q 18 (λ e. let no_way : ⊥ = omega arith in no_way)) in
        let balance = old q d low two in
        omega (arith, rio.0, value.1, out q (device_node d) 7, out (device_node d) q 18)

    -- a bridge's wish, and a message to a bridge
    module _ {S : Type 0} (m : Meaning S) (b : Bridge S ℕ) (e : ℕ) (q d : ℕ) (low : q < 4) (two : d < 2) where
      wished : (ps : ℕ) (r : Reaction (Bridge S ℕ)) → bridge.reaction m e b (bridge.Act ps) ≡ Some r → Even (w.messages ++ sent r.sent) d q (processor_at w q)
      wished ps r h =
          let one = posted_traffic w.messages r.sent (bridge_posts m b e (bridge.Act ps) r h) in
          let v = wishes_answer_nothing m b e (bridge.Act ps) r h refl (device_node d) q in
          let u = no_rio m b e (bridge.Act ps) r h refl q (device_node d) in
          let balance = old q d low two in
          omega (arith, one q (device_node d) 7, one (device_node d) q 18)

      reached : (c : Call) (x : Message ℕ) (r : Reaction (Bridge S ℕ)) → Goes ma mb w c x (device_node e) → bridge.reaction m e b (bridge.Receive x) ≡ Some r
          → Even (waiting ma mb c w ++ sent r.sent) d q (processor_at w q)
      reached c x r goes h = go (cases_eq d e)
        where
          one : (s t k : ℕ) → traffic (waiting ma mb c w ++ sent r.sent) k s t ≡ traffic (waiting ma mb c w) k s t + crossing k s t r.sent
          one = posted_traffic (waiting ma mb c w) r.sent (bridge_posts m b e (bridge.Receive x) r h)

          refuses : (k : Kind) → x.refused ≡ Some k → is_request k ≡ true
          refuses = refuses_requests (figures ma mb w) x goes.well

          to : x.receiver ≡ device_node e
          to = goes.receiver

          go : (d ≡ e) ⊎ (d ≡ e → ⊥) → Even (waiting ma mb c w ++ sent r.sent) d q (processor_at w q)
          go (inl same) =
              let out = delivered_rest c x (device_node e) goes in
              let a : crossing 18 (device_node d) q r.sent ≡ indicator (crosses 7 q (device_node d) x) =
              subst (λ (n : ℕ). crossing 18 (device_node n) q r.sent ≡ indicator (crosses 7 q (device_node n) x)) (sym same) (bridge_answers m b e (bridge.Receive x) r h x refl to refuses q) in
              let u = no_rio_again m b e (bridge.Receive x) r h x refl refuses q (device_node d) in
              let back = ap indicator (elsewhere x (device_node d) q 18 (λ n. let no_way : ⊥ = omega (arith, to) in no_way)) in
              let balance = old q d low two in
              omega (arith, one q (device_node d) 7, one (device_node d) q 18, out q (device_node d) 7, out (device_node d) q 18)
          go (inr apart) =
              let out = delivered_rest c x (device_node e) goes in
              let v = only_own_value m b e (bridge.Receive x) r h (device_node d) q (λ n. apart (omega arith)) in
              let u = no_rio_again m b e (bridge.Receive x) r h x refl refuses q (device_node d) in
              let far = ap indicator (elsewhere x q (device_node d) 7 (λ n. apart (omega (arith, to)))) in
              let back = ap indicator (elsewhere x (device_node d) q 18 (λ n. let no_way : ⊥ = omega (arith, to) in no_way)) in
              let balance = old q d low two in
              omega (arith, one q (device_node d) 7, one (device_node d) q 18, out q (device_node d) 7, out (device_node d) q 18)

    pub slots_kept : (c : Call) (e : Effect A B) → Meets ma mb w c e → SlotsBalanced (after w (waiting ma mb c w) e)
    slots_kept c e (at_call p small i r asks own ok rest h is) =
        subst (λ (x : Effect A B). SlotsBalanced (after w (waiting ma mb c w) x)) (sym is)
        (subst (λ (ms : List (Message ℕ)). SlotsBalanced (after w ms (by_processor w p r))) (sym rest) (after_call p (omega arith) i r own h))
    slots_kept c e (at_first_wish r call h is) =
        subst (λ (x : Effect A B). SlotsBalanced (after w (waiting ma mb c w) x)) (sym is)
        (subst (λ (x : Call). SlotsBalanced (after w (waiting ma mb x w) (by_first w r))) (sym call) (λ q d low two. wished ma w.first 0 q d low two w.count r h))
    slots_kept c e (at_second_wish r call h is) =
        subst (λ (x : Effect A B). SlotsBalanced (after w (waiting ma mb c w) x)) (sym is)
        (subst (λ (x : Call). SlotsBalanced (after w (waiting ma mb x w) (by_second w r))) (sym call) (λ q d low two. wished mb w.second 1 q d low two w.count r h))
    slots_kept c e (to_processor p small m r goes h is) =
        subst (λ (x : Effect A B). SlotsBalanced (after w (waiting ma mb c w) x)) (sym is) (after_message c p (omega arith) m r goes h)
    slots_kept c e (to_home b small m r goes h is) =
        subst (λ (x : Effect A B). SlotsBalanced (after w (waiting ma mb c w) x)) (sym is) (after_home c b small m r goes h)
    slots_kept c e (to_first m r goes h is) =
        subst (λ (x : Effect A B). SlotsBalanced (after w (waiting ma mb c w) x)) (sym is) (λ q d low two. reached ma w.first 0 q d low two c m r goes h)
    slots_kept c e (to_second m r goes h is) =
        subst (λ (x : Effect A B). SlotsBalanced (after w (waiting ma mb c w) x)) (sym is) (λ q d low two. reached mb w.second 1 q d low two c m r goes h)

-- at the making no slot awaits a word, and nothing waits
module _ {A B : Type 0} (ma : Meaning A) (mb : Meaning B) (k : Making A B) where
  pub tabled_made : Tabled (make ma mb k)
  tabled_made p small = subst ProcessorTables (sym (get_or-replicate 4 p (made k.clock) no_processor small)) (record { lines = refl; requests = refl; slots = refl })

  pub slots_made : SlotsBalanced (make ma mb k)
  slots_made p d small two =
      let none = traffic_empty p (device_node d) 7 in
      let nothing = traffic_empty (device_node d) p 18 in
      let free : awaits (processor_at (make ma mb k) p) d ≡ 0 =
      ap (λ (s : Processor ℕ). awaits s d) (get_or-replicate 4 p (made k.clock) no_processor small) ∙ ap (λ (x : Slot). indicator (is_awaited x)) (get_or-replicate 2 d Free Free two) in
      omega arith
