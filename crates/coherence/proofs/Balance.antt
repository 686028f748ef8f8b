-- Every call keeps the balance of numbered operations: each is done once, carried once or served once.
use Rattle.std.proofs.Common.{◌≡◌, ℕ, ◌+◌, ◌<◌, ◌≤◌, Bool, false, ◌&&◌, eqb, ltb, ◌⊎◌, List, ◌++◌, length, get_or, set, Some, None, sym, refl, ap, subst, inl, inr, arith}
use Rattle.bridge.specs.Inputs as bridge
use Rattle.bridge.specs.declared.state.Bridge.{Bridge}
use Rattle.device.specs.Meaning.{Meaning}
use Rattle.home.specs.Homes.{new_home}
use Rattle.home.specs.Reactions.{received}
use Rattle.home.specs.declared.machine.Home.{Home}
use Rattle.list.specs.Contents.{removed}
use Rattle.message.specs.Messages.{no_message}
use Rattle.message.specs.Nodes.{device_node, home_node}
use Rattle.message.specs.Reactions.{sent}
use Rattle.message.specs.declared.figures.Figures.{Figures}
use Rattle.message.specs.declared.kind.Kind.{Kind}
use Rattle.message.specs.declared.message.Message.{Message}
use Rattle.message.specs.declared.reaction.Reaction.{Reaction}
use Rattle.processor.specs.Inputs as processor
use Rattle.processor.specs.declared.state.Processor.{Processor}
use Rattle.std.proofs.ByRecursion.{All-map}
use Rattle.std.proofs.lemmas.List.{get_or-set_other, get_or-set_same}
use Rattle.std.proofs.lemmas.Bool.{cases_eq, eq-eqb, lt-ltb, le-ltb, ne_eqb}
use Rattle.std.proofs.lemmas.Bool.Decides.{nat_tests}
use Rattle.std.specs.List.{range_with_len}
use Rattle.std.specs.Option.{option_to_list}
use Rattle.coherence.proofs.BalanceBridges as bridges
use Rattle.coherence.proofs.BalanceHomes.{home_number}
use Rattle.coherence.proofs.BalanceProcessors as processors
use Rattle.coherence.proofs.Carrying.{Balanced, carries, done_as, is_block_request, next_number, serves}
use Rattle.coherence.proofs.Clocks.{Shape}
use Rattle.coherence.proofs.Counting.{indicator, count, count_append, count_none, count_removed, count_set, none_counted}
use Rattle.coherence.proofs.FormsBuilt.{Well, refuses_requests}
use Rattle.coherence.proofs.Meeting.{Goes, Meets, at_call, at_first_wish, at_second_wish, to_processor, to_home, to_first, to_second}
use Rattle.coherence.proofs.Posting.{processor_posts, bridge_posts, count_listed, count_posted}
use Rattle.coherence.proofs.Rising.{all_from_nth}
use Rattle.coherence.proofs.Stepping.{after}
use Rattle.coherence.proofs.Timing.{came_so}
use Rattle.coherence.specs.Makings.{Making, block_words, make}
use Rattle.coherence.specs.Steps.{Effect, figures, by_processor, by_home, by_first, by_second, waiting}
use Rattle.coherence.specs.Worlds.{World, processor_at, home_at, with_processor, with_first, with_second, no_processor, no_home}
use Rattle.coherence.specs.declared.call.Call.{Call}

-- no block request is given back to a processor
pub processor_refused : (f : Figures) (m : Message ℕ) → Well f m → m.receiver < 4 → (k : Kind) → m.refused ≡ Some k → is_block_request k ≡ false
processor_refused f m well small k is = grind (arith, nat_tests)

module _ {A B : Type 0} (w : World A B) where
  -- what a node's new number changes: the test of its own party alone
  pub processor_next : (p : ℕ) → p < 4 → length w.processors ≡ 4 → (x : Processor ℕ) (n s : ℕ)
      → indicator (ltb s (next_number (with_processor w p x) n)) + indicator (eqb p n && ltb s (processor_at w p).sequence)
      ≡ indicator (ltb s (next_number w n)) + indicator (eqb p n && ltb s x.sequence)
  processor_next p small four x n s = go (cases_eq n p)
    where
      go : (n ≡ p) ⊎ (n ≡ p → ⊥)
          → indicator (ltb s (next_number (with_processor w p x) n)) + indicator (eqb p n && ltb s (processor_at w p).sequence)
          ≡ indicator (ltb s (next_number w n)) + indicator (eqb p n && ltb s x.sequence)
      go (inl same) =
          let new : get_or (set w.processors p x) p no_processor ≡ x = get_or-set_same w.processors p x no_processor (omega arith) in
          rw (same, lt-ltb p 4 small, eq-eqb p p refl, new) (omega arith)
      go (inr apart) =
          let old : get_or (set w.processors p x) n no_processor ≡ processor_at w n = get_or-set_other w.processors p n x no_processor apart in
          rw (ne_eqb p n (λ e. apart (sym e)), old) refl

  pub first_next : (x : Bridge A ℕ) (n s : ℕ)
      → indicator (ltb s (next_number (with_first w x) n)) + indicator (eqb 4 n && ltb s w.first.sequence)
      ≡ indicator (ltb s (next_number w n)) + indicator (eqb 4 n && ltb s x.sequence)
  first_next x n s = grind (arith, nat_tests)

  pub second_next : (x : Bridge B ℕ) (n s : ℕ)
      → indicator (ltb s (next_number (with_second w x) n)) + indicator (eqb 5 n && ltb s w.second.sequence)
      ≡ indicator (ltb s (next_number w n)) + indicator (eqb 5 n && ltb s x.sequence)
  second_next x n s = grind (arith, nat_tests)

module _ {A B : Type 0} (ma : Meaning A) (mb : Meaning B) (w : World A B) where
  -- what a delivery takes out of what waits
  pub count_delivered : (f : Message ℕ → Bool) (c : Call) (m : Message ℕ) (to : ℕ) → Goes ma mb w c m to → count f (waiting ma mb c w) + indicator (f m) ≡ count f w.messages
  count_delivered f c m to goes =
      let out = count_removed f w.messages goes.at no_message goes.there in
      let P : Message ℕ → Type 0 = λ x. count f (removed w.messages goes.at) + indicator (f x) ≡ count f w.messages in
      let Q : Call → Type 0 = λ x. count f (waiting ma mb x w) + indicator (f m) ≡ count f w.messages in
      subst Q (sym goes.call) (subst P goes.is out)

  module _ (shape : Shape w) (few : w.count ≤ 4) (old : Balanced w) where
    after_call : (p : ℕ) → p < 4 → (i : processor.Input) (r : Reaction (Processor ℕ)) → processor.message_of i ≡ None → processor.reaction (processor_at w p) p i ≡ Some r
        → Balanced (after w w.messages (by_processor w p r))
    after_call p small i r own h n s =
        let balance = old n s in
        let numbers = processors.calls_number (processor_at w p) p i r h own n s in
        let next = processor_next w p small shape.processors r.next n s in
        let enters = count_listed (done_as n s) w.trail r.entry in
        let posts = count_posted (carries n s) w.messages r.sent (processor_posts (processor_at w p) p i r h) in
        omega arith

    after_message : (c : Call) (p : ℕ) → p < 4 → (m : Message ℕ) (r : Reaction (Processor ℕ)) → Goes ma mb w c m p → processor.reaction (processor_at w p) p (processor.Receive m) ≡ Some r
        → Balanced (after w (waiting ma mb c w) (by_processor w p r))
    after_message c p small m r goes h n s =
        let balance = old n s in
        let to : m.receiver ≡ p = goes.receiver in
        let numbers = processors.messages_number (processor_at w p) p (processor.Receive m) r h m refl (processor_refused (figures ma mb w) m goes.well (omega arith)) n s in
        let same = ap (λ (q : ℕ). indicator (eqb p n && ltb s q)) (processors.messages_keep_number (processor_at w p) p (processor.Receive m) r h m refl) in
        let next = processor_next w p small shape.processors r.next n s in
        let enters = count_listed (done_as n s) w.trail r.entry in
        let posts = count_posted (carries n s) (waiting ma mb c w) r.sent (processor_posts (processor_at w p) p (processor.Receive m) r h) in
        let out = count_delivered (carries n s) c m p goes in
        omega arith

    after_home : (c : Call) (b : ℕ) → b < 16 → (m : Message ℕ) (r : Reaction (Home ℕ)) → Goes ma mb w c m (home_node b) → received (home_at w b) b m ≡ Some r
        → Balanced (after w (waiting ma mb c w) (by_home w b r))
    after_home c b small m r goes h n s =
        let balance = old n s in
        let numbers = came_so (received (home_at w b) b m) _ r h (home_number n s b (home_at w b) m) in
        let enters = count_listed (done_as n s) w.trail r.entry in
        let posts = count_append (carries n s) (waiting ma mb c w) (sent r.sent) in
        let out = count_delivered (carries n s) c m (home_node b) goes in
        let put = count_set (serves n s) w.homes b r.next no_home (omega (arith, shape.homes)) in
        omega arith

    -- a bridge's wish, and a message to a bridge: what changes but for the numbers
    module _ {S : Type 0} (m : Meaning S) (b : Bridge S ℕ) (d : ℕ) (n s : ℕ) where
      abbrev Total : List (Message ℕ) → Reaction (Bridge S ℕ) → ℕ
      Total ms r = count (done_as n s) (w.trail ++ option_to_list r.entry) + (count (carries n s) (ms ++ sent r.sent) + count (serves n s) w.homes)

      wished : (ps : ℕ) (r : Reaction (Bridge S ℕ)) → bridge.reaction m d b (bridge.Act ps) ≡ Some r
          → Total w.messages r + indicator (eqb (device_node d) n && ltb s b.sequence) ≡ indicator (ltb s (next_number w n)) + indicator (eqb (device_node d) n && ltb s r.next.sequence)
      wished ps r h =
          let balance = old n s in
          let numbers = bridges.wishes_number m b d ps r h n s in
          let one = ap (λ (q : ℕ). indicator (eqb (device_node d) n && ltb s q)) (bridges.wishes_take_number m b d (bridge.Act ps) r h refl) in
          let taken = processors.number_taken (device_node d) n s b.sequence in
          let enters = count_listed (done_as n s) w.trail r.entry in
          let posts = count_posted (carries n s) w.messages r.sent (bridge_posts m b d (bridge.Act ps) r h) in
          omega arith

      reached : (c : Call) (x : Message ℕ) (r : Reaction (Bridge S ℕ)) → Goes ma mb w c x (device_node d) → bridge.reaction m d b (bridge.Receive x) ≡ Some r
          → Total (waiting ma mb c w) r + indicator (eqb (device_node d) n && ltb s b.sequence) ≡ indicator (ltb s (next_number w n)) + indicator (eqb (device_node d) n && ltb s r.next.sequence)
      reached c x r goes h =
          let balance = old n s in
          let numbers = bridges.messages_number m b d x r h goes.receiver (refuses_requests (figures ma mb w) x goes.well) n s in
          let same = ap (λ (q : ℕ). indicator (eqb (device_node d) n && ltb s q)) (bridges.messages_keep_number m b d (bridge.Receive x) r h x refl) in
          let enters = count_listed (done_as n s) w.trail r.entry in
          let posts = count_posted (carries n s) (waiting ma mb c w) r.sent (bridge_posts m b d (bridge.Receive x) r h) in
          let out = count_delivered (carries n s) c x (device_node d) goes in
          omega arith

    pub balanced_kept : (c : Call) (e : Effect A B) → Meets ma mb w c e → Balanced (after w (waiting ma mb c w) e)
    balanced_kept c e (at_call p small i r asks own ok rest h is) =
        subst (λ (x : Effect A B). Balanced (after w (waiting ma mb c w) x)) (sym is)
        (subst (λ (ms : List (Message ℕ)). Balanced (after w ms (by_processor w p r))) (sym rest) (after_call p (omega arith) i r own h))
    balanced_kept c e (at_first_wish r call h is) =
        subst (λ (x : Effect A B). Balanced (after w (waiting ma mb c w) x)) (sym is)
        (subst (λ (x : Call). Balanced (after w (waiting ma mb x w) (by_first w r))) (sym call)
        (λ n s. let t = wished ma w.first 0 n s w.count r h in let next = first_next w r.next n s in omega arith))
    balanced_kept c e (at_second_wish r call h is) =
        subst (λ (x : Effect A B). Balanced (after w (waiting ma mb c w) x)) (sym is)
        (subst (λ (x : Call). Balanced (after w (waiting ma mb x w) (by_second w r))) (sym call)
        (λ n s. let t = wished mb w.second 1 n s w.count r h in let next = second_next w r.next n s in omega arith))
    balanced_kept c e (to_processor p small m r goes h is) =
        subst (λ (x : Effect A B). Balanced (after w (waiting ma mb c w) x)) (sym is) (after_message c p (omega arith) m r goes h)
    balanced_kept c e (to_home b small m r goes h is) =
        subst (λ (x : Effect A B). Balanced (after w (waiting ma mb c w) x)) (sym is) (after_home c b small m r goes h)
    balanced_kept c e (to_first m r goes h is) =
        subst (λ (x : Effect A B). Balanced (after w (waiting ma mb c w) x)) (sym is)
        (λ n s. let t = reached ma w.first 0 n s c m r goes h in let next = first_next w r.next n s in omega arith)
    balanced_kept c e (to_second m r goes h is) =
        subst (λ (x : Effect A B). Balanced (after w (waiting ma mb c w) x)) (sym is)
        (λ n s. let t = reached mb w.second 1 n s c m r goes h in let next = second_next w r.next n s in omega arith)

module _ {A B : Type 0} (ma : Meaning A) (mb : Meaning B) (k : Making A B) where
  -- at the making nobody has a number
  next_made : (n : ℕ) → next_number (make ma mb k) n ≡ 0
  next_made n = grind (arith, nat_tests)

  pub balanced_made : Balanced (make ma mb k)
  balanced_made n s =
      let done = count_none (done_as n s) in
      let carried = count_none (carries n s) in
      let served = none_counted (serves n s) (make ma mb k).homes (All-map (λ (h : Home ℕ). serves n s h ≡ false) (λ b. new_home k.clock (block_words k.words b)) (range_with_len 0 16)
      (all_from_nth (λ (b : ℕ). serves n s (new_home k.clock (block_words k.words b)) ≡ false) (range_with_len 0 16) (λ i b at. refl))) in
      let none = ap (λ (x : ℕ). indicator (ltb s x)) (next_made n) in
      let past = ap indicator (le-ltb s 0 (omega arith)) in
      omega arith
