-- Every call keeps the accounts: what is done, carried or served is what was issued under its number.
use Rattle.std.proofs.Common.{◌≡◌, ℕ, ◌<◌, ◌≤◌, ◌⊎◌, List, ◌++◌, get_or, set, Some, None, Option, sym, refl, ap, ◌∙◌, subst, inl, inr, arith}
use Rattle.bridge.specs.Inputs as bridge
use Rattle.bridge.specs.declared.state.Bridge.{Bridge}
use Rattle.device.specs.Meaning.{Meaning}
use Rattle.device.specs.declared.meaning.Wish.{Wish}
use Rattle.home.specs.Reactions.{received}
use Rattle.home.specs.declared.machine.Home.{Home}
use Rattle.message.specs.Messages.{no_message}
use Rattle.message.specs.Nodes.{device_node, home_node}
use Rattle.message.specs.Reactions.{sent}
use Rattle.message.specs.declared.message.Message.{Message}
use Rattle.message.specs.declared.reaction.Reaction.{Reaction}
use Rattle.ordering.specs.declared.order.Access.{Access}
use Rattle.processor.specs.Inputs as processor
use Rattle.processor.specs.declared.state.Processor.{Processor}
use Rattle.std.proofs.ByRecursion.{All-get_or}
use Rattle.std.proofs.lemmas.List.{get_or-set_other, get_or-set_same}
use Rattle.std.proofs.lemmas.Bool.{cases_eq}
use Rattle.std.proofs.lemmas.Option.{same_Some}
use Rattle.std.specs.Option.{option_map, option_to_list}
use Rattle.std.specs.List.{AllByRecursion as All}
use Rattle.trail.specs.declared.entry.Entry.{Entry}
use Rattle.coherence.proofs.Accounts.{Adds, Known, accounted_with, all_posted, homes_still, message_still}
use Rattle.coherence.proofs.AccountsBridges.{AsCame, AsWished, as_came, wished_so}
use Rattle.coherence.proofs.AccountsHomes.{HomeAccounts, HomeKnown, MessageKnown, home_accounts}
use Rattle.coherence.proofs.AccountsProcessors.{call_enters, call_keeps, call_posts, call_takes, entry_issue, message_enters, not_posted, own_access}
use Rattle.coherence.proofs.Arising.{never}
use Rattle.coherence.proofs.BalanceBridges as bridges
use Rattle.coherence.proofs.BalanceProcessors as processors
use Rattle.coherence.proofs.Carrying.{Accounted, carries, carried_access, entry_access, issued_as, next_number}
use Rattle.coherence.proofs.Clocks.{Shape}
use Rattle.coherence.proofs.Counting.{all_removed}
use Rattle.coherence.proofs.FormsBuilt.{refuses_requests}
use Rattle.coherence.proofs.Meeting.{Asks, Goes, Meets, at_call, at_first_wish, at_second_wish, to_processor, to_home, to_first, to_second}
use Rattle.coherence.proofs.Posting.{bridge_posts, posted, processor_posts}
use Rattle.coherence.proofs.Stepping.{after}
use Rattle.coherence.proofs.Timing.{came_so}
use Rattle.coherence.specs.Histories.{Issued, issues, wish_access}
use Rattle.coherence.specs.Promise.{Stands}
use Rattle.coherence.specs.Steps.{Effect, bridge_within, figures, by, by_processor, by_home, by_first, by_second, waiting}
use Rattle.coherence.specs.Worlds.{World, processor_at, home_at, with_processor, with_first, with_second, no_home}
use Rattle.coherence.specs.declared.call.Call.{Call}
use Rattle.coherence.specs.declared.call.Call.TheVariants.{Act}
use Rattle.coherence.proofs.NextNumbers.{call_issues, delivery_issues, first_onward, interrupt_place, none_issued, processor_new, processor_onward, processor_own, request_place, second_onward}
use Rattle.coherence.proofs.Standing.{stands_new, stands_some}

same_issue : (p q n k : ℕ) → n ≡ p → k ≡ q → (a c : Access) → c ≡ a → issued_as p q a ≡ issued_as n k c
same_issue p q n k party number a c same = rw (party, number, same) refl

-- what a bridge adds, once what came or was wished is known
module _ {S : Type 0} (m : Meaning S) (b : Bridge S ℕ) (d : ℕ) (K : Issued → Type 0) (r : Reaction (Bridge S ℕ)) (one : sent r.sent ≡ option_to_list (posted r.sent)) where
  wish_entry : (h : Wish) → AsWished m b d h r → K (issued_as (device_node d) b.sequence (wish_access d h)) → (x : Entry) → r.entry ≡ Some x → K (entry_issue x)
  wish_entry h so known x is = let e = so.entry x is in subst K (same_issue (device_node d) b.sequence x.party x.sequence e.1 e.2 (wish_access d h) (entry_access x) e.0) known

  wish_sends : (h : Wish) → AsWished m b d h r → K (issued_as (device_node d) b.sequence (wish_access d h)) → All (MessageKnown K) (sent r.sent)
  wish_sends h so known = all_posted (MessageKnown K) r.sent one (λ x posts n q carried.
      let e = so.sent x posts n q carried in subst K (same_issue (device_node d) b.sequence n q e.1 e.2 (wish_access d h) (carried_access x) e.0) known)

  came_entry : (x : Message ℕ) → AsCame m x r → MessageKnown K x → (y : Entry) → r.entry ≡ Some y → K (entry_issue y)
  came_entry x so known y is = let e = so.entry y is in subst (λ (a : Access). K (issued_as y.party y.sequence a)) (sym e.1) (known y.party y.sequence e.0)

  came_sends : (x : Message ℕ) → AsCame m x r → MessageKnown K x → All (MessageKnown K) (sent r.sent)
  came_sends x so known = all_posted (MessageKnown K) r.sent one (λ y posts n q carried.
      let e = so.sent y posts n q carried in subst (λ (a : Access). K (issued_as n q a)) (sym e.1) (known n q e.0))

module _ {A B : Type 0} (ma : Meaning A) (mb : Meaning B) (w : World A B) where
  module _ (shape : Shape w) (few : w.count ≤ 4) (issued : List Issued) (t : Accounted issued w) where
    -- the message that is delivered, and those that go on waiting
    came_known : (c : Call) (m : Message ℕ) (to : ℕ) → Goes ma mb w c m to → MessageKnown (Stands issued) m
    came_known c m to goes = subst (MessageKnown (Stands issued)) goes.is (All-get_or (MessageKnown (Stands issued)) w.messages goes.at no_message goes.there t.messages)

    rest_known : (c : Call) (m : Message ℕ) (to : ℕ) → Goes ma mb w c m to → All (MessageKnown (Stands issued)) (waiting ma mb c w)
    rest_known c m to goes =
        subst (λ (x : Call). All (MessageKnown (Stands issued)) (waiting ma mb x w)) (sym goes.call) (all_removed (MessageKnown (Stands issued)) w.messages goes.at t.messages)

    module _ (p : ℕ) (small : p < 4) (r : Reaction (Processor ℕ)) where
      abbrev s : Processor ℕ
      s = processor_at w p

      at_processor_call : (c : Call) (i : processor.Input) → Asks c p i → processor.message_of i ≡ None → processor.reaction s p i ≡ Some r → Adds issued (issues ma mb c w) w (by_processor w p r)
      at_processor_call c i asks own h = record {
        entry = λ x is.
            let e = call_enters s p i r h own x is in
            subst (λ (y : Issued). Known issued o w (by_processor w p r) y) (same_issue p s.sequence x.party x.sequence e.1 e.2 (entry_access x) (entry_access x) refl) (known (entry_access x) e.0);
        sends = all_posted (MessageKnown (Known issued o w (by_processor w p r))) r.sent (processor_posts s p i r h) (λ m posts n q carried.
            let e = call_posts s p i r h own m posts n q carried in
            subst (λ (y : Issued). Known issued o w (by_processor w p r) y) (same_issue p s.sequence n q e.1 e.2 (carried_access m) (carried_access m) refl) (known (carried_access m) e.0));
        homes = homes_still issued o w (by_processor w p r) t;
        onward = processor_onward w p small shape.processors r.next (up (own_access i) refl);
        takes = λ x is. taken (own_access i) refl x (sym (call_issues ma mb w c p i asks) ∙ is);
      }
        where
          o : Option Issued
          o = issues ma mb c w

          known : (a : Access) → own_access i ≡ Some a → Stands (issued ++ option_to_list o) (issued_as p s.sequence a)
          known a is = stands_new issued (option_to_list o) (issued_as p s.sequence a) (stands_some o _ (call_issues ma mb w c p i asks ∙ ap (option_map (issued_as p s.sequence)) is))

          up : (x : Option Access) → own_access i ≡ x → s.sequence ≤ r.next.sequence
          up None is = let same = call_keeps s p i r h is in omega arith
          up (Some a) is = let one = call_takes s p i r h own a is in omega arith

          taken : (y : Option Access) → own_access i ≡ y → (x : Issued) → option_map (issued_as p s.sequence) (own_access i) ≡ Some x
              → (x.sequence ≡ next_number w x.party) × (next_number w x.party < next_number (with_processor w p r.next) x.party)
          taken None is x has = never (let none = ap (option_map (issued_as p s.sequence)) is in cc)
          taken (Some a) is x has =
              let same : issued_as p s.sequence a ≡ x = same_Some _ x (sym (ap (option_map (issued_as p s.sequence)) is) ∙ has) in
              let one = call_takes s p i r h own a is in
              let old = processor_own w p small in
              let new = processor_new w p small shape.processors r.next in
              subst (λ (y : Issued). (y.sequence ≡ next_number w y.party) × (next_number w y.party < next_number (with_processor w p r.next) y.party)) same (sym old, omega arith)

      at_processor_message : (c : Call) (m : Message ℕ) → Goes ma mb w c m p → processor.reaction s p (processor.Receive m) ≡ Some r → Adds issued (issues ma mb c w) w (by_processor w p r)
      at_processor_message c m goes h = record {
        entry = λ x is.
            let e = message_enters s p (processor.Receive m) r h m refl (λ int. interrupt_place (figures ma mb w) m goes.well int ∙ goes.receiver) x is in
            subst (λ (a : Access). Known issued o w (by_processor w p r) (issued_as x.party x.sequence a)) (sym e.1) (came x.party x.sequence e.0);
        sends = all_posted (MessageKnown (Known issued o w (by_processor w p r))) r.sent (processor_posts s p (processor.Receive m) r h) (λ y posts n q carried.
            absurd (not_posted (carries n q) (posted r.sent) y (processors.sends_no_operation s p (processor.Receive m) r h m refl n q) posts carried));
        homes = homes_still issued o w (by_processor w p r) t;
        onward = processor_onward w p small shape.processors r.next (let same = processors.messages_keep_number s p (processor.Receive m) r h m refl in omega arith);
        takes = λ x is. absurd (none_issued o (delivery_issues ma mb w c m p goes) x is);
      }
        where
          o : Option Issued
          o = issues ma mb c w

          came : MessageKnown (Known issued o w (by_processor w p r)) m
          came = message_still issued o w (by_processor w p r) m (came_known c m p goes)

    at_home : (c : Call) (b : ℕ) → b < 16 → (m : Message ℕ) (r : Reaction (Home ℕ)) → Goes ma mb w c m (home_node b) → received (home_at w b) b m ≡ Some r
        → Adds issued (issues ma mb c w) w (by_home w b r)
    at_home c b small m r goes h = record {
      entry = accounts.entry;
      sends = accounts.sends;
      homes = λ j low. go j low (cases_eq j b);
      onward = λ n. omega arith;
      takes = λ x is. absurd (none_issued o (delivery_issues ma mb w c m (home_node b) goes) x is);
    }
      where
        o : Option Issued
        o = issues ma mb c w

        K : Issued → Type 0
        K = Known issued o w (by_home w b r)

        accounts : HomeAccounts K b r
        accounts =
            came_so (received (home_at w b) b m) (HomeAccounts K b) r h
            (home_accounts K b (home_at w b) m (message_still issued o w (by_home w b r) m (came_known c m (home_node b) goes)) (homes_still issued o w (by_home w b r) t b small)
            (request_place (figures ma mb w) m b goes.well goes.receiver))

        go : (j : ℕ) → j < 16 → (j ≡ b) ⊎ (j ≡ b → ⊥) → HomeKnown K j (get_or (set w.homes b r.next) j no_home)
        go j low (inl same) =
            subst (λ (n : ℕ). HomeKnown K n (get_or (set w.homes b r.next) n no_home)) (sym same)
            (subst (HomeKnown K b) (sym (get_or-set_same w.homes b r.next no_home (omega (arith, shape.homes)))) accounts.next)
        go j low (inr apart) = subst (HomeKnown K j) (sym (get_or-set_other w.homes b j r.next no_home apart)) (homes_still issued o w (by_home w b r) t j low)

    -- the numbers of a wish
    module _ {S : Type 0} (m : Meaning S) (b : Bridge S ℕ) (d : ℕ) (o : Option Issued) (own : o ≡ option_map (λ h. issued_as (device_node d) b.sequence (wish_access d h)) (m.wish b.device))
        (ps : ℕ) (r : Reaction (Bridge S ℕ)) (h : bridge.reaction m d b (bridge.Act ps) ≡ Some r) where
      wish_issued : o ≡ Some (issued_as (device_node d) b.sequence (wish_access d (wished_so m b d ps r h).0))
      wish_issued = own ∙ ap (option_map (λ h. issued_as (device_node d) b.sequence (wish_access d h))) (wished_so m b d ps r h).1

      wish_known : Stands (issued ++ option_to_list o) (issued_as (device_node d) b.sequence (wish_access d (wished_so m b d ps r h).0))
      wish_known = stands_new issued (option_to_list o) _ (stands_some o _ wish_issued)

      -- of the world after
      wish_takes : (v : World A B) → next_number w (device_node d) ≡ b.sequence → next_number v (device_node d) ≡ r.next.sequence → (x : Issued) → o ≡ Some x
          → (x.sequence ≡ next_number w x.party) × (next_number w x.party < next_number v x.party)
      wish_takes v old new x is =
          let same = same_Some _ x (sym wish_issued ∙ is) in
          let one = bridges.wishes_take_number m b d (bridge.Act ps) r h refl in
          subst (λ (y : Issued). (y.sequence ≡ next_number w y.party) × (next_number w y.party < next_number v y.party)) same (sym old, omega arith)

      wish_onward : b.sequence ≤ r.next.sequence
      wish_onward = let one = bridges.wishes_take_number m b d (bridge.Act ps) r h refl in omega arith

    -- Device d's bridge, and the world with its next state.
    record Bridged {S : Type 0} (d : ℕ) (b next : Bridge S ℕ) (v : World A B) : Type 0 where
      homes : v.homes ≡ w.homes
      onward : b.sequence ≤ next.sequence → (n : ℕ) → next_number w n ≤ next_number v n
      old : next_number w (device_node d) ≡ b.sequence
      new : next_number v (device_node d) ≡ next.sequence

    first_bridged : (x : Bridge A ℕ) → Bridged 0 w.first x (with_first w x)
    first_bridged x = record { homes = refl; onward = first_onward w x; old = refl; new = refl }

    second_bridged : (x : Bridge B ℕ) → Bridged 1 w.second x (with_second w x)
    second_bridged x = record { homes = refl; onward = second_onward w x; old = refl; new = refl }

    module _ {S : Type 0} (m : Meaning S) (b : Bridge S ℕ) (d : ℕ) (put : Bridge S ℕ → World A B)
        (bridged : (x : Bridge S ℕ) → Bridged d b x (put x)) (r : Reaction (Bridge S ℕ)) where
      abbrev e : Effect A B
      e = by (device_node d) bridge_within put r

      homes_known : (o : Option Issued) (j : ℕ) → j < 16 → HomeKnown (Known issued o w e) j (home_at (put r.next) j)
      homes_known o j low =
          subst (λ (hs : List (Home ℕ)). HomeKnown (Known issued o w e) j (get_or hs j no_home))
          (sym (bridged r.next).homes) (homes_still issued o w e t j low)

      at_wish : (o : Option Issued)
          → o ≡ option_map (λ h. issued_as (device_node d) b.sequence (wish_access d h)) (m.wish b.device)
          → (ps : ℕ) → bridge.reaction m d b (bridge.Act ps) ≡ Some r → Adds issued o w e
      at_wish o own ps h =
          let so = wished_so m b d ps r h in
          let one = bridge_posts m b d (bridge.Act ps) r h in
          let known = wish_known m b d o own ps r h in
          record {
            entry = wish_entry m b d (Known issued o w e) r one so.0 so.2 known;
            sends = wish_sends m b d (Known issued o w e) r one so.0 so.2 known;
            homes = homes_known o;
            onward = (bridged r.next).onward (wish_onward m b d o own ps r h);
            takes = wish_takes m b d o own ps r h (put r.next) (bridged r.next).old (bridged r.next).new;
          }

      at_receipt : (c : Call) (x : Message ℕ) → Goes ma mb w c x (device_node d)
          → bridge.reaction m d b (bridge.Receive x) ≡ Some r → Adds issued (issues ma mb c w) w e
      at_receipt c x goes h =
          let o = issues ma mb c w in
          let so = as_came m b d x r h goes.receiver (refuses_requests (figures ma mb w) x goes.well) in
          let one = bridge_posts m b d (bridge.Receive x) r h in
          let known = message_still issued o w e x (came_known c x (device_node d) goes) in
          let same = bridges.messages_keep_number m b d (bridge.Receive x) r h x refl in
          record {
            entry = came_entry m b d (Known issued o w e) r one x so known;
            sends = came_sends m b d (Known issued o w e) r one x so known;
            homes = homes_known o;
            onward = (bridged r.next).onward (omega arith);
            takes = λ y is. absurd (none_issued o (delivery_issues ma mb w c x (device_node d) goes) y is);
          }

    -- what every effect adds is accounted for
    pub effect_adds : (c : Call) (e : Effect A B) → Meets ma mb w c e → Adds issued (issues ma mb c w) w e
    effect_adds c e (at_call p small i r asks own ok rest h is) = subst (Adds issued (issues ma mb c w) w) (sym is) (at_processor_call p (omega arith) r c i asks own h)
    effect_adds c e (at_first_wish r call h is) =
        subst (Adds issued (issues ma mb c w) w) (sym is)
        (subst (λ (x : Call). Adds issued (issues ma mb x w) w (by_first w r)) (sym call)
        (at_wish ma w.first 0 (with_first w) first_bridged r (issues ma mb (Act 0) w) refl w.count h))
    effect_adds c e (at_second_wish r call h is) =
        subst (Adds issued (issues ma mb c w) w) (sym is)
        (subst (λ (x : Call). Adds issued (issues ma mb x w) w (by_second w r)) (sym call)
        (at_wish mb w.second 1 (with_second w) second_bridged r (issues ma mb (Act 1) w) refl w.count h))
    effect_adds c e (to_processor p small m r goes h is) = subst (Adds issued (issues ma mb c w) w) (sym is) (at_processor_message p (omega arith) r c m goes h)
    effect_adds c e (to_home b small m r goes h is) = subst (Adds issued (issues ma mb c w) w) (sym is) (at_home c b small m r goes h)
    effect_adds c e (to_first m r goes h is) =
        subst (Adds issued (issues ma mb c w) w) (sym is) (at_receipt ma w.first 0 (with_first w) first_bridged r c m goes h)
    effect_adds c e (to_second m r goes h is) =
        subst (Adds issued (issues ma mb c w) w) (sym is) (at_receipt mb w.second 1 (with_second w) second_bridged r c m goes h)

    -- what goes on waiting waited before
    pub still_known : (c : Call) (e : Effect A B) → Meets ma mb w c e → All (MessageKnown (Stands issued)) (waiting ma mb c w)
    still_known c e (at_call p small i r asks own ok rest h is) = subst (All (MessageKnown (Stands issued))) (sym rest) t.messages
    still_known c e (at_first_wish r call h is) = subst (λ (x : Call). All (MessageKnown (Stands issued)) (waiting ma mb x w)) (sym call) t.messages
    still_known c e (at_second_wish r call h is) = subst (λ (x : Call). All (MessageKnown (Stands issued)) (waiting ma mb x w)) (sym call) t.messages
    still_known c e (to_processor p small m r goes h is) = rest_known c m p goes
    still_known c e (to_home b small m r goes h is) = rest_known c m (home_node b) goes
    still_known c e (to_first m r goes h is) = rest_known c m (device_node 0) goes
    still_known c e (to_second m r goes h is) = rest_known c m (device_node 1) goes

    pub accounted_kept : (c : Call) (e : Effect A B) → Meets ma mb w c e → Accounted (issued ++ option_to_list (issues ma mb c w)) (after w (waiting ma mb c w) e)
    accounted_kept c e meets = accounted_with issued (issues ma mb c w) w e (waiting ma mb c w) (still_known c e meets) t (effect_adds c e meets)
