-- What effects at bridges do to the operations under way; and so every effect.
use Rattle.std.proofs.Common.{◌≡◌, ℕ, ◌<◌, ◌≤◌, Bool, true, ◌||◌, ◌⊎◌, List, get_or, Some, None, sym, refl, ap, ◌∙◌, subst, inl, inr, ⊎_elim, arith}
use Rattle.bridge.proofs.Clocks as bridge_clocks
use Rattle.bridge.specs.Inputs as bridge
use Rattle.bridge.specs.declared.state.Bridge.{Bridge}
use Rattle.device.specs.Meaning.{Meaning}
use Rattle.home.specs.Directories.{round_of}
use Rattle.home.specs.declared.machine.Home.{Home}
use Rattle.message.proofs.Soundness.{well_formed_are_sound}
use Rattle.message.specs.Kinds.{same_kind, is_request}
use Rattle.message.specs.Laws.{comes_from_home}
use Rattle.message.specs.Messages.{no_message}
use Rattle.message.specs.Nodes.{device_node, home_node, is_device}
use Rattle.message.specs.Reactions.{sent}
use Rattle.message.specs.Requests.{out}
use Rattle.message.specs.declared.figures.Figures.{Figures}
use Rattle.message.specs.declared.kind.Kind.{Kind}
use Rattle.message.specs.declared.kind.Kind.TheVariants as kind
use Rattle.message.specs.declared.message.Message.{Message}
use Rattle.message.specs.declared.reaction.Outbox.{Outbox}
use Rattle.message.specs.declared.reaction.Reaction.{Reaction}
use Rattle.message.specs.Requests.{Requests}
use Rattle.ordering.specs.Operations.{is}
use Rattle.ordering.specs.declared.stamp.Stamp.{Stamp}
use Rattle.processor.specs.Inputs as processor
use Rattle.processor.specs.Slots.{slot_at}
use Rattle.processor.specs.declared.slot.Slot.TheVariants.{Came}
use Rattle.processor.specs.declared.state.Processor.{Processor}
use Rattle.std.proofs.lemmas.Option.{slice_get-get_or}
use Rattle.std.proofs.lemmas.Bool.{cases_eq, cases_Bool, both_ways, le-ltb, lt-ltb}
use Rattle.std.proofs.lemmas.Bool.Decides.{nat_tests}
use Rattle.trail.specs.declared.entry.Entry.{Entry}
use Rattle.coherence.proofs.Carrying.{carries, serves, carried_access, served_access, next_number}
use Rattle.coherence.proofs.Clocks.{Shape}
use Rattle.coherence.proofs.Errands.{Errands, Sent, wished, goes_on, Does, on_own, delivered, Carrier, in_message, in_home, Brings}
use Rattle.coherence.proofs.ErrandsBridges.{bridge_posts, wish_starts, wish_interrupts, wish_requests, wish_values, wish_does, wish_outs, goes_again, value_entered, value_done, receipt_does, receipt_outs, receipt_outs_at, reply_passed, reply_alone}
use Rattle.coherence.proofs.ErrandsAtHomes.{at_homes}
use Rattle.coherence.proofs.ErrandsAtProcessors.{Comes, pairs_one, posted_one, at_calls, at_messages}
use Rattle.coherence.proofs.Posting.{posted}
use Rattle.coherence.proofs.FormsBuilt.{refuses_requests}
use Rattle.coherence.proofs.Meeting.{Goes, Meets, at_call, at_first_wish, at_second_wish, to_processor, to_home, to_first, to_second}
use Rattle.coherence.proofs.Orderly.{Follows, now, requests_at, Tracked}
use Rattle.coherence.proofs.Rising.{Pairs}
use Rattle.coherence.proofs.Settling.{device_named}
use Rattle.coherence.proofs.Slots.{awaits}
use Rattle.coherence.proofs.Standing.{some_there, stands_all}
use Rattle.coherence.proofs.Tally.{crosses}
use Rattle.coherence.specs.Promise.{Stands}
use Rattle.coherence.specs.Steps.{Effect, figures, by_first, by_second}
use Rattle.coherence.specs.Worlds.{World, home_at, no_processor, no_home}
use Rattle.coherence.specs.declared.call.Call.{Call}

rio_number : (p q : ℕ) (m : Message ℕ) (n s : ℕ) → crosses 7 p q m ≡ true → carries n s m ≡ true → s ≡ m.sequence
rio_number p q m n s rio c = grind (arith, nat_tests)

-- How an effect at device d's node shows in the world: the bridge's reaction, and nothing else of it changed.
module _ {A B : Type 0} (w : World A B) where
  record Reacts {S : Type 0} (d : ℕ) (b : Bridge S ℕ) (r : Reaction (Bridge S ℕ)) (e : Effect A B) : Type 0 where
    two : d < 2
    requests : requests_at w d ≡ b.requests
    clock : now w (device_node d) ≡ b.clock.global
    number : next_number w (device_node d) ≡ b.sequence
    sends : e.sent ≡ r.sent
    does : e.entry ≡ r.entry
    homes : e.next.homes ≡ w.homes
    processors : e.next.processors ≡ w.processors
    clock_after : now e.next (device_node d) ≡ r.next.clock.global
    requests_after : requests_at e.next d ≡ r.next.requests
    others : (j : ℕ) → j < 2 → (j ≡ d → ⊥) → requests_at e.next j ≡ requests_at w j

  module _ {S : Type 0} (m : Meaning S) (d : ℕ) (b : Bridge S ℕ) (i : bridge.Input) (r : Reaction (Bridge S ℕ)) (h : bridge.reaction m d b i ≡ Some r) (e : Effect A B) (shows : Reacts d b r e) where
    posts : (y : Message ℕ) → Stands (sent e.sent) y → posted r.sent ≡ Some y
    posts y there = posted_one (sent r.sent) (posted r.sent) y (bridge_posts m b d i r h) (subst (λ (o : Outbox). Stands (sent o) y) shows.sends there)

    same_homes : (j n s : ℕ) → j < 16 → serves n s (home_at e.next j) ≡ true → Carrier w n s (round_of (home_at e.next j).directory).request.clock (served_access j (home_at e.next j))
    same_homes j n s low =
        subst (λ (l : List (Home ℕ)). serves n s (get_or l j no_home) ≡ true → Carrier w n s (round_of (get_or l j no_home).directory).request.clock (served_access j (get_or l j no_home)))
        (sym shows.homes) (λ c. in_home j low c refl refl)

    outs_of : (Passes : ℕ → Type 0) → ((k : ℕ) → out r.next.requests k ≡ None → (out b.requests k ≡ None) ⊎ Passes k)
        → ((k : ℕ) → Passes k → (now w (home_node k) < r.next.clock.global) × (r.entry ≡ None))
        → (j k : ℕ) → j < 2 → out (requests_at e.next j) k ≡ None → (out (requests_at w j) k ≡ None) ⊎ ((now w (home_node k) < now e.next (device_node j)) × (e.entry ≡ None))
    outs_of Passes rests passes j k low none = grind (arith, nat_tests)

    module _ (starts : (y : Message ℕ) → posted r.sent ≡ Some y → (n s : ℕ) → carries n s y ≡ true → Sent w n s y)
        (does : (x : Entry) → r.entry ≡ Some x → Does w x)
        (values : (p j : ℕ) → (y : Message ℕ) → posted r.sent ≡ Some y → crosses 18 (device_node j) p y ≡ true → Brings w e p j y)
        (outs : (j k : ℕ) → j < 2 → out (requests_at e.next j) k ≡ None → (out (requests_at w j) k ≡ None) ⊎ ((now w (home_node k) < now e.next (device_node j)) × (e.entry ≡ None))) where
      by_bridges : Errands w e
      by_bridges = record {
        sends = λ y there. starts y (posts y there);
        together = subst (λ (o : Outbox). Pairs Follows (sent o)) (sym shows.sends) (subst (λ (l : List (Message ℕ)). Pairs Follows l) (sym (bridge_posts m b d i r h)) (pairs_one Follows (posted r.sent)));
        homes = same_homes;
        does = λ x is. does x (sym shows.does ∙ is);
        values = λ p j low two y there. values p j y (posts y there);
        slots = λ p j low two none. inl (subst (λ (l : List (Processor ℕ)). awaits (get_or l p no_processor) j ≡ 0) shows.processors none);
        came = λ p j v low two is. inl (subst (λ (l : List (Processor ℕ)). slot_at (get_or l p no_processor).slots j ≡ Came v) shows.processors is);
        outs = λ j k two low none. outs j k two none;
      }

  module _ {S : Type 0} (m : Meaning S) (d : ℕ) (b : Bridge S ℕ) (r : Reaction (Bridge S ℕ)) (e : Effect A B) (shows : Reacts d b r e) where
    at_wish : (ps : ℕ) → bridge.reaction m d b (bridge.Act ps) ≡ Some r → Errands w e
    at_wish ps h =
        by_bridges m d b (bridge.Act ps) r h e shows
        (λ y post n s c.
        let x = wish_starts m b d ps r h y post n s c in
        let free = λ (k : ℕ). λ (none : out b.requests k ≡ None). subst (λ (q : Requests). out q k ≡ None) (sym shows.requests) none in
        wished d shows.two x.0
        (x.1 ∙ sym (ap (next_number w) x.0 ∙ shows.number))
        (x.2 ∙ sym (ap (now w) x.0 ∙ shows.clock))
        (λ int k. free k (wish_interrupts m b d ps r h y post int k))
        (λ other. let q = wish_requests m b d ps r h y post other in (q.0, q.1, free (carried_access y).place q.2)))
        (λ x does.
        let k = wish_does m b d ps r h x does in
        on_own (subst (λ (n : ℕ). is_device n ≡ true) (sym k.0) (device_named d shows.two)) k.1 (omega (arith, k.0, k.2)))
        (λ p j y post value. absurd (both_ways (crosses 18 (device_node j) p y) (wish_values m b d ps r h y post (device_node j) p) value))
        (outs_of m d b (bridge.Act ps) r h e shows (λ _. ⊥) (λ k none. inl (wish_outs m b d ps r h k none)) (λ k no_way. absurd no_way))

    module _ (f : Figures) (tracked : Tracked w) (x : Message ℕ) (comes : Comes w f x (device_node d)) (h : bridge.reaction m d b (bridge.Receive x) ≡ Some r) where
      refuses : (k : Kind) → x.refused ≡ Some k → is_request k ≡ true
      refuses = refuses_requests f x comes.well

      brings : (p j : ℕ) (y : Message ℕ) → posted r.sent ≡ Some y → crosses 18 (device_node j) p y ≡ true → Brings w e p j y
      brings p j y post value =
          let done = value_done m b d x r h comes.receiver refuses y post (device_node j) p value in
          let o = some_there r.entry done.0 in
          let v = value_entered m b d x r h comes.receiver refuses y post (device_node j) p value o.0 o.1 in
          let k = receipt_does m b d x r h comes.receiver refuses o.0 o.1 in
          let stamp = ((bridge_clocks.entries_are_stamped m).stamps b d (bridge.Receive x) r h o.0 o.1).0 in
          record {
            entry = o.0;
            does = shows.does ∙ o.1;
            by = v.1;
            node = ap (λ (z : Stamp). z.node) stamp ∙ sym v.0;
            clock = v.2;
            words = v.3;
            asked = x;
            stands = (comes.at, comes.there);
            rio = done.1;
            number = rio_number p (device_node j) x o.0.party o.0.sequence done.1 k.0;
          }

      abbrev is_reply : Bool
      is_reply = same_kind x.kind kind.Words || same_kind x.kind kind.Done

      outs_here : (k : ℕ) → out r.next.requests k ≡ None → (out b.requests k ≡ None) ⊎ ((k ≡ x.place) × (is_reply ≡ true))
      outs_here k none =
          ⊎_elim
          (λ reply. ⊎_elim (λ same. inr (same, reply)) (λ apart. inl (receipt_outs_at m b d x r h comes.receiver refuses k none apart)) (cases_eq k x.place))
          (λ other. inl (receipt_outs m b d x r h comes.receiver refuses k none other))
          (cases_Bool is_reply)

      passes : (k : ℕ) → (k ≡ x.place) × (is_reply ≡ true) → (now w (home_node k) < r.next.clock.global) × (r.entry ≡ None)
      passes k reply =
          let there : x.clock ≡ now w x.sender = stands_all _ w.messages x tracked.replied (comes.at, comes.there) reply.1 in
          let from : x.sender ≡ home_node x.place = (well_formed_are_sound f x comes.well).sender (from_home x.kind reply.1) in
          let passed = reply_passed m b d x r h comes.receiver refuses reply.1 in
          let same : now w (home_node k) ≡ x.clock = ap (λ (n : ℕ). now w (home_node n)) reply.0 ∙ sym (there ∙ ap (now w) from) in
          (omega arith, reply_alone m b d x r h comes.receiver refuses reply.1)
        where
          from_home : (k : Kind) → (same_kind k kind.Words || same_kind k kind.Done) ≡ true → comes_from_home k ≡ true
          from_home k reply = grind (arith, nat_tests)

      at_receipt : Errands w e
      at_receipt =
          by_bridges m d b (bridge.Receive x) r h e shows
          (λ y post n s c.
          let k = goes_again m b d x r h comes.receiver refuses y post n s c in
          goes_on x.clock (in_message x (comes.at, comes.there) k.0 refl k.1) k.4 (inr (k.2 ∙ sym (ap (now w) k.3 ∙ shows.clock))))
          (λ z does. let k = receipt_does m b d x r h comes.receiver refuses z does in delivered comes.at x comes.there comes.turn k.0 k.1 k.2)
          brings
          (outs_of m d b (bridge.Receive x) r h e shows (λ k. (k ≡ x.place) × (is_reply ≡ true)) outs_here passes)

  first_shows : (r : Reaction (Bridge A ℕ)) → Reacts 0 w.first r (by_first w r)
  first_shows r = record {
    two = omega arith;
    requests = refl;
    clock = refl;
    number = refl;
    sends = refl;
    does = refl;
    homes = refl;
    processors = refl;
    clock_after = refl;
    requests_after = refl;
    others = λ j low apart. rw (le-ltb j 1 (omega arith), requests_at) refl;
  }

  second_shows : (r : Reaction (Bridge B ℕ)) → Reacts 1 w.second r (by_second w r)
  second_shows r = record {
    two = omega arith;
    requests = refl;
    clock = refl;
    number = refl;
    sends = refl;
    does = refl;
    homes = refl;
    processors = refl;
    clock_after = refl;
    requests_after = refl;
    others = λ j low apart. rw (lt-ltb j 1 (omega arith), requests_at) refl;
  }

  module _ (ma : Meaning A) (mb : Meaning B) (shape : Shape w) (few : w.count ≤ 4) (tracked : Tracked w) where
    comes_by : (c : Call) (m : Message ℕ) (to : ℕ) → Goes ma mb w c m to → Comes w (figures ma mb w) m to
    comes_by c m to goes = record {
      at = goes.at;
      there = slice_get-get_or w.messages goes.at no_message goes.there ∙ ap Some goes.is;
      turn = goes.turn;
      well = goes.well;
      receiver = goes.receiver;
    }

    pub errands : (c : Call) (e : Effect A B) → Meets ma mb w c e → Errands w e
    errands c e (at_call p small i r asks own ok rest h is) = subst (Errands w) (sym is) (at_calls w shape p (omega arith) i r h own)
    errands c e (at_first_wish r asks h is) = subst (Errands w) (sym is) (at_wish ma 0 w.first r (by_first w r) (first_shows r) w.count h)
    errands c e (at_second_wish r asks h is) = subst (Errands w) (sym is) (at_wish mb 1 w.second r (by_second w r) (second_shows r) w.count h)
    errands c e (to_processor p small m r goes h is) = subst (Errands w) (sym is) (at_messages w shape p (omega arith) (processor.Receive m) r h (figures ma mb w) m refl (comes_by c m p goes))
    errands c e (to_home b small m r goes h is) = subst (Errands w) (sym is) (at_homes w shape (figures ma mb w) b small m r (comes_by c m (home_node b) goes) h)
    errands c e (to_first m r goes h is) =
        subst (Errands w) (sym is) (at_receipt ma 0 w.first r (by_first w r) (first_shows r) (figures ma mb w) tracked m (comes_by c m (device_node 0) goes) h)
    errands c e (to_second m r goes h is) =
        subst (Errands w) (sym is) (at_receipt mb 1 w.second r (by_second w r) (second_shows r) (figures ma mb w) tracked m (comes_by c m (device_node 1) goes) h)
