-- What each reaction of a bridge does to the operations under way, and to the requests that are out.
use Rattle.std.proofs.Common.{◌≡◌, ℕ, ◌+◌, ◌-◌, ◌<◌, Bool, true, false, ◌||◌, is_some, Some, None, Option, sym, refl, ap, ◌∙◌, subst, arith}
use Rattle.bridge.proofs.Outs.{none_out}
use Rattle.message.proofs.Tables.{put_read}
use Rattle.std.specs.List.{list_any}
use Rattle.bridge.specs.Deeds.{performed}
use Rattle.bridge.specs.Inputs.{Act, Receive, reaction, EachReaction}
use Rattle.bridge.specs.Receipts.{receive_kind}
use Rattle.bridge.specs.declared.plan.Plan.{Plan}
use Rattle.bridge.specs.declared.state.Bridge.{Bridge}
use Rattle.device.specs.Meaning.{Meaning}
use Rattle.message.proofs.Numbering.{numbers_tell_kinds}
use Rattle.message.specs.Kinds.{kind_number, same_kind, is_request}
use Rattle.message.specs.Nodes.{device_node}
use Rattle.message.specs.Reactions.{sent}
use Rattle.message.specs.Requests.{out}
use Rattle.message.specs.declared.kind.Kind.{Kind}
use Rattle.message.specs.declared.kind.Kind.TheVariants as kind
use Rattle.message.specs.declared.message.Message.{Message}
use Rattle.message.specs.declared.reaction.Reaction.{Reaction}
use Rattle.ordering.specs.Operations.{is, is_block}
use Rattle.ordering.specs.Orders.{is_io}
use Rattle.ordering.specs.declared.operation.Operation.TheVariants.{LdIo, StIo, Int}
use Rattle.std.proofs.lemmas.Bool.{and_from, eq-eqb}
use Rattle.std.proofs.lemmas.Bool.Decides.{nat_tests}
use Rattle.std.specs.Option.{option_to_list}
use Rattle.trail.specs.declared.entry.Entry.{Entry}
use Rattle.coherence.proofs.Carrying.{is_errand, is_block_request, carries, block_access, carried_access, entry_access}
use Rattle.coherence.proofs.ErrandsProcessors.{carries_errand}
use Rattle.coherence.proofs.FormsBuilt.{no_nack}
use Rattle.coherence.proofs.Posting.{posted}
use Rattle.coherence.proofs.Tally.{crosses}
use Rattle.coherence.specs.Histories.{access}

module _ {S : Type 0} (m : Meaning S) where
  pub bridge_posts : EachReaction m (λ b d i r. sent r.sent ≡ option_to_list (posted r.sent))
  bridge_posts b d i r h = grind (arith, nat_tests)

  -- at a wish
  module _ (b : Bridge S ℕ) (d ps : ℕ) (r : Reaction (Bridge S ℕ)) (h : reaction m d b (Act ps) ≡ Some r) where
    module _ (y : Message ℕ) (post : posted r.sent ≡ Some y) where
      gives_nothing_back : same_kind y.kind kind.Nack ≡ false
      gives_nothing_back = grind (arith, nat_tests)

      errands : (y.sender ≡ device_node d) × (y.sequence ≡ b.sequence) × (y.clock ≡ b.clock.global)
      errands = (grind (arith, nat_tests), grind (arith, nat_tests), grind (arith, nat_tests))

      wish_kinds : ((is_block_request y.kind) || same_kind y.kind kind.Int) ≡ true
      wish_kinds = grind (arith, nat_tests)

      interrupts_alone : same_kind y.kind kind.Int ≡ true → (k : ℕ) → out b.requests k ≡ None
      interrupts_alone int k =
          let free = λ (f : list_any is_some b.requests.at ≡ false). none_out b.requests.at f k in
          grind (arith, nat_tests, free)

      blocks_alone : is_block_request y.kind ≡ true → (y.place < 16) × (out b.requests y.place ≡ None)
      blocks_alone block = (grind (arith, nat_tests), grind (arith, nat_tests))

      errand : (n s : ℕ) → carries n s y ≡ true → (n ≡ device_node d) × (s ≡ b.sequence)
      errand n s c =
          let e = carries_errand n s y gives_nothing_back c in
          (sym e.1 ∙ errands.0, sym e.2 ∙ errands.1)

      -- what goes out has the device's clock and next number: an INT while nothing is out, a request while its block is not
      pub wish_starts : (n s : ℕ) → carries n s y ≡ true → (n ≡ device_node d) × (s ≡ b.sequence) × (y.clock ≡ b.clock.global)
      wish_starts n s c = let e = errand n s c in (e.0, e.1, errands.2)

      pub wish_interrupts : is Int (carried_access y).operation ≡ true → (k : ℕ) → out b.requests k ≡ None
      wish_interrupts int = interrupts_alone (kind_of y gives_nothing_back int)
        where
          kind_of : (y : Message ℕ) → same_kind y.kind kind.Nack ≡ false → is Int (carried_access y).operation ≡ true → same_kind y.kind kind.Int ≡ true
          kind_of y other int = grind (arith, nat_tests)

      pub wish_requests : is Int (carried_access y).operation ≡ false
          → (is_block (carried_access y).operation ≡ true) × ((carried_access y).place < 16) × (out b.requests (carried_access y).place ≡ None)
      wish_requests other =
          let block = kind_of y gives_nothing_back wish_kinds other in
          let free = blocks_alone block in
          (is_it y gives_nothing_back block, subst (λ (k : ℕ). k < 16) (sym (place_of y gives_nothing_back)) free.0, subst (λ (k : ℕ). out b.requests k ≡ None) (sym (place_of y gives_nothing_back)) free.1)
        where
          kind_of : (y : Message ℕ) → same_kind y.kind kind.Nack ≡ false → (is_block_request y.kind || same_kind y.kind kind.Int) ≡ true → is Int (carried_access y).operation ≡ false → is_block_request y.kind ≡ true
          kind_of y other kinds int = grind (arith, nat_tests)

          is_it : (y : Message ℕ) → same_kind y.kind kind.Nack ≡ false → is_block_request y.kind ≡ true → is_block (carried_access y).operation ≡ true
          is_it y other block = grind (arith, nat_tests)

          place_of : (y : Message ℕ) → same_kind y.kind kind.Nack ≡ false → (carried_access y).place ≡ y.place
          place_of y other = grind (arith, nat_tests)

      pub wish_values : (p q : ℕ) → crosses 18 p q y ≡ false
      wish_values p q = grind (arith, nat_tests)

    pub wish_does : (x : Entry) → r.entry ≡ Some x → (x.party ≡ device_node d) × (is_io x.operation ≡ true) × (x.space ≡ 1 + d)
    wish_does x does = (grind (arith, nat_tests), grind (arith, nat_tests), grind (arith, nat_tests))

    pub wish_outs : (k : ℕ) → out r.next.requests k ≡ None → out b.requests k ≡ None
    wish_outs k none = let put = λ (x : Option Kind) (j : ℕ). put_read b.requests.at j k x None in grind (arith, nat_tests, put)

  -- at a message
  module _ (b : Bridge S ℕ) (d : ℕ) (x : Message ℕ) (r : Reaction (Bridge S ℕ)) (h : reaction m d b (Receive x) ≡ Some r) (to : x.receiver ≡ device_node d)
      (refuses : (k : Kind) → x.refused ≡ Some k → is_request k ≡ true) where
    abbrev performing : Option (Plan ℕ) → Option (Reaction (Bridge S ℕ))
    performing o = elim o [ Some p ↦ Some (performed m d b p) | None ↦ None ]

    at_kind : (k : Kind) → x.kind ≡ k → performing (receive_kind k m d b x) ≡ Some r
    at_kind k is_kind = subst (λ (j : Kind). performing (receive_kind j m d b x) ≡ Some r) is_kind h

    module _ (y : Message ℕ) (post : posted r.sent ≡ Some y) where
      only_nacks : (n s : ℕ) → carries n s y ≡ true → same_kind x.kind kind.Nack ≡ true
      only_nacks n s c = grind (arith, nat_tests)

      refused_one : same_kind x.kind kind.Nack ≡ true → (o : Option Kind) → x.refused ≡ o → x.refused ≡ Some y.kind
      refused_one nack None back = absurd (nothing_sent nack back)
        where
          nothing_sent : same_kind x.kind kind.Nack ≡ true → x.refused ≡ None → ⊥
          nothing_sent nack back = grind (arith, nat_tests)
      refused_one nack (Some k) back = back ∙ ap Some (sym same)
        where
          number : kind_number y.kind ≡ kind_number k
          number = grind (arith, nat_tests)

          same : y.kind ≡ k
          same = numbers_tell_kinds y.kind k (eq-eqb (kind_number y.kind) (kind_number k) number)

      resent : same_kind x.kind kind.Nack ≡ true → (y.sender ≡ device_node d) × (y.sequence ≡ x.sequence) × (y.place ≡ x.place) × (y.clock ≡ b.clock.global)
      resent nack = (grind (arith, nat_tests), grind (arith, nat_tests), grind (arith, nat_tests), grind (arith, nat_tests))

      -- a request that came back goes out again, with the clock as it stands now
      pub goes_again : (n s : ℕ) → carries n s y ≡ true
          → (carries n s x ≡ true) × (carried_access x ≡ carried_access y) × (y.clock ≡ b.clock.global) × (n ≡ device_node d) × (is_block (carried_access y).operation ≡ true)
      goes_again n s c =
          let nack = only_nacks n s c in
          let again = resent nack in
          let back = refused_one nack x.refused refl in
          let asks = refuses y.kind back in
          let e = carries_errand n s y (no_nack y.kind asks) c in
          let block = errand_block y.kind asks e.0 in
          (carried nack back block (omega (arith, e.2, again.1)) (omega (arith, e.1, again.0)), same_access nack back asks block again.2, again.3, sym e.1 ∙ again.0, is_it y asks block)
        where
          errand_block : (k : Kind) → is_request k ≡ true → is_errand k ≡ true → is_block_request k ≡ true
          errand_block k asks errand = grind (arith, nat_tests)

          is_it : (z : Message ℕ) → is_request z.kind ≡ true → is_block_request z.kind ≡ true → is_block (carried_access z).operation ≡ true
          is_it z asks block = grind (arith, nat_tests)

          carried : same_kind x.kind kind.Nack ≡ true → x.refused ≡ Some y.kind → is_block_request y.kind ≡ true → x.sequence ≡ s → n ≡ device_node d → carries n s x ≡ true
          carried nack back block number own =
              rw (nack, back, eq-eqb x.sequence s number, eq-eqb x.receiver n (to ∙ sym own)) (and_from (is_block_request y.kind) true block refl)

          same_access : same_kind x.kind kind.Nack ≡ true → x.refused ≡ Some y.kind → is_request y.kind ≡ true → is_block_request y.kind ≡ true → y.place ≡ x.place → carried_access x ≡ carried_access y
          same_access nack back asks block place =
              let there : carried_access y ≡ block_access y.kind y.place = as_block y asks block in
              rw (nack, back) (ap (block_access y.kind) (sym place) ∙ sym there)
            where
              as_block : (z : Message ℕ) → is_request z.kind ≡ true → is_block_request z.kind ≡ true → carried_access z ≡ block_access z.kind z.place
              as_block z asks block = grind (arith, nat_tests)

      -- VALUE brings what the entry of its LDio has
      pub value_entered : (p q : ℕ) → crosses 18 p q y ≡ true → (e : Entry) → r.entry ≡ Some e
          → (p ≡ device_node d) × (e.party ≡ q) × (y.clock ≡ e.stamp.global) × (y.words ≡ e.values)
      value_entered p q value e does = (grind (arith, nat_tests), grind (arith, nat_tests), grind (arith, nat_tests), grind (arith, nat_tests))

      pub value_done : (p q : ℕ) → crosses 18 p q y ≡ true → (is_some r.entry ≡ true) × (crosses 7 q p x ≡ true)
      value_done p q value = (grind (arith, nat_tests), grind (arith, nat_tests))

    -- what is done was carried by the message
    pub receipt_does : (e : Entry) → r.entry ≡ Some e
        → (carries e.party e.sequence x ≡ true) × (carried_access x ≡ entry_access e) × (x.clock < e.stamp.global)
    receipt_does e does =
        (grind (arith, nat_tests), by_kind (same_kind x.kind kind.Rio) refl, grind (arith, nat_tests))
      where
        own : x.receiver - 3 ≡ 1 + d
        own = omega arith

        by_kind : (z : Bool) → same_kind x.kind kind.Rio ≡ z → carried_access x ≡ entry_access e
        by_kind true rio = carried ∙ ap (λ (n : ℕ). access LdIo n x.place) own ∙ sym (read (at_kind kind.Rio (numbers_tell_kinds x.kind kind.Rio rio)))
          where
            carried : carried_access x ≡ access LdIo (x.receiver - 3) x.place
            carried = grind (arith, nat_tests)

            read : performing (receive_kind kind.Rio m d b x) ≡ Some r → entry_access e ≡ access LdIo (1 + d) x.place
            read h = grind (arith, nat_tests)
        by_kind false other =
            let wio : same_kind x.kind kind.Wio ≡ true = grind (arith, nat_tests) in
            carried wio ∙ ap (λ (n : ℕ). access StIo n x.place) own ∙ sym (written (at_kind kind.Wio (numbers_tell_kinds x.kind kind.Wio wio)))
          where
            carried : same_kind x.kind kind.Wio ≡ true → carried_access x ≡ access StIo (x.receiver - 3) x.place
            carried wio = grind (arith, nat_tests)

            written : performing (receive_kind kind.Wio m d b x) ≡ Some r → entry_access e ≡ access StIo (1 + d) x.place
            written h = grind (arith, nat_tests)

    -- WORDS and DONE end a request, and their clock is passed
    pub receipt_outs : (k : ℕ) → out r.next.requests k ≡ None → (same_kind x.kind kind.Words || same_kind x.kind kind.Done) ≡ false → out b.requests k ≡ None
    receipt_outs k none other = let put = λ (z : Option Kind) (j : ℕ). put_read b.requests.at j k z None in grind (arith, nat_tests, put)

    pub receipt_outs_at : (k : ℕ) → out r.next.requests k ≡ None → (k ≡ x.place → ⊥) → out b.requests k ≡ None
    receipt_outs_at k none other = let put = λ (z : Option Kind) (j : ℕ). put_read b.requests.at j k z None in grind (arith, nat_tests, put)

    pub reply_passed : (same_kind x.kind kind.Words || same_kind x.kind kind.Done) ≡ true → x.clock < r.next.clock.global
    reply_passed reply = grind (arith, nat_tests)

    pub reply_alone : (same_kind x.kind kind.Words || same_kind x.kind kind.Done) ≡ true → r.entry ≡ None
    reply_alone reply = grind (arith, nat_tests)
