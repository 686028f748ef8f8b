-- What a bridge does and sends has the access that was issued under its number: its device's at a wish, and what came at
-- a message.
use Rattle.std.proofs.Common.{◌≡◌, ℕ, Bool, true, false, cond, ◌&&◌, eqb, Some, None, Option, sym, refl, ap, ◌∙◌, subst, arith}
use Rattle.bridge.specs.Deeds.{performed}
use Rattle.bridge.specs.Inputs.{Act, Receive, reaction}
use Rattle.bridge.specs.Receipts.{again, answering, receive_kind}
use Rattle.bridge.specs.declared.plan.Deed.TheVariants.{Resend}
use Rattle.bridge.specs.declared.state.Bridge.{Bridge}
use Rattle.device.specs.Meaning.{Meaning}
use Rattle.device.specs.declared.meaning.Wish.{Wish}
use Rattle.message.specs.Kinds.{is_request}
use Rattle.message.specs.Messages.{plain}
use Rattle.message.specs.Nodes.{device_node}
use Rattle.message.specs.Requests.{is_out}
use Rattle.message.specs.declared.kind.Kind.{Kind}
use Rattle.message.specs.declared.kind.Kind.TheVariants as kind
use Rattle.message.specs.declared.message.Message.{Message}
use Rattle.message.specs.declared.reaction.Reaction.{Reaction}
use Rattle.std.proofs.lemmas.Bool.{both_ways}
use Rattle.std.proofs.lemmas.Bool.Decides.{nat_tests}
use Rattle.std.proofs.lemmas.Option.{same_Some}
use Rattle.trail.specs.declared.entry.Entry.{Entry}
use Rattle.coherence.proofs.Arising.{never}
use Rattle.coherence.proofs.BalanceBridges.{known}
use Rattle.coherence.proofs.Carrying.{block_access, carries, carried_access, entry_access, is_block_request}
use Rattle.coherence.proofs.Posting.{posted}
use Rattle.coherence.specs.Histories.{wish_access}

module _ {S : Type 0} (m : Meaning S) where
  -- What a device's wish comes to has the wish's access, the device's party and its number.
  pub record AsWished (b : Bridge S ℕ) (d : ℕ) (h : Wish) (r : Reaction (Bridge S ℕ)) : Type 0 where
    pub entry : (e : Entry) → r.entry ≡ Some e → (entry_access e ≡ wish_access d h) × (e.party ≡ device_node d) × (e.sequence ≡ b.sequence)
    pub sent : (x : Message ℕ) → posted r.sent ≡ Some x → (n q : ℕ) → carries n q x ≡ true → (carried_access x ≡ wish_access d h) × (n ≡ device_node d) × (q ≡ b.sequence)

  pub wished_so : (b : Bridge S ℕ) (d ps : ℕ) (r : Reaction (Bridge S ℕ)) → reaction m d b (Act ps) ≡ Some r → (h : Wish) × (m.wish b.device ≡ Some h) × AsWished b d h r
  wished_so b d ps r is = grind (arith, nat_tests)

  -- What comes of a message that carries an operation is that operation.
  pub record AsCame (x : Message ℕ) (r : Reaction (Bridge S ℕ)) : Type 0 where
    pub entry : (e : Entry) → r.entry ≡ Some e → (carries e.party e.sequence x ≡ true) × (entry_access e ≡ carried_access x)
    pub sent : (y : Message ℕ) → posted r.sent ≡ Some y → (n q : ℕ) → carries n q y ≡ true → (carries n q x ≡ true) × (carried_access y ≡ carried_access x)

  again_carries : (k : Kind) (b : Bridge S ℕ) (d : ℕ) (x : Message ℕ) → is_request k ≡ true → (n q : ℕ) → carries n q (again k d b x) ≡ true
      → ((eqb x.sequence q && (is_block_request k && eqb (device_node d) n)) ≡ true) × (carried_access (again k d b x) ≡ block_access k x.place)
  again_carries k b d x asks n q carried = grind (arith, nat_tests)

  -- TAKEN carries nothing
  taken_idle : (n q a h p : ℕ) → carries n q (plain kind.Taken a h p) ≡ false
  taken_idle n q a h p = grind (arith, nat_tests)

  done_sends : (b : Bridge S ℕ) (d : ℕ) (x : Message ℕ) (r : Reaction (Bridge S ℕ)) → known m d b (receive_kind kind.Done m d b x) ≡ Some r
      → posted r.sent ≡ Some (plain kind.Taken (device_node d) x.sender x.place)
  done_sends b d x r is = grind (arith, nat_tests)

  words_send : (b : Bridge S ℕ) (d : ℕ) (x : Message ℕ) (r : Reaction (Bridge S ℕ)) → known m d b (receive_kind kind.Words m d b x) ≡ Some r
      → posted r.sent ≡ Some (plain kind.Taken (device_node d) x.sender x.place)
  words_send b d x r is = grind (arith, nat_tests)

  pub as_came : (b : Bridge S ℕ) (d : ℕ) (x : Message ℕ) (r : Reaction (Bridge S ℕ)) → reaction m d b (Receive x) ≡ Some r → x.receiver ≡ device_node d
      → ((k : Kind) → x.refused ≡ Some k → is_request k ≡ true) → AsCame x r
  as_came b d x r is to refuses = go x.kind refl is
    where
      resent : (k : Kind) → x.kind ≡ kind.Nack → x.refused ≡ Some k → AsCame x (performed m d b (answering b b.clock (Resend (again k d b x))))
      resent k e back = record {
        entry = λ y does. never cc;
        sent = λ y posts n q carried.
            let same : again k d b x ≡ y = cc in
            let own = again_carries k b d x (refuses k back) n q (subst (λ (z : Message ℕ). carries n q z ≡ true) (sym same) carried) in
            (rw (e, back, to) own.0, ap carried_access (sym same) ∙ own.1 ∙ rw (e, back) refl);
      }

      nacked : (o : Option Kind) → x.kind ≡ kind.Nack → x.refused ≡ o
          → known m d b (elim o [ None ↦ None | Some k ↦ cond (is_out b.requests x.place k) (Some (answering b b.clock (Resend (again k d b x)))) None ]) ≡ Some r
          → AsCame x r
      nacked None e back is = never cc
      nacked (Some k) e back is = out (is_out b.requests x.place k) is
        where
          out : (y : Bool) → known m d b (cond y (Some (answering b b.clock (Resend (again k d b x)))) None) ≡ Some r → AsCame x r
          out true is = let same : performed m d b (answering b b.clock (Resend (again k d b x))) ≡ r = cc in subst (AsCame x) same (resent k e back)
          out false is = never cc

      ends : (y : Message ℕ) → posted r.sent ≡ Some (plain kind.Taken (device_node d) x.sender x.place) → posted r.sent ≡ Some y → (n q : ℕ) → carries n q y ≡ true → ⊥
      ends y taken posts n q carried =
          let same : plain kind.Taken (device_node d) x.sender x.place ≡ y = same_Some _ y (sym taken ∙ posts) in
          both_ways (carries n q y) (subst (λ (z : Message ℕ). carries n q z ≡ false) same (taken_idle n q (device_node d) x.sender x.place)) carried

      go : (k : Kind) → x.kind ≡ k → known m d b (receive_kind k m d b x) ≡ Some r → AsCame x r
      go kind.Rio e is = record { entry = λ y does. rw (e, to) (grind (arith, nat_tests)); sent = λ y posts n q carried. grind (arith, nat_tests) }
      go kind.Wio e is = record { entry = λ y does. rw (e, to) (grind (arith, nat_tests)); sent = λ y posts n q carried. grind (arith, nat_tests) }
      go kind.Done e is = record { entry = λ y does. grind (arith, nat_tests); sent = λ y posts n q carried. absurd (ends y (done_sends b d x r is) posts n q carried) }
      go kind.Words e is = record { entry = λ y does. grind (arith, nat_tests); sent = λ y posts n q carried. absurd (ends y (words_send b d x r is) posts n q carried) }
      go kind.Nack e is = nacked x.refused e refl is
      go _ e is = never cc
