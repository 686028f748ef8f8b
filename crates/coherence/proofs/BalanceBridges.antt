-- What each reaction of a bridge does to the balance of numbered operations: a wish takes a number and is done or sent,
-- Rio and Wio are done, and a NACK goes out again as the request that it gives back.
use Rattle.std.proofs.Common.{◌≡◌, ℕ, ◌+◌, Bool, true, false, cond, ◌&&◌, eqb, Some, None, Ok, Err, Option, Result, refl, ap, subst, arith}
use Rattle.bridge.specs.Acts.{Decision, act_on}
use Rattle.bridge.specs.Deeds.{performed}
use Rattle.bridge.specs.Inputs.{EachReaction, Act, Receive, message_of, reaction}
use Rattle.bridge.specs.Receipts.{again, answering, receive_kind, refused}
use Rattle.bridge.specs.declared.fault.DeviceFault.{DeviceFault}
use Rattle.bridge.specs.declared.fault.DeviceFault.TheVariants.{NoWish}
use Rattle.bridge.specs.declared.plan.Deed.TheVariants.{Resend}
use Rattle.bridge.specs.declared.plan.Plan.{Plan}
use Rattle.bridge.specs.declared.state.Bridge.{Bridge}
use Rattle.device.specs.Meaning.{Meaning}
use Rattle.device.specs.declared.meaning.Wish.{Wish}
use Rattle.message.specs.Kinds.{is_request}
use Rattle.message.specs.Nodes.{device_node}
use Rattle.message.specs.Requests.{is_out}
use Rattle.message.specs.declared.kind.Kind.{Kind}
use Rattle.message.specs.declared.kind.Kind.TheVariants as kind
use Rattle.message.specs.declared.message.Message.{Message}
use Rattle.message.specs.declared.reaction.Reaction.{Reaction}
use Rattle.ordering.specs.declared.operation.Operation.{Operation}
use Rattle.std.proofs.lemmas.Bool.Decides.{nat_tests}
use Rattle.coherence.proofs.Arising.{never}
use Rattle.coherence.proofs.Carrying.{carries, done_as, is_block_request, refuses_block}
use Rattle.coherence.proofs.Counting.{indicator}
use Rattle.coherence.proofs.Posting.{posted, hit}

module _ {S : Type 0} (m : Meaning S) where
  pub wishes_take_number : EachReaction m (λ b d i r. message_of i ≡ None → r.next.sequence ≡ b.sequence + 1)
  wishes_take_number b d i r h call = grind (arith, nat_tests)

  -- what a decision comes to
  abbrev pub performs : ℕ → Bridge S ℕ → Decision → Result (Reaction (Bridge S ℕ)) DeviceFault
  performs d b x = elim x [ Ok p ↦ Ok (performed m d b p) | Err f ↦ Err f ]

  abbrev pub decided : ℕ → Bridge S ℕ → Decision → Option (Reaction (Bridge S ℕ))
  decided d b x = elim (performs d b x) [ Ok r ↦ Some r | Err f ↦ None ]

  abbrev pub known : ℕ → Bridge S ℕ → Option (Plan ℕ) → Option (Reaction (Bridge S ℕ))
  known d b x = elim x [ Some p ↦ Some (performed m d b p) | None ↦ None ]

  abbrev Counts : ℕ → ℕ → Bool → Reaction (Bridge S ℕ) → Type 0
  Counts n q x r = hit (done_as n q) r.entry + hit (carries n q) (posted r.sent) ≡ indicator x

  wish_number : (o : Operation) (b : Bridge S ℕ) (d ps : ℕ) (h : Wish) (r : Reaction (Bridge S ℕ)) → decided d b (act_on o m d ps b h) ≡ Some r → (n q : ℕ)
      → Counts n q (eqb (device_node d) n && eqb b.sequence q) r
  wish_number o b d ps h r is n q = grind (arith, nat_tests)

  pub wishes_number : (b : Bridge S ℕ) (d ps : ℕ) (r : Reaction (Bridge S ℕ)) → reaction m d b (Act ps) ≡ Some r → (n q : ℕ) → Counts n q (eqb (device_node d) n && eqb b.sequence q) r
  wishes_number b d ps r is n q = go (m.wish b.device) is
    where
      go : (o : Option Wish) → decided d b (elim o [ None ↦ Err (NoWish d) | Some h ↦ act_on h.operation m d ps b h ]) ≡ Some r → Counts n q (eqb (device_node d) n && eqb b.sequence q) r
      go None is = never cc
      go (Some h) is = wish_number h.operation b d ps h r is n q

  -- a request that goes out again carries what its NACK gave back
  sent_again : (k : Kind) (b : Bridge S ℕ) (d : ℕ) (x : Message ℕ) → is_request k ≡ true → (n q : ℕ)
      → carries n q (again k d b x) ≡ (eqb x.sequence q && (is_block_request k && eqb (device_node d) n))
  sent_again k b d x asks n q = grind (arith, nat_tests)

  back_number : (b : Bridge S ℕ) (d : ℕ) (x : Message ℕ) (r : Reaction (Bridge S ℕ)) → x.receiver ≡ device_node d → ((k : Kind) → x.refused ≡ Some k → is_request k ≡ true)
      → known d b (refused d b x) ≡ Some r → (n q : ℕ) → Counts n q (eqb x.sequence q && (refuses_block x.refused && eqb x.receiver n)) r
  back_number b d x r to refuses is n q = go x.refused refl is
    where
      go : (o : Option Kind) → x.refused ≡ o
          → known d b (elim o [ None ↦ None | Some k ↦ cond (is_out b.requests x.place k) (Some (answering b b.clock (Resend (again k d b x)))) None ]) ≡ Some r
          → Counts n q (eqb x.sequence q && (refuses_block o && eqb x.receiver n)) r
      go None e is = never cc
      go (Some k) e is = out (is_out b.requests x.place k) is
        where
          again_number : Counts n q (eqb x.sequence q && (is_block_request k && eqb x.receiver n)) (performed m d b (answering b b.clock (Resend (again k d b x))))
          again_number = let same = ap indicator (sent_again k b d x (refuses k e) n q) in rw to (omega arith)

          out : (y : Bool) → known d b (cond y (Some (answering b b.clock (Resend (again k d b x)))) None) ≡ Some r
              → Counts n q (eqb x.sequence q && (is_block_request k && eqb x.receiver n)) r
          out true is =
              let same : performed m d b (answering b b.clock (Resend (again k d b x))) ≡ r = cc in
              subst (Counts n q (eqb x.sequence q && (is_block_request k && eqb x.receiver n))) same again_number
          out false is = never cc

  -- at a message
  pub messages_number : (b : Bridge S ℕ) (d : ℕ) (x : Message ℕ) (r : Reaction (Bridge S ℕ)) → reaction m d b (Receive x) ≡ Some r → x.receiver ≡ device_node d
      → ((k : Kind) → x.refused ≡ Some k → is_request k ≡ true) → (n q : ℕ) → Counts n q (carries n q x) r
  messages_number b d x r is to refuses n q = go x.kind refl is
    where
      go : (k : Kind) → x.kind ≡ k → known d b (receive_kind k m d b x) ≡ Some r → Counts n q (carries n q x) r
      go kind.Rio e is = rw e (grind (arith, nat_tests))
      go kind.Wio e is = rw e (grind (arith, nat_tests))
      go kind.Done e is = rw e (grind (arith, nat_tests))
      go kind.Words e is = rw e (grind (arith, nat_tests))
      go kind.Nack e is = rw e (back_number b d x r to refuses is n q)
      go _ e is = never cc

  pub messages_keep_number : EachReaction m (λ b d i r. (x : Message ℕ) → message_of i ≡ Some x → r.next.sequence ≡ b.sequence)
  messages_keep_number b d i r h x is = grind (arith, nat_tests)
