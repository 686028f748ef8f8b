-- Block requests: one for a block, sent again when refused, and waited for by an interrupt.
use Rattle.std.proofs.Common.{◌≡◌, ℕ, true, false, ◌⊎◌, List, get_or, set, is_some, Some, None, Option, sym, ap, ◌∙◌, ⊎_elim, arith}
use Rattle.std.proofs.lemmas.List.{places, get_or-set_same}
use Rattle.std.proofs.lemmas.Bool.Decides.{nat_tests}
use Rattle.device.specs.Meaning.{Meaning}
use Rattle.device.specs.declared.meaning.Wish.{Wish}
use Rattle.message.specs.Kinds.{same_kind}
use Rattle.message.specs.Reactions.{single}
use Rattle.message.specs.Requests.{with_out}
use Rattle.message.specs.declared.kind.Kind.{Kind}
use Rattle.message.specs.declared.kind.Kind.TheVariants as kind
use Rattle.message.specs.declared.message.Message.{Message}
use Rattle.message.specs.declared.reaction.Outbox.{Outbox}
use Rattle.message.specs.declared.reaction.Reaction.{Reaction}
use Rattle.bridge.proofs.Outs.{none_out}
use Rattle.message.proofs.Tables.{put_read}
use Rattle.std.specs.List.{list_any}
use Rattle.bridge.specs.Inputs.{Act, Receive, reaction}
use Rattle.bridge.specs.Laws.{asks_for_block, RefusedRequestsGoOutAgain, RequestsStayForBlocks, RequestsAreForBlocks, InterruptsWait}
use Rattle.bridge.specs.Reactions.{receive}
use Rattle.bridge.specs.Receipts.{again}
use Rattle.bridge.specs.declared.state.Bridge.{Bridge}

abbrev wished_place : Option Wish → ℕ
wished_place None = 0
wished_place (Some h) = h.place

-- What is out after one place was changed asks for a block, if all did and the new one does.
put_block : (rs : List (Option Kind)) (i k : ℕ) (q : Option Kind) (j : Kind) → (q ≡ Some j → asks_for_block j ≡ true) →
    (get_or rs k None ≡ Some j → asks_for_block j ≡ true) → get_or (set rs i q) k None ≡ Some j →
    asks_for_block j ≡ true
put_block rs i k q j a o e = ⊎_elim (λ p. a (cc)) (λ p. o (cc)) (put_read rs i k q None)

same_single : (y z : Message ℕ) → single y ≡ single z → y ≡ z
same_single y z e = let first = ap (λ (o : Outbox). get_or o.at 0 None) e in cc

module _ {S : Type 0} (m : Meaning S) where
  resent : (b : Bridge S ℕ) (d : ℕ) (x : Message ℕ) (r : Reaction (Bridge S ℕ)) → receive m d b x ≡ Some r →
      same_kind x.kind kind.Nack ≡ true → (k : Kind) → x.refused ≡ Some k → r.sent ≡ single (again k d b x)
  resent b d x r h n k f = grind (arith, nat_tests)

  pub refused_requests_go_out_again : RefusedRequestsGoOutAgain m
  refused_requests_go_out_again = record {
    stays = λ b d x r h k. grind (arith, nat_tests);
    sends = λ b d x r h k. grind (arith, nat_tests);
    again = λ b d x r h n k y f l.
        let same : y ≡ again k d b x = same_single y (again k d b x) (sym l ∙ resent b d x r h n k f) in
        record { kind = cc; sender = cc; receiver = cc; place = cc; words = cc; clock = cc; sequence = cc };
  }

  -- A wish leaves what is out, or a request to read or write its block is then out.
  acted : (b : Bridge S ℕ) (d ps : ℕ) (r : Reaction (Bridge S ℕ)) → reaction m d b (Act ps) ≡ Some r →
      (r.next.requests ≡ b.requests)
      ⊎ ((r.next.requests ≡ with_out b.requests (wished_place (m.wish b.device)) (Some kind.Rblk))
      ⊎ (r.next.requests ≡ with_out b.requests (wished_place (m.wish b.device)) (Some kind.Wblk)))
  acted b d ps r h = grind (arith, nat_tests)

  received : (b : Bridge S ℕ) (d : ℕ) (x : Message ℕ) (r : Reaction (Bridge S ℕ)) → receive m d b x ≡ Some r →
      (r.next.requests ≡ b.requests) ⊎ (r.next.requests ≡ with_out b.requests x.place None)
  received b d x r h = grind (arith, nat_tests)

  kept : RequestsStayForBlocks m
  kept b d (Act ps) r h o k j e =
      let place = wished_place (m.wish b.device) in
      ⊎_elim (λ s. o k j (cc))
      (⊎_elim
      (λ s. put_block b.requests.at place k (Some kind.Rblk) j (λ same. grind (arith, same)) (o k j) (cc))
      (λ s. put_block b.requests.at place k (Some kind.Wblk) j (λ same. grind (arith, same)) (o k j) (cc)))
      (acted b d ps r h)
  kept b d (Receive x) r h o k j e =
      ⊎_elim (λ s. o k j (cc)) (λ s. put_block b.requests.at x.place k None j (λ same. cc) (o k j) (cc)) (received b d x r h)

  pub requests_are_for_blocks : RequestsAreForBlocks m
  requests_are_for_blocks = record {
    start = λ clock s k j h. grind (arith, nat_tests, places);
    kept = kept;
    asked = λ b d i r h e y k l. grind (arith, nat_tests);
    noted = λ b d i r h long e y k l. grind (arith, nat_tests, get_or-set_same b.requests.at y.place (Some y.kind) None);
    ended = λ b d i r h x e k. grind (arith, nat_tests, put_read);
  }

  pub interrupts_wait : InterruptsWait m
  interrupts_wait b d (Act ps) r h o y e k j =
      let free = λ (f : list_any is_some b.requests.at ≡ false). none_out b.requests.at f j in
      grind (arith, nat_tests, free)
  interrupts_wait b d (Receive x) r h o y e k j = grind (arith, nat_tests, o x.place)
