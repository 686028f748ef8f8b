-- What a processor of the board sends is well formed.
use Rattle.std.proofs.Common.{◌≡◌, ℕ, ◌+◌, ◌<◌, true, false, ◌&&◌, ltb, leb, IfSome, Some, None, Option, sym, refl, subst, arith}
use Rattle.message.specs.Checks.{has_processor, word_count}
use Rattle.message.specs.Forms.{row}
use Rattle.message.specs.Kinds.{kind_number}
use Rattle.message.specs.Messages.{plain}
use Rattle.message.specs.Nodes.{home_node, device_node, node_numbered}
use Rattle.message.specs.Reactions.{sent, silent, single}
use Rattle.message.specs.Requests.{is_out}
use Rattle.message.specs.declared.figures.Figures.{Figures}
use Rattle.message.specs.declared.kind.Kind.{Kind}
use Rattle.message.specs.declared.kind.Kind.TheVariants as kind
use Rattle.message.specs.declared.message.Message.{Message}
use Rattle.message.specs.declared.node.Node.{Node}
use Rattle.message.specs.declared.node.Node.TheVariants as node
use Rattle.message.specs.declared.reaction.Outbox.{Outbox}
use Rattle.message.specs.declared.reaction.Reaction.{Reaction}
use Rattle.ordering.specs.Clocks.{number_end}
use Rattle.ordering.specs.Words.{no_words, one_word, first_word}
use Rattle.ordering.specs.declared.operation.Words.{Words}
use Rattle.processor.specs.Calls.{to_device}
use Rattle.processor.specs.Inputs.{Input, Request, Ldio, Stio, Receive, reaction}
use Rattle.processor.specs.Lines.{line_at}
use Rattle.processor.specs.Receive.{Outcome, giving_way, invalidated, downgraded, taking, taking_line, granted, nacked, fetched, fetched_from, receive_kind}
use Rattle.processor.specs.Slots.{slot_at}
use Rattle.processor.specs.States.{numbers_within, at_line}
use Rattle.processor.specs.declared.line.Line.{Line}
use Rattle.processor.specs.declared.line.Line.TheVariants.{Invalid, Shared, Exclusive}
use Rattle.processor.specs.declared.slot.Slot.{Slot}
use Rattle.processor.specs.declared.slot.Slot.TheVariants as slot
use Rattle.processor.specs.declared.state.Processor.{Processor}
use Rattle.std.proofs.lemmas.Bool.{or_left, cond_both, both_ways, ltb-true}
use Rattle.std.proofs.lemmas.Bool.Decides.{nat_tests}
use Rattle.std.specs.List.{AllByRecursion as All}
use Rattle.coherence.proofs.FormsBuilt.{Well, fits_by, home_end, taken_well, from_home}

-- What may come to a processor: a word that the device has, and messages that are well formed.
abbrev pub Allowed : Figures → Input → Type 0
Allowed f (Ldio d w) = ltb w (word_count f (device_node d)) ≡ true
Allowed f (Stio d w v) = ltb w (word_count f (device_node d)) ≡ true
Allowed f (Receive m) = Well f m
Allowed f _ = Unit {0}

abbrev SendsWell : Figures → Reaction (Processor ℕ) → Type 0
SendsWell f r = numbers_within r.next ≡ true → All (Well f) (sent r.sent)

abbrev ToldWell : Figures → Outcome → Type 0
ToldWell f o = IfSome o (SendsWell f)

module _ (f : Figures) (n : ℕ) (own : has_processor f n ≡ true) where
  gives_way_well : (s : Processor ℕ) (m : Message ℕ) (l : Line) (mine : Option Words) → m.sender ≡ home_node m.place → m.place < 16 → SendsWell f (giving_way s n m l mine)
  gives_way_well s m l None is small within = grind (arith, nat_tests)
  gives_way_well s m l (Some ws) is small within = grind (arith, nat_tests)

  takes_well : (s : Processor ℕ) (m : Message ℕ) → m.sender ≡ home_node m.place → m.place < 16 → SendsWell f (taking s n m)
  takes_well s m is small within = (taken_well f n m.sender m.place (or_left (has_processor f n) _ own) is small, tt)

  -- by the kind of the message
  module _ (s : Processor ℕ) (m : Message ℕ) (from : m.sender ≡ home_node m.place) (small : m.place < 16) where
    inv_well : (l : Line) → line_at s.lines m.place ≡ l → ToldWell f (invalidated s n m)
    inv_well Invalid is = rw (is, invalidated) tt
    inv_well (Shared ws) is = rw (is, invalidated) (gives_way_well s m Invalid None from small)
    inv_well (Exclusive ws) is = rw (is, invalidated) (gives_way_well s m Invalid (Some ws) from small)

    down_well : (l : Line) → line_at s.lines m.place ≡ l → ToldWell f (downgraded s n m)
    down_well Invalid is = rw (is, downgraded) tt
    down_well (Shared ws) is = rw (is, downgraded) tt
    down_well (Exclusive ws) is = rw (is, downgraded) (gives_way_well s m (Shared ws) (Some ws) from small)

    line_well : (l : Line) → SendsWell f (taking_line s n m l)
    line_well l = takes_well (at_line m.place l s) m from small

    grant_well : (l : Line) → line_at s.lines m.place ≡ l → ToldWell f (granted s n m)
    grant_well l is = grind (arith, nat_tests)

  nack_well : (s : Processor ℕ) (m : Message ℕ) (k : Option Kind) → m.refused ≡ k → ToldWell f (nacked s m)
  nack_well s m None is = rw (is, nacked) tt
  nack_well s m (Some j) is = rw (is, nacked) (cond_both (is_out s.requests m.place j) _ None (ToldWell f) (λ _ _. tt) (λ _. tt))

  fetch_well : (s : Processor ℕ) (d v c : ℕ) (x : Slot) → slot_at s.slots d ≡ x → ToldWell f (fetched s d v c)
  fetch_well s d v c slot.Free is = rw (is, fetched) tt
  fetch_well s d v c slot.Awaited is = rw (is, fetched) (λ _. tt)
  fetch_well s d v c slot.Abandoned is = rw (is, fetched) (λ _. tt)
  fetch_well s d v c (slot.Came u) is = rw (is, fetched) tt

  value_well : (s : Processor ℕ) (m : Message ℕ) (x : Option Node) → node_numbered m.sender ≡ x → ToldWell f (fetched_from s m)
  value_well s m (Some (node.Device d)) is = rw (is, fetched_from) (fetch_well s d (first_word m.words) m.clock (slot_at s.slots d) refl)
  value_well s m _ is = rw (is, fetched_from) tt

  module _ (s : Processor ℕ) (m : Message ℕ) (well : Well f m) where
    by_kind : (k : Kind) → m.kind ≡ k → ToldWell f (receive_kind k s n m)
    by_kind kind.Int is = λ _. tt
    by_kind kind.Inv is = let h = from_home f m well kind.Inv is refl in inv_well s m h.0 h.1 (line_at s.lines m.place) refl
    by_kind kind.Down is = let h = from_home f m well kind.Down is refl in down_well s m h.0 h.1 (line_at s.lines m.place) refl
    by_kind kind.SData is =
        let h = from_home f m well kind.SData is refl in
        cond_both (is_out s.requests m.place kind.Gets) _ None (ToldWell f) (λ _. line_well s m h.0 h.1 (Shared m.words)) (λ _. tt)
    by_kind kind.XData is =
        let h = from_home f m well kind.XData is refl in
        cond_both (is_out s.requests m.place kind.Getx) _ None (ToldWell f) (λ _. line_well s m h.0 h.1 (Exclusive m.words)) (λ _. tt)
    by_kind kind.Grant is = let h = from_home f m well kind.Grant is refl in grant_well s m h.0 h.1 (line_at s.lines m.place) refl
    by_kind kind.Done is =
        let h = from_home f m well kind.Done is refl in
        cond_both (is_out s.requests m.place kind.Wb) _ None (ToldWell f) (λ _. takes_well s m h.0 h.1) (λ _. tt)
    by_kind kind.Value is = value_well s m (node_numbered m.sender) refl
    by_kind kind.Nack is = nack_well s m m.refused refl
    by_kind _ is = tt

  -- the calls
  module _ (s : Processor ℕ) (r : Reaction (Processor ℕ)) where
    silent_well : r.sent ≡ silent → All (Well f) (sent r.sent)
    silent_well is = subst (λ (o : Outbox). All (Well f) (sent o)) (sym is) tt

    single_well : (m : Message ℕ) → r.sent ≡ single m → Well f m → All (Well f) (sent r.sent)
    single_well m is h = subst (λ (o : Outbox). All (Well f) (sent o)) (sym is) (h, tt)

    request_sends : (b : ℕ) (k : Kind) → reaction s n (Request b k) ≡ Some r
        → (r.sent ≡ single (plain k n (home_node b) b)) × (ltb b 16 ≡ true) × (leb (kind_number k) 4 ≡ true)
    request_sends b k h = (grind (arith, nat_tests), grind (arith, nat_tests), grind (arith, nat_tests))

    ldio_sends : (d w : ℕ) → reaction s n (Ldio d w) ≡ Some r
        → (r.sent ≡ single (to_device kind.Rio s n d w no_words)) × (r.next.clock ≡ s.clock) × (r.next.sequence ≡ s.sequence + 1)
    ldio_sends d w h = (grind (arith, nat_tests), grind (arith, nat_tests), grind (arith, nat_tests))

    stio_sends : (d w v : ℕ) → reaction s n (Stio d w v) ≡ Some r
        → (r.sent ≡ single (to_device kind.Wio s n d w (one_word v))) × (r.next.clock ≡ s.clock) × (r.next.sequence ≡ s.sequence + 1)
    stio_sends d w v h = (grind (arith, nat_tests), grind (arith, nat_tests), grind (arith, nat_tests))

  request_well : (k : Kind) (b : ℕ) → leb (kind_number k) 4 ≡ true → b < 16 → Well f (plain k n (home_node b) b)
  request_well kind.Gets b few small = fits_by f (row kind.Gets) (plain kind.Gets n (home_node b) b) (record { sender = own; receiver = home_end f b small; words = refl; numbers = refl })
  request_well kind.Getx b few small = fits_by f (row kind.Getx) (plain kind.Getx n (home_node b) b) (record { sender = own; receiver = home_end f b small; words = refl; numbers = refl })
  request_well kind.Upg b few small = fits_by f (row kind.Upg) (plain kind.Upg n (home_node b) b) (record { sender = own; receiver = home_end f b small; words = refl; numbers = refl })
  request_well kind.Wb b few small = fits_by f (row kind.Wb) (plain kind.Wb n (home_node b) b) (record { sender = own; receiver = home_end f b small; words = refl; numbers = refl })
  request_well _ b few small = absurd (both_ways false refl few)

  numbers_well : (s : Processor ℕ) (r : Reaction (Processor ℕ)) → r.next.clock ≡ s.clock → r.next.sequence ≡ s.sequence + 1 → numbers_within r.next ≡ true
      → (leb s.clock.global number_end && leb s.sequence number_end) ≡ true
  numbers_well s r clock sequence within = grind (arith, nat_tests)

  pub processor_sends : (s : Processor ℕ) (i : Input) (r : Reaction (Processor ℕ)) → Allowed f i → reaction s n i ≡ Some r → numbers_within r.next ≡ true
      → All (Well f) (sent r.sent)
  processor_sends s (Request b k) r a h within =
      let x = request_sends s r b k h in
      single_well s r (plain k n (home_node b) b) x.0 (request_well k b x.2 (ltb-true b 16 x.1))
  processor_sends s (Ldio d w) r a h within =
      let x = ldio_sends s r d w h in
      single_well s r (to_device kind.Rio s n d w no_words) x.0
      (fits_by f (row kind.Rio) (to_device kind.Rio s n d w no_words) (record { sender = own; receiver = a; words = refl; numbers = numbers_well s r x.1 x.2 within }))
  processor_sends s (Stio d w v) r a h within =
      let x = stio_sends s r d w v h in
      single_well s r (to_device kind.Wio s n d w (one_word v)) x.0
      (fits_by f (row kind.Wio) (to_device kind.Wio s n d w (one_word v)) (record { sender = own; receiver = a; words = refl; numbers = numbers_well s r x.1 x.2 within }))
  processor_sends s (Receive m) r a h within =
      let Q : Outcome → Type 0 = ToldWell f in
      subst Q h (by_kind s m a m.kind refl) within
  processor_sends s _ r a h within = silent_well s r (grind (arith, nat_tests))
