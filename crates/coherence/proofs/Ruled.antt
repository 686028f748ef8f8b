-- Every waiting message has a rule at its receiver, where the tokens of every block hold, slots are in balance and messages
-- are well formed.
use Rattle.std.proofs.Common.{◌≡◌, ℕ, ◌+◌, ◌<◌, ◌≤◌, Bool, true, false, cond, ◌&&◌, ◌||◌, eqb, ltb, is_some, Some, None, Option, refl, ap, ◌∙◌, subst, ⊎_elim, arith}
use Rattle.bridge.specs.Receipts as bridge
use Rattle.device.specs.Meaning.{Meaning}
use Rattle.home.specs.Directories.{view}
use Rattle.home.specs.Reactions.{received}
use Rattle.home.specs.Requests.{request_of}
use Rattle.home.specs.Sets.{has}
use Rattle.home.specs.declared.directory.View.TheVariants.{Busy}
use Rattle.message.proofs.Soundness.{well_formed_are_sound}
use Rattle.message.specs.Checks.{end_fits, has_processor, word_count}
use Rattle.message.specs.Forms.{row}
use Rattle.message.specs.Kinds.{kind_number, is_request, same_kind}
use Rattle.message.specs.Laws.{Sound, comes_from_home, goes_home}
use Rattle.message.specs.Nodes.{device_node, is_device}
use Rattle.message.specs.Requests.{is_out}
use Rattle.message.specs.declared.kind.Kind.{Kind}
use Rattle.message.specs.declared.kind.Kind.TheVariants as kind
use Rattle.message.specs.declared.message.Message.{Message}
use Rattle.processor.specs.Receive as processor
use Rattle.processor.specs.Slots.{is_awaited, slot_at}
use Rattle.std.proofs.lemmas.Bool.{and_from, cases_eq, cond-false, and_parts, both_ways, cond-true, eq-eqb, lt-ltb, or_cases, or_left, or_right}
use Rattle.std.specs.List.{AllByRecursion as All, slice_get}
use Rattle.coherence.proofs.Arrivals.{at_first, at_home, at_processor, at_second, counted_about, counted_crossing}
use Rattle.coherence.proofs.Blocks.{block, peer, pending, request_out, token}
use Rattle.coherence.proofs.Carrying.{SlotsBalanced}
use Rattle.coherence.proofs.Classes.{class_by, refusal_of}
use Rattle.coherence.proofs.Counting.{not_sure, sure}
use Rattle.coherence.proofs.FormsBuilt.{Well, as_back, as_row}
use Rattle.coherence.proofs.FormsNodes.{no_device}
use Rattle.coherence.proofs.Receivers.{back_end, device_nodes, fetches, least, on_board, owner_device, owner_nodes, request_class, takes_ack, takes_request, takes_taken}
use Rattle.coherence.proofs.Rising.{all_nth}
use Rattle.coherence.proofs.Rules.{down_ruled, finds_copy, finds_owned, finds_refused, finds_request, finds_shared, frees, grant_ruled, hears, idle_view, inv_ruled, out_found, request_ruled, unknown}
use Rattle.coherence.proofs.Tokens.{Tokens, out_is}
use Rattle.coherence.specs.Promise.{Ruled}
use Rattle.coherence.specs.Makings.{Making}
use Rattle.coherence.specs.Steps.{delivered, figures}
use Rattle.coherence.specs.Worlds.{World, home_at, processor_at}

module _ {A B : Type 0} (ma : Meaning A) (mb : Meaning B) (w : World A B) (tokens : (b : ℕ) → b < 16 → Tokens (block b w)) (slots : SlotsBalanced w)
    (m : Message ℕ) (i : ℕ) (at : slice_get w.messages i ≡ Some m) (well : Well (figures ma mb w) m) where
  abbrev HasRule : Type 0
  HasRule = is_some (delivered ma mb w m) ≡ true

  abbrev mine : ℕ → ℕ → ℕ
  mine c q = pending (block m.place w).messages c q

  sound : Sound m
  sound = well_formed_are_sound (figures ma mb w) m well

  counted : (goes_home m.kind || comes_from_home m.kind) ≡ true → (c q : ℕ) → token m ≡ c → peer m ≡ q → 1 ≤ mine c q
  counted goes = counted_about w.messages i m at goes

  -- To a home.
  module _ (goes : goes_home m.kind ≡ true) where
    small : m.place < 16
    small = sound.block (or_left (goes_home m.kind) (comes_from_home m.kind) goes)

    to_home : is_some (received (home_at w m.place) m.place m) ≡ true → HasRule
    to_home = at_home ma mb w m well m.place small (sound.receiver goes)

    to_home_counted : (c q : ℕ) → token m ≡ c → peer m ≡ q → 1 ≤ mine c q
    to_home_counted = counted (or_left (goes_home m.kind) (comes_from_home m.kind) goes)

  request_rules : is_request m.kind ≡ true → HasRule
  request_rules is = to_home goes (takes_request (home_at w m.place) m.place m low is
      (request_ruled (home_at w m.place) m.place (request_of m) (view (home_at w m.place).directory) (home_at w m.place).directory.holders m.sender is new))
    where
      goes : goes_home m.kind ≡ true
      goes = or_left (is_request m.kind) (same_kind m.kind kind.Ack || same_kind m.kind kind.Taken) is

      low : m.place < 16
      low = small goes

      waits : (c : ℕ) → kind_number m.kind ≡ c → 1 ≤ mine c m.sender
      waits c same = to_home_counted goes c m.sender ((request_class m is).0 ∙ same) (request_class m is).1

      new : kind_number m.kind ≤ 2 → (view (home_at w m.place).directory ≡ Busy → ⊥) → has (home_at w m.place).directory.holders m.sender ≡ false
      new copy idle =
          let free = idle_view (home_at w m.place) idle in
          not_sure (has (home_at w m.place).directory.holders m.sender) (unknown (block m.place w) (tokens m.place low) m.sender (some copy) free.0 free.1)
        where
          some : kind_number m.kind ≤ 2 → 1 ≤ mine 1 m.sender + mine 2 m.sender
          some copy = ⊎_elim (λ one. omega (arith, waits 1 one)) (λ other. omega (arith, waits 2 (omega (arith, least m.kind)))) (cases_eq (kind_number m.kind) 1)

  ack_rules : m.kind ≡ kind.Ack → HasRule
  ack_rules is = to_home goes (takes_ack (home_at w m.place) m.place m (small goes) is (hears (block m.place w) (tokens m.place (small goes)) m.sender (by_mark m.exclusive refl)))
    where
      goes : goes_home m.kind ≡ true
      goes = ap goes_home is

      class : token m ≡ class_by kind.Ack m.exclusive m.refused
      class = ap (λ k. cond (same_kind k kind.Done && is_device m.receiver) 42 (class_by k m.exclusive m.refused)) is

      end : peer m ≡ m.sender
      end = ap (λ k. cond (goes_home k) m.sender m.receiver) is

      by_mark : (e : Bool) → m.exclusive ≡ e → 1 ≤ mine 12 m.sender + mine 41 m.sender
      by_mark true mark = omega (arith, to_home_counted goes 41 m.sender (class ∙ ap (λ e. class_by kind.Ack e m.refused) mark) end)
      by_mark false mark = omega (arith, to_home_counted goes 12 m.sender (class ∙ ap (λ e. class_by kind.Ack e m.refused) mark) end)

  taken_rules : m.kind ≡ kind.Taken → HasRule
  taken_rules is = to_home goes (takes_taken (home_at w m.place) m.place m (small goes) is
      (frees (block m.place w) (tokens m.place (small goes)) m.sender
      (to_home_counted goes 20 m.sender (ap (λ k. cond (same_kind k kind.Done && is_device m.receiver) 42 (class_by k m.exclusive m.refused)) is)
      (ap (λ k. cond (goes_home k) m.sender m.receiver) is))))
    where
      goes : goes_home m.kind ≡ true
      goes = ap goes_home is

  -- To a processor or a device, by kind.
  abbrev r : ℕ
  r = m.receiver

  module _ (k : Kind) (is : m.kind ≡ k) where
    class_as : token m ≡ cond (same_kind k kind.Done && is_device r) 42 (class_by k m.exclusive m.refused)
    class_as = ap (λ j. cond (same_kind j kind.Done && is_device r) 42 (class_by j m.exclusive m.refused)) is

    to_processor : r < 4 → is_some (processor.receive_kind k (processor_at w r) r m) ≡ true → HasRule
    to_processor near ruled = at_processor ma mb w m well near (ap (λ j. is_some (processor.receive_kind j (processor_at w r) r m)) is ∙ ruled)

    to_device : is_device r ≡ true → (r ≡ 4 → is_some (bridge.receive_kind k ma 0 w.first m) ≡ true) → (r ≡ 5 → is_some (bridge.receive_kind k mb 1 w.second m) ≡ true) → HasRule
    to_device device first second = ⊎_elim
        (λ four. at_first ma mb w m well four (ap (λ j. is_some (bridge.receive_kind j ma 0 w.first m)) is ∙ first four))
        (λ five. at_second ma mb w m well five (ap (λ j. is_some (bridge.receive_kind j mb 1 w.second m)) is ∙ second five))
        (device_nodes r device)

    -- from a home
    module _ (from : comes_from_home k ≡ true) (away : goes_home k ≡ false) where
      low : m.place < 16
      low = sound.block (or_right (goes_home m.kind) (comes_from_home m.kind) (ap comes_from_home is ∙ from))

      waits : (c : ℕ) → token m ≡ c → 1 ≤ mine c r
      waits c class = counted (or_right (goes_home m.kind) (comes_from_home m.kind) (ap comes_from_home is ∙ from)) c r class
          (ap (λ j. cond (goes_home j) m.sender r) is ∙ cond-false (goes_home k) m.sender r away)

      tokens_here : Tokens (block m.place w)
      tokens_here = tokens m.place low

  out_processor : r < 4 → (k : Kind) → 1 ≤ out_is (request_out w m.place r) (kind_number k) → is_out (processor_at w r).requests m.place k ≡ true
  out_processor near k one = out_found (processor_at w r).requests m.place k
      (subst (λ o. 1 ≤ out_is o (kind_number k)) (cond-true (ltb r 4) _ _ (lt-ltb r 4 near)) one)

  out_first : r ≡ 4 → (k : Kind) → 1 ≤ out_is (request_out w m.place r) (kind_number k) → is_out w.first.requests m.place k ≡ true
  out_first four k one = out_found w.first.requests m.place k (subst (λ n. 1 ≤ out_is (request_out w m.place n) (kind_number k)) four one)

  out_second : r ≡ 5 → (k : Kind) → 1 ≤ out_is (request_out w m.place r) (kind_number k) → is_out w.second.requests m.place k ≡ true
  out_second five k one = out_found w.second.requests m.place k (subst (λ n. 1 ≤ out_is (request_out w m.place n) (kind_number k)) five one)

  fits_to : (k : Kind) → m.kind ≡ k → same_kind k kind.Nack ≡ false → end_fits (figures ma mb w) (row k).receiver r m.place ≡ true
  fits_to k is plain = (as_row (figures ma mb w) m k is plain well).0.receiver

  fits_from : (k : Kind) → m.kind ≡ k → same_kind k kind.Nack ≡ false → end_fits (figures ma mb w) (row k).sender m.sender m.place ≡ true
  fits_from k is plain = (as_row (figures ma mb w) m k is plain well).0.sender

  inv_rules : m.kind ≡ kind.Inv → HasRule
  inv_rules is =
      to_processor kind.Inv is (on_board (figures ma mb w) r (fits_to kind.Inv is refl))
      (inv_ruled (processor_at w r) r m
      (finds_copy (block m.place w) (tokens_here kind.Inv is refl refl) r (omega (arith, waits kind.Inv is refl refl 10 (class_as kind.Inv is)))))

  down_rules : m.kind ≡ kind.Down → HasRule
  down_rules is =
      to_processor kind.Down is (on_board (figures ma mb w) r (fits_to kind.Down is refl))
      (down_ruled (processor_at w r) r m
      (finds_owned (block m.place w) (tokens_here kind.Down is refl refl) r (waits kind.Down is refl refl 11 (class_as kind.Down is))))

  s_data_rules : m.kind ≡ kind.SData → HasRule
  s_data_rules is =
      let near = on_board (figures ma mb w) r (fits_to kind.SData is refl) in
      let one = (finds_request (block m.place w) (tokens_here kind.SData is refl refl) r).0 (waits kind.SData is refl refl 13 (class_as kind.SData is)) in
      to_processor kind.SData is near (rw (out_processor near kind.Gets one) refl)

  x_data_rules : m.kind ≡ kind.XData → HasRule
  x_data_rules is =
      let near = on_board (figures ma mb w) r (fits_to kind.XData is refl) in
      let one = (finds_request (block m.place w) (tokens_here kind.XData is refl refl) r).1 (waits kind.XData is refl refl 14 (class_as kind.XData is)) in
      to_processor kind.XData is near (rw (out_processor near kind.Getx one) refl)

  grant_rules : m.kind ≡ kind.Grant → HasRule
  grant_rules is =
      let near = on_board (figures ma mb w) r (fits_to kind.Grant is refl) in
      let here = tokens_here kind.Grant is refl refl in
      let some = waits kind.Grant is refl refl 15 (class_as kind.Grant is) in
      to_processor kind.Grant is near (grant_ruled (processor_at w r) r m
      (out_processor near kind.Upg ((finds_request (block m.place w) here r).2 some)) (finds_shared (block m.place w) here r some))

  words_rules : m.kind ≡ kind.Words → HasRule
  words_rules is =
      let one = (finds_request (block m.place w) (tokens_here kind.Words is refl refl) r).4 (waits kind.Words is refl refl 17 (class_as kind.Words is)) in
      to_device kind.Words is (fits_to kind.Words is refl) (λ four. rw (out_first four kind.Rblk one) refl) (λ five. rw (out_second five kind.Rblk one) refl)

  done_rules : m.kind ≡ kind.Done → HasRule
  done_rules is = ⊎_elim (λ on. at_a_processor (on_board (figures ma mb w) r on)) at_a_device (or_cases (has_processor (figures ma mb w) r) (is_device r) (fits_to kind.Done is refl))
    where
      at_a_processor : r < 4 → HasRule
      at_a_processor near =
          let class : token m ≡ 16 = class_as kind.Done is ∙ cond-false (is_device r) 42 16 (no_device r near) in
          let one = (finds_request (block m.place w) (tokens_here kind.Done is refl refl) r).3 (waits kind.Done is refl refl 16 class) in
          to_processor kind.Done is near (rw (out_processor near kind.Wb one) refl)

      at_a_device : is_device r ≡ true → HasRule
      at_a_device device =
          let class : token m ≡ 42 = class_as kind.Done is ∙ cond-true (is_device r) 42 16 device in
          let one = (finds_request (block m.place w) (tokens_here kind.Done is refl refl) r).5 (waits kind.Done is refl refl 42 class) in
          to_device kind.Done is device (λ four. rw (out_first four kind.Wblk one) refl) (λ five. rw (out_second five kind.Wblk one) refl)

  nack_rules : m.kind ≡ kind.Nack → HasRule
  nack_rules is = go m.refused refl
    where
      go : (o : Option Kind) → m.refused ≡ o → HasRule
      go None none = absurd (both_ways _ (rw (is, none) refl) well)
      go (Some j) some =
          let back = as_back (figures ma mb w) m j is some well in
          let class : token m ≡ refusal_of j = class_as kind.Nack is ∙ ap (class_by kind.Nack m.exclusive) some in
          let one = finds_refused (block m.place w) (tokens_here kind.Nack is refl refl) r j back.0 (waits kind.Nack is refl refl (refusal_of j) class) in
          ⊎_elim
          (λ near. to_processor kind.Nack is near (rw (some, out_processor near j one) refl))
          (λ device. to_device kind.Nack is device (λ four. rw (some, out_first four j one) refl) (λ five. rw (some, out_second five j one) refl))
          (back_end (figures ma mb w) j r m.place back.0 back.1.receiver)

  -- Between processors and devices.
  int_rules : m.kind ≡ kind.Int → HasRule
  int_rules is = to_processor kind.Int is (on_board (figures ma mb w) r (and_parts (has_processor (figures ma mb w) r) (eqb r m.place) (fits_to kind.Int is refl)).0) refl

  rio_rules : m.kind ≡ kind.Rio → HasRule
  rio_rules is =
      let owner = fits_to kind.Rio is refl in
      to_device kind.Rio is (owner_device (figures ma mb w) r m.place owner)
      (λ four. rw (subst (λ n. ltb m.place (word_count (figures ma mb w) n) ≡ true) four owner) refl)
      (λ five. rw (subst (λ n. ltb m.place (word_count (figures ma mb w) n) ≡ true) five owner) refl)

  wio_rules : m.kind ≡ kind.Wio → HasRule
  wio_rules is =
      let owner = fits_to kind.Wio is refl in
      to_device kind.Wio is (owner_device (figures ma mb w) r m.place owner)
      (λ four. rw (subst (λ n. ltb m.place (word_count (figures ma mb w) n) ≡ true) four owner) refl)
      (λ five. rw (subst (λ n. ltb m.place (word_count (figures ma mb w) n) ≡ true) five owner) refl)

  value_rules : m.kind ≡ kind.Value → HasRule
  value_rules is = ⊎_elim (from 0 (omega arith)) (from 1 (omega arith)) (owner_nodes (figures ma mb w) m.sender m.place (fits_from kind.Value is refl))
    where
      near : r < 4
      near = on_board (figures ma mb w) r (fits_to kind.Value is refl)

      from : (d : ℕ) → d < 2 → m.sender ≡ device_node d → HasRule
      from d two sender =
          let some = counted_crossing w.messages i m at 18 (device_node d) r
          (and_from _ _ (and_from _ _ (eq-eqb _ 18 (ap (λ j. class_by j m.exclusive m.refused) is)) (eq-eqb m.sender (device_node d) sender)) (eq-eqb r r refl)) in
          let awaited = sure (is_awaited (slot_at (processor_at w r).slots d)) (omega (arith, slots r d near two)) in
          to_processor kind.Value is near (fetches (processor_at w r) m d two sender awaited)

  by_kind : (k : Kind) → m.kind ≡ k → HasRule
  by_kind kind.Gets is = request_rules (ap is_request is)
  by_kind kind.Getx is = request_rules (ap is_request is)
  by_kind kind.Upg is = request_rules (ap is_request is)
  by_kind kind.Wb is = request_rules (ap is_request is)
  by_kind kind.Rblk is = request_rules (ap is_request is)
  by_kind kind.Wblk is = request_rules (ap is_request is)
  by_kind kind.Rio is = rio_rules is
  by_kind kind.Wio is = wio_rules is
  by_kind kind.Int is = int_rules is
  by_kind kind.Inv is = inv_rules is
  by_kind kind.Down is = down_rules is
  by_kind kind.Ack is = ack_rules is
  by_kind kind.SData is = s_data_rules is
  by_kind kind.XData is = x_data_rules is
  by_kind kind.Grant is = grant_rules is
  by_kind kind.Done is = done_rules is
  by_kind kind.Words is = words_rules is
  by_kind kind.Value is = value_rules is
  by_kind kind.Nack is = nack_rules is
  by_kind kind.Taken is = taken_rules is

module _ {A B : Type 0} (ma : Meaning A) (mb : Meaning B) (k : Making A B) (w : World A B) where
  pub ruled : ((b : ℕ) → b < 16 → Tokens (block b w)) → SlotsBalanced w → All (Well (figures ma mb w)) w.messages → Ruled ma mb k w
  ruled tokens slots well m stands =
      by_kind ma mb w tokens slots m stands.0 stands.1 (all_nth (Well (figures ma mb w)) w.messages stands.0 m well stands.1) m.kind refl
