-- Every call keeps the order of operations: whatever is done now, all that comes before it is done, with a smaller stamp.
use Rattle.std.proofs.Common.{◌≡◌, ℕ, ◌+◌, ◌-◌, ◌<◌, ◌≤◌, true, false, ◌&&◌, eqb, ◌⊎◌, Some, sym, refl, ap, ◌∙◌, subst, inl, inr, ⊎_elim, arith}
use Rattle.device.specs.Meaning.{Meaning}
use Rattle.home.specs.Directories.{round_of}
use Rattle.message.specs.Nodes.{is_device}
use Rattle.message.specs.declared.figures.Figures.{Figures}
use Rattle.ordering.specs.Operations.{is, is_block}
use Rattle.ordering.specs.Orders.{ordered, is_io}
use Rattle.ordering.specs.Stamps.{below}
use Rattle.ordering.specs.declared.operation.Operation.TheVariants.{LdIo, Int}
use Rattle.ordering.specs.declared.order.Access.{Access}
use Rattle.ordering.specs.declared.order.Party.{Party}
use Rattle.std.proofs.lemmas.Bool.{cases_Bool, and_parts, and_from, or_cases, eq-eqb}
use Rattle.std.proofs.lemmas.Bool.Decides.{nat_tests}
use Rattle.trail.specs.declared.entry.Entry.{Entry}
use Rattle.coherence.proofs.Carrying.{entry_access, carried_access, served_access, issued_as}
use Rattle.coherence.proofs.Channels.{io_before, int_before}
use Rattle.coherence.proofs.Clocks.{Timely}
use Rattle.coherence.proofs.Dating.{Dated}
use Rattle.coherence.proofs.Entering.{below_by_global}
use Rattle.coherence.proofs.Errands.{Errands, Does, on_memory, on_own, delivered, gathered}
use Rattle.coherence.proofs.Growing.{now_on, stamped_now, trail_on, trail_new, trail_either, issued_either, comes_last, lower_stands}
use Rattle.coherence.proofs.OrderTables.{before_memory, before_own}
use Rattle.coherence.proofs.Orderly.{is_memory, processor_issues, device_issues, by_channel, fetches, DoneBy, now, InLine, Known}
use Rattle.coherence.proofs.Recording.{grown}
use Rattle.coherence.proofs.Seats.{Seated, seat, rises_at_node}
use Rattle.coherence.proofs.Settling.{of_processor, of_device, fits_processor, fits_device, own_space, memory_seat, io_seat, int_seat}
use Rattle.coherence.proofs.Slots.{awaits}
use Rattle.coherence.proofs.Standing.{stands_all}
use Rattle.coherence.proofs.Whereabouts.{serves_block, Found, memory_done, own_done, fetch_done, entry_for}
use Rattle.coherence.specs.Histories.{History, Issued}
use Rattle.coherence.specs.Promise.{Stands, Done, InOrder, party_of}
use Rattle.coherence.specs.Steps.{Effect}
use Rattle.coherence.specs.Worlds.{World, processor_at, home_at}
use Rattle.coherence.specs.declared.call.Call.{Call}

channel_ways : (z a : Access) → by_channel z a ≡ true
    → ((is_io z.operation ≡ true) × (is_io a.operation ≡ true)) ⊎ ((is Int z.operation ≡ true) × (is Int a.operation ≡ true))
channel_ways z a both =
    ⊎_elim (λ io. inl (and_parts (is_io z.operation) (is_io a.operation) io)) (λ int. inr (and_parts (is Int z.operation) (is Int a.operation) int))
    (or_cases (is_io z.operation && is_io a.operation) (is Int z.operation && is Int a.operation) both)

no_block_channel : (z a : Access) → is_block a.operation ≡ true → by_channel z a ≡ false
no_block_channel z a block = grind (arith, nat_tests)

space_of : (z : Access) → processor_issues z ≡ true → is LdIo z.operation ≡ true → (d : ℕ) × (d < 2) × (z.space ≡ 1 + d)
space_of z fits ldio =
    let low : 1 ≤ z.space = grind (arith, nat_tests) in
    let high : z.space ≤ 2 = grind (arith, nat_tests) in
    (z.space - 1, omega arith, omega arith)

memory_fits : (x : Entry) → is_memory x.operation ≡ true → x.space ≡ 0 → processor_issues (entry_access x) ≡ true
memory_fits x memory space = go (entry_access x) memory space
  where
    go : (a : Access) → is_memory a.operation ≡ true → a.space ≡ 0 → processor_issues a ≡ true
    go a memory space = grind (arith, nat_tests)

own_fits : (x : Entry) → is_io x.operation ≡ true → 3 + x.space ≡ x.party → device_issues x.party (entry_access x) ≡ true
own_fits x io space = go (entry_access x) io space
  where
    go : (a : Access) → is_io a.operation ≡ true → 3 + a.space ≡ x.party → device_issues x.party a ≡ true
    go a io space = grind (arith, nat_tests)

fetched : (p d : ℕ) (y : Entry) (a : Access) → entry_access y ≡ a → y.party ≡ p → is LdIo a.operation ≡ true → a.space ≡ 1 + d → fetches p d y ≡ true
fetched p d y a goes by ldio space =
    and_from (eqb y.party p) _ (eq-eqb _ _ by)
    (and_from (is LdIo y.operation) (eqb y.space (1 + d)) (subst (λ (k : Access). is LdIo k.operation ≡ true) (sym goes) ldio) (eq-eqb _ _ (ap (λ (k : Access). k.space) goes ∙ space)))

module _ {A B : Type 0} (ma : Meaning A) (mb : Meaning B) (f : Figures) (c : Call) (h : History A B) (e : Effect A B) (known : Known ma mb f h) (later : Known ma mb f (grown ma mb c h e)) (time : Timely h.world e) (runs : Errands h.world e) (line : InLine h) where
  abbrev w : World A B
  w = h.world

  abbrev h' : History A B
  h' = grown ma mb c h e

  module _ (x : Entry) (new : e.entry ≡ Some x) where
    -- z is done, with a stamp below x's
    abbrev Ready : Issued → Type 0
    Ready z = (early : Done w.trail z.party z.sequence) × (below early.entry.stamp x.stamp ≡ true)

    at_seat : x.stamp.node ≡ seat x
    at_seat = stands_all Seated h'.world.trail x later.seated (trail_new ma mb f c h e known later time x new)

    from_found : (z : Issued) (y : Found w.trail z) → below y.entry.stamp x.stamp ≡ true → Ready z
    from_found z y low = (record { entry = y.entry; stands = y.stands; by = y.by; numbered = y.numbered }, low)

    -- by one node, one after the other
    by_node : (z : Issued) (y : Found w.trail z) → seat y.entry ≡ seat x → Ready z
    by_node z y same =
        from_found z y
        (rises_at_node w e time x new y.entry (stands_all (Dated w) w.trail y.entry known.dated y.stands)
        (stands_all Seated w.trail y.entry known.seated y.stands ∙ same ∙ sym at_seat))

    by_clock : (z : Issued) (k : ℕ) → DoneBy w.trail z.party z.sequence k → k < x.stamp.global → Ready z
    by_clock z k y past =
        (record { entry = y.entry; stands = y.stands; by = y.by; numbered = y.numbered }, below_by_global y.entry.stamp x.stamp (let d = y.dated in omega arith))

    module _ (z : Issued) (sz : Stands h.issued z) (party : z.party ≡ x.party) (lower : z.sequence < x.sequence) (before : ordered (party_of x.party) z.access (entry_access x) ≡ true) where
      ready : Does w x → Ready z
      ready (on_memory small memory space rest) =
          let small' : z.party < 4 = omega arith in
          let fits = fits_processor z small' (line.fitting z sz) in
          let here = subst (λ (q : Party). ordered q z.access (entry_access x) ≡ true) (of_processor x.party small) before in
          ⊎_elim
          (λ mem. let y = memory_done ma mb f h known z sz mem in
          by_node z y (memory_seat y.entry z.access y.goes mem ∙ y.by ∙ party ∙ sym (memory_seat x (entry_access x) refl memory)))
          (λ other.
          let ldio = before_memory z.access (entry_access x) memory (memory_fits x memory space) fits here other in
          let d = space_of z.access fits ldio in
          let rest' = subst (λ (n : ℕ). awaits (processor_at w n) d.0 ≡ 0) (sym party) (rest d.0 d.1) in
          let y = fetch_done ma mb f h known z sz d.0 d.1 small' ldio d.2 rest' in
          let low = line.slots z.party d.0 small' d.1 rest' y.entry y.stands (fetched z.party d.0 y.entry z.access y.goes y.by ldio d.2) in
          let on = now_on ma mb f c h e known later time x.stamp.node in
          let now_is = stamped_now ma mb f c h e known later time x new in
          let at : x.stamp.node ≡ z.party = at_seat ∙ memory_seat x (entry_access x) refl memory ∙ sym party in
          let same = ap (now w) at in
          from_found z y (below_by_global y.entry.stamp x.stamp (omega arith)))
          (cases_Bool (is_memory z.access.operation))
      ready (on_own device io space) =
          let own = subst (λ (n : ℕ). is_device n ≡ true) (sym party) device in
          let fits = subst (λ (n : ℕ). device_issues n z.access ≡ true) party (fits_device z own (line.fitting z sz)) in
          let zio = before_own x.party z.access (entry_access x) device io (own_fits x io space) fits (subst (λ (q : Party). ordered q z.access (entry_access x) ≡ true) (of_device x.party device) before) in
          let y = own_done ma mb f h known z sz own zio in
          by_node z y (io_seat y.entry z.access y.goes zio ∙ own_space x.party z.access fits zio ∙ sym (io_seat x (entry_access x) refl io ∙ space))
      ready (delivered i m at turn carried goes past) =
          let before' = subst (λ (a : Access). ordered (party_of x.party) z.access a ≡ true) (sym goes) before in
          ⊎_elim
          (λ both.
          ⊎_elim
          (λ io. let y = io_before ma mb f h known line x.party x.sequence i m at turn carried z sz party lower before' io.0 io.1 in
          by_node z y.0 (io_seat y.0.entry z.access y.0.goes io.0 ∙ ap (λ (n : ℕ). 3 + n) y.1 ∙ sym (io_seat x (carried_access m) (sym goes) io.1)))
          (λ int. let y = int_before ma mb f h known line x.party x.sequence i m at turn carried z sz party lower before' int.0 int.1 in
          by_node z y.0 (int_seat y.0.entry z.access y.0.goes int.0 ∙ y.1 ∙ sym (int_seat x (carried_access m) (sym goes) int.1)))
          (channel_ways z.access (carried_access m) both))
          (λ other.
          by_clock z m.clock
          (subst (λ (n : ℕ). DoneBy w.trail n z.sequence m.clock) (sym party) ((line.messages m (i, at) x.party x.sequence carried).settled z sz party lower before' other)) past)
          (cases_Bool (by_channel z.access (carried_access m)))
      ready (gathered b small served goes past) =
          let before' = subst (λ (a : Access). ordered (party_of x.party) z.access a ≡ true) (sym goes) before in
          let other = no_block_channel z.access (served_access b (home_at w b)) (serves_block b (home_at w b)) in
          by_clock z (round_of (home_at w b).directory).request.clock
          (subst (λ (n : ℕ). DoneBy w.trail n z.sequence (round_of (home_at w b).directory).request.clock) (sym party)
          ((line.homes b x.party x.sequence small served).settled z sz party lower before' other)) past

  abbrev Early : Issued → Entry → Type 0
  Early x l = (early : Done h'.world.trail x.party x.sequence) × (below early.entry.stamp l.stamp ≡ true)

  -- what was done before stands in the longer trail too
  lifted : (x : Issued) (l : Entry) → (early : Done w.trail x.party x.sequence) → below early.entry.stamp l.stamp ≡ true → Early x l
  lifted x l early low =
      (record { entry = early.entry; stands = trail_on ma mb f c h e known later time early.entry early.stands; by = early.by; numbered = early.numbered }, low)

  pub in_order_kept : InOrder h'.issued h'.world.trail
  in_order_kept x y sx sy first late = go (trail_either ma mb f c h e known later time late.entry late.stands)
    where
      was : Stands h.issued x
      was = lower_stands ma mb f c h e known later time y x sy sx first.party first.lower

      -- a number that is done was issued before
      y_was : Stands w.trail late.entry → Stands h.issued y
      y_was there =
          ⊎_elim (λ old. old)
          (λ new.
          let l = late.entry in
          let s = stands_all _ w.trail l known.numbered.accounted.entries there in
          let lt = comes_last ma mb f c h e known later time (issued_as l.party l.sequence (entry_access l)) y s new late.by in
          let same = late.numbered in
          absurd (let no_way : ⊥ = omega arith in no_way))
          (issued_either ma mb f c h e known later time y sy)

      go : Stands w.trail late.entry ⊎ (e.entry ≡ Some late.entry) → Early x late.entry
      go (inl there) =
          let k = line.in_order x y was (y_was there) first (record { entry = late.entry; stands = there; by = late.by; numbered = late.numbered }) in
          lifted x late.entry k.0 k.1
      go (inr new) =
          let l = late.entry in
          let party : x.party ≡ l.party = first.party ∙ sym late.by in
          let access = entry_for ma mb f h' later y sy l late.stands late.by late.numbered in
          let before : ordered (party_of l.party) x.access (entry_access l) ≡ true = subst (λ (n : ℕ). ordered (party_of n) x.access (entry_access l) ≡ true) party
          (subst (λ (a : Access). ordered (party_of x.party) x.access a ≡ true) (sym access) first.held) in
          let lower = first.lower in
          let number = late.numbered in
          let k = ready l new x was party (omega arith) before (runs.does l new) in
          lifted x l k.0 k.1
