-- Every call keeps what lets the next operation start: below which clock a processor's LDios and a device's block operations
-- are done, once nothing of them is under way.
use Rattle.std.proofs.Common.{◌≡◌, ℕ, ◌+◌, ◌<◌, ◌≤◌, true, false, ◌&&◌, eqb, ◌⊎◌, List, Some, None, sym, refl, ap, ◌∙◌, subst, inl, inr, arith}
use Rattle.device.specs.Meaning.{Meaning}
use Rattle.message.specs.Kinds.{same_kind}
use Rattle.message.specs.Messages.{no_message}
use Rattle.message.specs.Nodes.{device_node, home_node, is_device}
use Rattle.message.specs.Reactions.{sent}
use Rattle.message.specs.Requests.{out}
use Rattle.message.specs.declared.figures.Figures.{Figures}
use Rattle.message.specs.declared.kind.Kind.TheVariants as kind
use Rattle.message.specs.declared.message.Message.{Message}
use Rattle.ordering.specs.Operations.{is, is_block}
use Rattle.ordering.specs.Orders.{is_io}
use Rattle.ordering.specs.declared.operation.Operation.{Operation}
use Rattle.ordering.specs.declared.operation.Operation.TheVariants.{LdIo}
use Rattle.ordering.specs.declared.order.Access.{Access}
use Rattle.processor.specs.Slots.{slot_at, is_awaited}
use Rattle.std.proofs.lemmas.Bool.{both_ways, and_parts, eqb-true}
use Rattle.std.proofs.lemmas.Bool.Decides.{nat_tests}
use Rattle.std.proofs.lemmas.Option.{same_Some}
use Rattle.trail.specs.declared.entry.Entry.{Entry}
use Rattle.coherence.proofs.Arising.{never}
use Rattle.coherence.proofs.Carrying.{carries, serves, entry_access, carried_access}
use Rattle.coherence.proofs.Clocks.{Timely}
use Rattle.coherence.proofs.Counting.{indicator, indicator_most}
use Rattle.coherence.proofs.Errands.{Errands, Does, on_memory, on_own, delivered, gathered}
use Rattle.coherence.proofs.FormsNodes.{no_device}
use Rattle.coherence.proofs.Growing.{now_on, stamped_now, trail_either, messages_either}
use Rattle.coherence.proofs.Orderly.{is_memory, fetches, reaches, asks_about, gathers_for, now, requests_at, InLine, Known}
use Rattle.coherence.proofs.Recording.{grown}
use Rattle.coherence.proofs.Seats.{seat}
use Rattle.coherence.proofs.Settling.{io_seat, past_at, seated_at}
use Rattle.coherence.proofs.Slots.{awaits}
use Rattle.coherence.proofs.Standing.{stands_all}
use Rattle.coherence.proofs.Tally.{crosses, traffic, traffic_out}
use Rattle.coherence.proofs.Whereabouts.{nth_inside, carries_io, carries_ldio, carries_block, serves_block, serves_for, io_ends}
use Rattle.coherence.specs.Histories.{History}
use Rattle.coherence.specs.Promise.{Stands}
use Rattle.coherence.specs.Steps.{Effect}
use Rattle.coherence.specs.Worlds.{World, processor_at, home_at}
use Rattle.coherence.specs.declared.call.Call.{Call}

-- a message that waits is counted
pub crosses_counted : (ms : List (Message ℕ)) (m : Message ℕ) (c s r : ℕ) → Stands ms m → crosses c s r m ≡ true → 1 ≤ traffic ms c s r
crosses_counted ms m c s r there crossing =
    let n = nth_inside ms there.0 m no_message there.1 in
    let one = ap indicator (subst (λ (y : Message ℕ). crosses c s r y ≡ true) (sym n.1) crossing) in
    let whole = traffic_out ms there.0 n.0 s r c in
    omega arith

pub record Fetch (p d : ℕ) (y : Entry) : Type 0 where
  pub by : y.party ≡ p
  pub ldio : is LdIo y.operation ≡ true
  pub space : y.space ≡ 1 + d

pub is_fetch : (p d : ℕ) (y : Entry) → fetches p d y ≡ true → Fetch p d y
is_fetch p d y h = grind (arith, nat_tests)

pub ldio_is : (o : Operation) → is LdIo o ≡ true → (is_io o ≡ true) × (is_memory o ≡ false) × (is_block o ≡ false)
ldio_is o h = (grind (arith, nat_tests), grind (arith, nat_tests), grind (arith, nat_tests))

rio_crosses : (m : Message ℕ) (p r : ℕ) → same_kind m.kind kind.Rio ≡ true → m.sender ≡ p → m.receiver ≡ r → crosses 7 p r m ≡ true
rio_crosses m p r rio from to = grind (arith, nat_tests)

block_is : (o : Operation) → is_block o ≡ true → (is_memory o ≡ false) × (is_io o ≡ false)
block_is o h = (grind (arith, nat_tests), grind (arith, nat_tests))

block_seat : (y : Entry) → is_block y.operation ≡ true → seat y ≡ 16 + y.place
block_seat y block = grind (arith, nat_tests)

module _ {A B : Type 0} (ma : Meaning A) (mb : Meaning B) (f : Figures) (h : History A B) (known : Known ma mb f h) where
  -- a processor's LDio that is done now was asked for by a Rio
  pub rio_waits : (p d : ℕ) → p < 4 → d < 2 → (y : Entry) → fetches p d y ≡ true → Does h.world y
      → (m : Message ℕ) × Stands h.world.messages m × (crosses 7 p (device_node d) m ≡ true) × (y.sequence ≡ m.sequence)
  rio_waits p d small two y fetch does = go (is_fetch p d y fetch) does
    where
      go : Fetch p d y → Does h.world y → (m : Message ℕ) × Stands h.world.messages m × (crosses 7 p (device_node d) m ≡ true) × (y.sequence ≡ m.sequence)
      go k (on_memory low memory space rest) = absurd (both_ways (is_memory y.operation) (ldio_is y.operation k.ldio).1 memory)
      go k (on_own device io space) = absurd (both_ways (is_device y.party) (no_device y.party (subst (λ (n : ℕ). n < 4) (sym k.by) small)) device)
      go k (gathered b low served goes past) =
          absurd (both_ways (is_block y.operation) (ldio_is y.operation k.ldio).2 (subst (λ (a : Access). is_block a.operation ≡ true) goes (serves_block b (home_at h.world b))))
      go k (delivered i m at turn c goes past) =
          let ldio = subst (λ (a : Access). is LdIo a.operation ≡ true) (sym goes) k.ldio in
          let x = carries_io y.party y.sequence m c (ldio_is (carried_access m).operation ldio).0 in
          let ends = io_ends f m (stands_all _ h.world.messages m known.formed.messages (i, at)) x.0 in
          let space : (carried_access m).space ≡ y.space = ap (λ (a : Access). a.space) goes in
          let here : y.space ≡ 1 + d = k.space in
          let to : m.receiver ≡ device_node d = omega (arith, x.3) in
          (m, (i, at), rio_crosses m p (device_node d) (carries_ldio y.party y.sequence m c ldio) (x.1 ∙ k.by) to, sym x.2)

  -- of Rio and VALUE for one slot, only one is under way
  pub one_for_slot : (p d : ℕ) → p < 4 → d < 2 → (m o : Message ℕ) → Stands h.world.messages m → crosses 7 p (device_node d) m ≡ true
      → Stands h.world.messages o → crosses 18 (device_node d) p o ≡ true → ⊥
  one_for_slot p d small two m o sm rio so value =
      let balance = known.numbered.slots p d small two in
      let most = indicator_most (is_awaited (slot_at (processor_at h.world p).slots d)) in
      let seven = crosses_counted h.world.messages m 7 p (device_node d) sm rio in
      let eighteen = crosses_counted h.world.messages o 18 (device_node d) p so value in
      omega arith

  pub none_at_rest : (p d : ℕ) → p < 4 → d < 2 → awaits (processor_at h.world p) d ≡ 0
      → (m : Message ℕ) → Stands h.world.messages m → (crosses 7 p (device_node d) m ≡ true) ⊎ (crosses 18 (device_node d) p m ≡ true) → ⊥
  none_at_rest p d small two none m sm (inl rio) =
      let balance = known.numbered.slots p d small two in
      let seven = crosses_counted h.world.messages m 7 p (device_node d) sm rio in
      omega arith
  none_at_rest p d small two none m sm (inr value) =
      let balance = known.numbered.slots p d small two in
      let eighteen = crosses_counted h.world.messages m 18 (device_node d) p sm value in
      omega arith

module _ {A B : Type 0} (ma : Meaning A) (mb : Meaning B) (f : Figures) (c : Call) (h : History A B) (e : Effect A B) (known : Known ma mb f h) (later : Known ma mb f (grown ma mb c h e)) (time : Timely h.world e) (runs : Errands h.world e) (line : InLine h) where
  abbrev w : World A B
  w = h.world

  abbrev h' : History A B
  h' = grown ma mb c h e

  pub slots_kept : (p d : ℕ) → p < 4 → d < 2 → awaits (processor_at h'.world p) d ≡ 0
      → (y : Entry) → Stands h'.world.trail y → fetches p d y ≡ true → y.stamp.global < now h'.world p
  slots_kept p d small two none y there fetch = go (trail_either ma mb f c h e known later time y there) (runs.slots p d small two none)
    where
      go : Stands w.trail y ⊎ (e.entry ≡ Some y) → (awaits (processor_at w p) d ≡ 0) ⊎ ((m : Message ℕ) × (Stands w.messages m × (crosses 18 (device_node d) p m ≡ true)) × (m.clock < now e.next p))
          → y.stamp.global < now e.next p
      go (inl old) (inl rest) = let low = line.slots p d small two rest y old fetch in let on = now_on ma mb f c h e known later time p in omega arith
      go (inl old) (inr value) = let low = line.values p d small two value.0 value.1.0 value.1.1 y old fetch in let past = value.2 in omega arith
      go (inr new) (inl rest) = let m = rio_waits ma mb f h known p d small two y fetch (runs.does y new) in absurd (none_at_rest ma mb f h known p d small two rest m.0 m.1 (inl m.2))
      go (inr new) (inr value) =
          let m = rio_waits ma mb f h known p d small two y fetch (runs.does y new) in
          absurd (one_for_slot ma mb f h known p d small two m.0 value.0 m.1 m.2 value.1.0 value.1.1)

  pub values_kept : (p d : ℕ) → p < 4 → d < 2 → (m : Message ℕ) → Stands h'.world.messages m → crosses 18 (device_node d) p m ≡ true
      → (y : Entry) → Stands h'.world.trail y → fetches p d y ≡ true → y.stamp.global ≤ m.clock
  values_kept p d small two m sm value y there fetch = go (messages_either ma mb f c h e known later time m sm) (trail_either ma mb f c h e known later time y there)
    where
      go : Stands w.messages m ⊎ Stands (sent e.sent) m → Stands w.trail y ⊎ (e.entry ≡ Some y) → y.stamp.global ≤ m.clock
      go (inl old) (inl done) = line.values p d small two m old value y done fetch
      go (inl old) (inr new) =
          let o = rio_waits ma mb f h known p d small two y fetch (runs.does y new) in
          absurd (one_for_slot ma mb f h known p d small two o.0 m o.1 o.2 old value)
      go (inr now_sent) (inl done) =
          let b = runs.values p d small two m now_sent value in
          let k = is_fetch p d y fetch in
          let space : y.space ≡ 1 + d = k.space in
          let at : y.stamp.node ≡ device_node d = seated_at ma mb f h known line y done ∙ io_seat y (entry_access y) refl (ldio_is y.operation k.ldio).0 ∙ omega arith in
          let past = past_at ma mb f h known line y done (device_node d) at in
          let on = now_on ma mb f c h e known later time (device_node d) in
          let stamp : b.entry.stamp.global ≡ now e.next (device_node d) = stamped_now ma mb f c h e known later time b.entry b.does ∙ ap (now e.next) b.node in
          let clock : m.clock ≡ b.entry.stamp.global = b.clock in
          omega arith
      go (inr now_sent) (inr new) =
          let b = runs.values p d small two m now_sent value in
          let same = ap (λ (x : Entry). x.stamp.global) (same_Some y b.entry (sym new ∙ b.does)) in
          let clock : m.clock ≡ b.entry.stamp.global = b.clock in
          omega arith

  -- a block operation is not done while nothing is out for its block
  none_done : (d b : ℕ) → d < 2 → b < 16 → out (requests_at w d) b ≡ None → (y : Entry) → y.party ≡ device_node d → is_block y.operation ≡ true → y.place ≡ b → Does w y → ⊥
  none_done d b two small none y by block at (on_memory low memory space rest) = both_ways (is_memory y.operation) (block_is y.operation block).0 memory
  none_done d b two small none y by block at (on_own device io space) = both_ways (is_io y.operation) (block_is y.operation block).1 io
  none_done d b two small none y by block at (delivered i m there turn carried goes past) =
      both_ways (asks_about d b m) (stands_all _ w.messages m (known.tracked.asked d b two small none) (i, there))
      (carries_block d y.sequence b m (subst (λ (n : ℕ). carries n y.sequence m ≡ true) by carried)
      (subst (λ (a : Access). is_block a.operation ≡ true) (sym goes) block) (ap (λ (a : Access). a.place) goes ∙ at))
  none_done d b two small none y by block at (gathered j low served goes past) =
      let same : j ≡ b = ap (λ (a : Access). a.place) goes ∙ at in
      both_ways (gathers_for d (home_at w j)) (known.tracked.served d j two low (subst (λ (n : ℕ). out (requests_at w d) n ≡ None) (sym same) none))
      (serves_for d y.sequence (home_at w j) (subst (λ (n : ℕ). serves n y.sequence (home_at w j) ≡ true) by served))

  pub blocks_kept : (d b : ℕ) → d < 2 → b < 16 → out (requests_at h'.world d) b ≡ None
      → (y : Entry) → Stands h'.world.trail y → reaches d b y ≡ true → y.stamp.global < now h'.world (device_node d)
  blocks_kept d b two small none y there reach = go (trail_either ma mb f c h e known later time y there) (runs.outs d b two small none)
    where
      parts : (eqb y.party (device_node d) ≡ true) × ((is_block y.operation && eqb y.place b) ≡ true)
      parts = and_parts (eqb y.party (device_node d)) _ reach

      block : (is_block y.operation ≡ true) × (eqb y.place b ≡ true)
      block = and_parts (is_block y.operation) (eqb y.place b) parts.1

      at : y.place ≡ b
      at = eqb-true y.place b block.1

      go : Stands w.trail y ⊎ (e.entry ≡ Some y) → (out (requests_at w d) b ≡ None) ⊎ ((now w (home_node b) < now e.next (device_node d)) × (e.entry ≡ None))
          → y.stamp.global < now e.next (device_node d)
      go (inl old) (inl rest) =
          let low = line.blocks d b two small rest y old reach in
          let on = now_on ma mb f c h e known later time (device_node d) in
          omega arith
      go (inl old) (inr reply) =
          let node : y.stamp.node ≡ home_node b = seated_at ma mb f h known line y old ∙ block_seat y block.0 ∙ ap home_node at in
          let past = past_at ma mb f h known line y old (home_node b) node in
          let up = reply.0 in
          omega arith
      go (inr new) (inl rest) = absurd (none_done d b two small rest y (eqb-true y.party (device_node d) parts.0) block.0 at (runs.does y new))
      go (inr new) (inr reply) = never (let clash : None ≡ Some y = sym reply.1 ∙ new in cc)
