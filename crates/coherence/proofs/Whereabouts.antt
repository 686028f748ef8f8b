-- Every operation that was issued is done, or something carries it: so where nothing can, it is done.
use Rattle.std.proofs.Common.{◌≡◌, ℕ, ◌+◌, ◌-◌, ◌<◌, ◌≤◌, true, false, ◌||◌, eqb, ◌⊎◌, List, length, get_or, Some, None, sym, refl, ap, subst, inl, inr, ⊎_elim, arith}
use Rattle.device.specs.Meaning.{Meaning}
use Rattle.home.specs.declared.machine.Home.{Home}
use Rattle.message.specs.Kinds.{same_kind}
use Rattle.message.specs.Messages.{no_message}
use Rattle.message.specs.Nodes.{device_node, is_device}
use Rattle.message.specs.Requests.{out}
use Rattle.message.specs.declared.figures.Figures.{Figures}
use Rattle.message.specs.declared.kind.Kind.TheVariants as kind
use Rattle.message.specs.declared.message.Message.{Message}
use Rattle.ordering.specs.Operations.{is, is_block}
use Rattle.ordering.specs.Orders.{is_io}
use Rattle.ordering.specs.declared.operation.Operation.{Operation}
use Rattle.ordering.specs.declared.operation.Operation.TheVariants.{LdIo}
use Rattle.ordering.specs.declared.order.Access.{Access}
use Rattle.std.proofs.lemmas.Bool.{and_parts, eqb-true, lt-ltb, cases_lt, both_ways}
use Rattle.std.proofs.lemmas.Bool.Decides.{nat_tests}
use Rattle.std.proofs.lemmas.Option.{get_or_from_slice_get, slice_get_within}
use Rattle.std.specs.List.{slice_get}
use Rattle.trail.specs.declared.entry.Entry.{Entry}
use Rattle.coherence.proofs.Carrying.{carries, serves, done_as, entry_access, carried_access, served_access, issued_as, next_number}
use Rattle.coherence.proofs.Counting.{indicator, count}
use Rattle.coherence.proofs.FormsBuilt.{Well}
use Rattle.coherence.proofs.Orderly.{is_memory, asks_about, gathers_for, requests_at, Known}
use Rattle.coherence.proofs.Slots.{awaits}
use Rattle.coherence.proofs.Standing.{stands_all, counted_stands, pairs_order}
use Rattle.coherence.proofs.Tally.{crosses, traffic_out}
use Rattle.coherence.specs.Histories.{History, Issued}
use Rattle.coherence.specs.Promise.{Stands}
use Rattle.coherence.specs.Worlds.{World, processor_at, home_at, no_home}

pub nth_inside : {X : Type 0} (xs : List X) (i : ℕ) (x d : X) → slice_get xs i ≡ Some x → (i < length xs) × (get_or xs i d ≡ x)
nth_inside xs i x d is = (slice_get_within xs i x is, get_or_from_slice_get xs i x d is)

-- what a message carries
carries_no_memory : (m : Message ℕ) → is_memory (carried_access m).operation ≡ false
carries_no_memory m = grind (arith, nat_tests)

pub carries_io : (n s : ℕ) (m : Message ℕ) → carries n s m ≡ true → is_io (carried_access m).operation ≡ true
    → ((same_kind m.kind kind.Rio || same_kind m.kind kind.Wio) ≡ true) × (m.sender ≡ n) × (m.sequence ≡ s) × ((carried_access m).space ≡ m.receiver - 3)
carries_io n s m c io = (grind (arith, nat_tests), grind (arith, nat_tests), grind (arith, nat_tests), grind (arith, nat_tests))

pub carries_ldio : (n s : ℕ) (m : Message ℕ) → carries n s m ≡ true → is LdIo (carried_access m).operation ≡ true → same_kind m.kind kind.Rio ≡ true
carries_ldio n s m c io = grind (arith, nat_tests)

pub carries_block : (d s b : ℕ) (m : Message ℕ) → carries (device_node d) s m ≡ true → is_block (carried_access m).operation ≡ true → (carried_access m).place ≡ b
    → asks_about d b m ≡ true
carries_block d s b m c block at = grind (arith, nat_tests)

pub serves_block : (b : ℕ) (h : Home ℕ) → is_block (served_access b h).operation ≡ true
serves_block b h = grind (arith, nat_tests)

pub serves_for : (d s : ℕ) (h : Home ℕ) → serves (device_node d) s h ≡ true → gathers_for d h ≡ true
serves_for d s h c = grind (arith, nat_tests)

-- Rio and Wio go from a processor to a device.
pub io_ends : (f : Figures) (m : Message ℕ) → Well f m → (same_kind m.kind kind.Rio || same_kind m.kind kind.Wio) ≡ true
    → (m.sender < 4) × (is_device m.receiver ≡ true)
io_ends f m well io = (grind (arith, nat_tests), grind (arith, nat_tests))

-- An operation that was issued, done.
pub record Found (trail : List Entry) (z : Issued) : Type 0 where
  pub entry : Entry
  pub stands : Stands trail entry
  pub by : entry.party ≡ z.party
  pub numbered : entry.sequence ≡ z.sequence
  pub goes : entry_access entry ≡ z.access

module _ {A B : Type 0} (ma : Meaning A) (mb : Meaning B) (f : Figures) (h : History A B) (known : Known ma mb f h) where
  abbrev w : World A B
  w = h.world

  pub issued_once : (x y : Issued) → Stands h.issued x → Stands h.issued y → x.party ≡ y.party → x.sequence ≡ y.sequence → x ≡ y
  issued_once x y s t party number =
      ⊎_elim (λ same. same)
      (⊎_elim (λ (r : x.party ≡ y.party → x.sequence < y.sequence). absurd (let l = r party in let no_way : ⊥ = omega arith in no_way))
      (λ (r : y.party ≡ x.party → y.sequence < x.sequence). absurd (let l = r (sym party) in let no_way : ⊥ = omega arith in no_way)))
      (pairs_order (λ (x y : Issued). x.party ≡ y.party → x.sequence < y.sequence) h.issued x y known.numbered.accounted.rising s t)

  -- what an entry or a message is for
  pub entry_for : (z : Issued) → Stands h.issued z → (e : Entry) → Stands w.trail e → e.party ≡ z.party → e.sequence ≡ z.sequence → entry_access e ≡ z.access
  entry_for z s e there party number =
      ap (λ (x : Issued). x.access)
      (issued_once (issued_as e.party e.sequence (entry_access e)) z (stands_all _ w.trail e known.numbered.accounted.entries there) s party number)

  pub message_for : (z : Issued) → Stands h.issued z → (m : Message ℕ) → Stands w.messages m → carries z.party z.sequence m ≡ true → carried_access m ≡ z.access
  message_for z s m there c =
      ap (λ (x : Issued). x.access)
      (issued_once (issued_as z.party z.sequence (carried_access m)) z (stands_all _ w.messages m known.numbered.accounted.messages there z.party z.sequence c) s refl refl)

  pub home_for : (z : Issued) → Stands h.issued z → (b : ℕ) → b < 16 → serves z.party z.sequence (home_at w b) ≡ true → served_access b (home_at w b) ≡ z.access
  home_for z s b small c =
      ap (λ (x : Issued). x.access)
      (issued_once (issued_as z.party z.sequence (served_access b (home_at w b))) z (known.numbered.accounted.homes b z.party z.sequence small c) s refl refl)

  module _ (z : Issued) (s : Stands h.issued z) where
    abbrev NoMessage : Type 0
    NoMessage = (m : Message ℕ) → Stands w.messages m → carries z.party z.sequence m ≡ true → carried_access m ≡ z.access → ⊥

    abbrev NoHome : Type 0
    NoHome = (b : ℕ) → b < 16 → serves z.party z.sequence (home_at w b) ≡ true → served_access b (home_at w b) ≡ z.access → ⊥

    at_home : NoHome → 1 ≤ count (serves z.party z.sequence) w.homes → ⊥
    at_home none some =
        let x = counted_stands (serves z.party z.sequence) w.homes some in
        let n = nth_inside w.homes x.1.0 x.0 no_home x.1.1 in
        let b = x.1.0 in
        let small : b < 16 = omega (arith, n.0, known.formed.shape.homes) in
        let c : serves z.party z.sequence (home_at w b) ≡ true = subst (λ (k : Home ℕ). serves z.party z.sequence k ≡ true) (sym n.1) x.2 in
        none b small c (home_for z s b small c)

    at_message : NoMessage → 1 ≤ count (carries z.party z.sequence) w.messages → ⊥
    at_message none some =
        let x = counted_stands (carries z.party z.sequence) w.messages some in
        none x.0 x.1 x.2 (message_for z s x.0 x.1 x.2)

    pub done_when : NoMessage → NoHome → Found w.trail z
    done_when no_message no_home = go (cases_lt 0 (count (done_as z.party z.sequence) w.trail)) (cases_lt 0 (count (carries z.party z.sequence) w.messages))
      where
        go : (0 < count (done_as z.party z.sequence) w.trail) ⊎ (count (done_as z.party z.sequence) w.trail ≤ 0)
            → (0 < count (carries z.party z.sequence) w.messages) ⊎ (count (carries z.party z.sequence) w.messages ≤ 0)
            → Found w.trail z
        go (inl some) k =
            let x = counted_stands (done_as z.party z.sequence) w.trail some in
            let e = x.0 in
            let p = and_parts (eqb e.party z.party) (eqb e.sequence z.sequence) x.2 in
            let party = eqb-true e.party z.party p.0 in
            let number = eqb-true e.sequence z.sequence p.1 in
            record { entry = e; stands = x.1; by = party; numbered = number; goes = entry_for z s e x.1 party number }
        go (inr none) (inl some) = absurd (at_message no_message some)
        go (inr none) (inr no_carrier) =
            let low = stands_all _ h.issued z known.numbered.accounted.numbers s in
            let one = ap indicator (lt-ltb z.sequence (next_number w z.party) low) in
            let all = known.numbered.balanced z.party z.sequence in
            absurd (at_home no_home (omega arith))

    -- An LD or ST is done at once,
    pub memory_done : is_memory z.access.operation ≡ true → Found w.trail z
    memory_done memory =
        done_when
        (λ m there c is. both_ways (is_memory z.access.operation) (subst (λ (a : Access). is_memory a.operation ≡ false) is (carries_no_memory m)) memory)
        (λ b small c is. no_block z.access.operation memory (subst (λ (a : Access). is_block a.operation ≡ true) is (serves_block b (home_at w b))))
      where
        no_block : (o : Operation) → is_memory o ≡ true → is_block o ≡ true → ⊥
        no_block o x y = grind (arith, nat_tests)

    no_io_block : (o : Operation) → is_io o ≡ true → is_block o ≡ true → ⊥
    no_io_block o x y = grind (arith, nat_tests)

    -- so is a device's own LDio or STio,
    pub own_done : is_device z.party ≡ true → is_io z.access.operation ≡ true → Found w.trail z
    own_done device io =
        done_when
        (λ m there c is.
        let i = carries_io z.party z.sequence m c (subst (λ (a : Access). is_io a.operation ≡ true) (sym is) io) in
        let e = io_ends f m (stands_all (Well f) w.messages m known.formed.messages there) i.0 in
        apart z.party device (omega (arith, e.0, i.1)))
        (λ b small c is. no_io_block z.access.operation io (subst (λ (a : Access). is_block a.operation ≡ true) is (serves_block b (home_at w b))))
      where
        apart : (n : ℕ) → is_device n ≡ true → n < 4 → ⊥
        apart n x y = grind (arith, nat_tests)

    -- a block operation while nothing is out for its block,
    pub block_done : (d : ℕ) → d < 2 → z.party ≡ device_node d → is_block z.access.operation ≡ true → z.access.place < 16
        → out (requests_at w d) z.access.place ≡ None → Found w.trail z
    block_done d two party block small none =
        done_when
        (λ m there c is.
        both_ways (asks_about d z.access.place m)
        (stands_all _ w.messages m (known.tracked.asked d z.access.place two small none) there)
        (carries_block d z.sequence z.access.place m (subst (λ (n : ℕ). carries n z.sequence m ≡ true) party c)
        (subst (λ (a : Access). is_block a.operation ≡ true) (sym is) block) (ap (λ (a : Access). a.place) is)))
        (λ b low c is.
        let same : b ≡ z.access.place = ap (λ (a : Access). a.place) is in
        both_ways (gathers_for d (home_at w b)) (known.tracked.served d b two low (subst (λ (n : ℕ). out (requests_at w d) n ≡ None) (sym same) none))
        (serves_for d z.sequence (home_at w b) (subst (λ (n : ℕ). serves n z.sequence (home_at w b) ≡ true) party c)))

    -- and a processor's LDio while its slot awaits nothing.
    pub fetch_done : (d : ℕ) → d < 2 → z.party < 4 → is LdIo z.access.operation ≡ true → z.access.space ≡ 1 + d
        → awaits (processor_at w z.party) d ≡ 0 → Found w.trail z
    fetch_done d two small ldio space none =
        done_when
        (λ m there c to_it.
        let is_ldio = subst (λ (a : Access). is LdIo a.operation ≡ true) (sym to_it) ldio in
        let i = carries_io z.party z.sequence m c (subst (λ (a : Access). is_io a.operation ≡ true) (sym to_it) (is_device_load z.access.operation ldio)) in
        let r = carries_ldio z.party z.sequence m c is_ldio in
        let n = nth_inside w.messages there.0 m no_message there.1 in
        let sp : (carried_access m).space ≡ z.access.space = ap (λ (a : Access). a.space) to_it in
        let to : m.receiver ≡ device_node d = omega (arith, i.3) in
        let x : crosses 7 z.party (device_node d) (get_or w.messages there.0 no_message) ≡ true = subst (λ (y : Message ℕ). crosses 7 z.party (device_node d) y ≡ true) (sym n.1) (goes m r i.1 to) in
        let one = ap indicator x in
        let whole = traffic_out w.messages there.0 n.0 z.party (device_node d) 7 in
        let balance = known.numbered.slots z.party d small two in
        let no_way : ⊥ = omega arith in no_way)
        (λ b low c to_it. no_io_block z.access.operation (is_device_load z.access.operation ldio) (subst (λ (a : Access). is_block a.operation ≡ true) to_it (serves_block b (home_at w b))))
      where
        is_device_load : (o : Operation) → is LdIo o ≡ true → is_io o ≡ true
        is_device_load o x = grind (arith, nat_tests)

        goes : (m : Message ℕ) → same_kind m.kind kind.Rio ≡ true → m.sender ≡ z.party → m.receiver ≡ device_node d → crosses 7 z.party (device_node d) m ≡ true
        goes m x y t = grind (arith, nat_tests)
