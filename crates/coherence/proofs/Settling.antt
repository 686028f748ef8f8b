-- What is done, and by which clock: a processor's operations on memory, a device's on its own words, its block operations
-- while nothing is out for the block, and what comes before an operation that starts.
use Rattle.std.proofs.Common.{◌≡◌, ℕ, ◌+◌, ◌<◌, ◌≤◌, true, false, ◌⊎◌, None, sym, ◌∙◌, subst, inl, inr, arith}
use Rattle.device.specs.Meaning.{Meaning}
use Rattle.message.specs.Nodes.{device_node, is_device}
use Rattle.message.specs.Requests.{out}
use Rattle.message.specs.declared.figures.Figures.{Figures}
use Rattle.ordering.specs.Operations.{is, is_block}
use Rattle.ordering.specs.Orders.{ordered, is_io}
use Rattle.ordering.specs.declared.operation.Operation.TheVariants.{Int}
use Rattle.ordering.specs.declared.order.Access.{Access}
use Rattle.ordering.specs.declared.order.Party.{Party}
use Rattle.ordering.specs.declared.order.Party.TheVariants.{Processor, Device}
use Rattle.std.proofs.lemmas.Bool.{cases_Bool}
use Rattle.std.proofs.lemmas.Bool.Decides.{nat_tests}
use Rattle.trail.specs.declared.entry.Entry.{Entry}
use Rattle.coherence.proofs.Carrying.{entry_access}
use Rattle.coherence.proofs.Dating.{Dated}
use Rattle.coherence.proofs.OrderTables.{before_block}
use Rattle.coherence.proofs.Orderly.{is_memory, processor_issues, device_issues, is_fitting, by_channel, reaches, DoneBy, now, requests_at, InLine, Known}
use Rattle.coherence.proofs.Seats.{Seated, seat}
use Rattle.coherence.proofs.Standing.{stands_all}
use Rattle.coherence.proofs.Whereabouts.{Found, memory_done, own_done, block_done}
use Rattle.coherence.specs.Histories.{History, Issued}
use Rattle.coherence.specs.Promise.{Stands, party_of}
use Rattle.coherence.specs.Worlds.{World}

-- which table a party has
pub of_processor : (n : ℕ) → n < 4 → party_of n ≡ Processor
of_processor n small = grind (arith, nat_tests)

pub of_device : (n : ℕ) → is_device n ≡ true → party_of n ≡ Device
of_device n device = grind (arith, nat_tests)

pub device_named : (d : ℕ) → d < 2 → is_device (device_node d) ≡ true
device_named d two = grind (arith, nat_tests)

pub fits_processor : (z : Issued) → z.party < 4 → is_fitting z ≡ true → processor_issues z.access ≡ true
fits_processor z small fits = grind (arith, nat_tests)

pub fits_device : (z : Issued) → is_device z.party ≡ true → is_fitting z ≡ true → device_issues z.party z.access ≡ true
fits_device z device fits = grind (arith, nat_tests)

pub not_io : (a : Access) → processor_issues a ≡ true → is_io a.operation ≡ false → is_memory a.operation ≡ true
not_io a fits other = grind (arith, nat_tests)

pub own_space : (n : ℕ) (a : Access) → device_issues n a ≡ true → is_io a.operation ≡ true → 3 + a.space ≡ n
own_space n a fits io = grind (arith, nat_tests)

no_channel : (z a : Access) → is_io a.operation ≡ true → by_channel z a ≡ false → is_io z.operation ≡ false
no_channel z a io other = grind (arith, nat_tests)

no_interrupt : (n : ℕ) (z a : Access) → is Int a.operation ≡ true → device_issues n z ≡ true → by_channel z a ≡ false → is_io z.operation ≡ false
    → (is_block z.operation ≡ true) × (z.place < 16)
no_interrupt n z a int fits other io = (grind (arith, nat_tests), grind (arith, nat_tests))

pub block_place : (n : ℕ) (a : Access) → device_issues n a ≡ true → is_block a.operation ≡ true → a.place < 16
block_place n a fits block = grind (arith, nat_tests)

-- where what was issued is done
pub memory_seat : (x : Entry) (a : Access) → entry_access x ≡ a → is_memory a.operation ≡ true → seat x ≡ x.party
memory_seat x a goes memory = grind (arith, nat_tests)

pub io_seat : (x : Entry) (a : Access) → entry_access x ≡ a → is_io a.operation ≡ true → seat x ≡ 3 + a.space
io_seat x a goes io = grind (arith, nat_tests)

pub int_seat : (x : Entry) (a : Access) → entry_access x ≡ a → is Int a.operation ≡ true → seat x ≡ a.place
int_seat x a goes int = grind (arith, nat_tests)

reached : (d : ℕ) (y : Entry) (a : Access) → entry_access y ≡ a → y.party ≡ device_node d → is_block a.operation ≡ true → reaches d a.place y ≡ true
reached d y a goes by block = grind (arith, nat_tests)

module _ {A B : Type 0} (ma : Meaning A) (mb : Meaning B) (f : Figures) (h : History A B) (known : Known ma mb f h) (line : InLine h) where
  abbrev w : World A B
  w = h.world

  -- an entry of a node is in the past of its clock
  pub past_at : (x : Entry) → Stands w.trail x → (n : ℕ) → x.stamp.node ≡ n → x.stamp.global ≤ now w n
  past_at x there n at = subst (λ (k : ℕ). x.stamp.global ≤ now w k) at (stands_all (Dated w) w.trail x known.dated there).0

  pub seated_at : (x : Entry) → Stands w.trail x → x.stamp.node ≡ seat x
  seated_at x there = stands_all Seated w.trail x known.seated there

  found_by : (z : Issued) (x : Found w.trail z) (n k : ℕ) → z.party ≡ n → x.entry.stamp.global ≤ k → DoneBy w.trail n z.sequence k
  found_by z x n k party low = record { entry = x.entry; stands = x.stands; by = x.by ∙ party; numbered = x.numbered; dated = low }

  module _ (z : Issued) (s : Stands h.issued z) (n : ℕ) (party : z.party ≡ n) where
    settled_memory : is_memory z.access.operation ≡ true → DoneBy w.trail n z.sequence (now w n)
    settled_memory memory =
        let x = memory_done ma mb f h known z s memory in
        let at = seated_at x.entry x.stands ∙ memory_seat x.entry z.access x.goes memory ∙ x.by ∙ party in
        found_by z x n (now w n) party (past_at x.entry x.stands n at)

    settled_own : is_device n ≡ true → is_io z.access.operation ≡ true → DoneBy w.trail n z.sequence (now w n)
    settled_own device io =
        let own = subst (λ (k : ℕ). is_device k ≡ true) (sym party) device in
        let x = own_done ma mb f h known z s own io in
        let at = seated_at x.entry x.stands ∙ io_seat x.entry z.access x.goes io ∙ own_space z.party z.access (fits_device z own (line.fitting z s)) io ∙ party in
        found_by z x n (now w n) party (past_at x.entry x.stands n at)

    settled_block : (d : ℕ) → d < 2 → n ≡ device_node d → is_block z.access.operation ≡ true → z.access.place < 16 → out (requests_at w d) z.access.place ≡ None
        → DoneBy w.trail n z.sequence (now w n)
    settled_block d two own block small none =
        let x = block_done ma mb f h known z s d two (party ∙ own) block small none in
        let low = line.blocks d z.access.place two small none x.entry x.stands (reached d x.entry z.access x.goes (x.by ∙ party ∙ own) block) in
        found_by z x n (now w n) party (subst (λ (k : ℕ). x.entry.stamp.global ≤ now w k) (sym own) (omega arith))

  -- what starts has all before it settled: at a call of a processor,
  pub settles_call : (n : ℕ) (a : Access) → n < 4 → is_io a.operation ≡ true
      → (z : Issued) → Stands h.issued z → z.party ≡ n → by_channel z.access a ≡ false → DoneBy w.trail n z.sequence (now w n)
  settles_call n a small io z s party other =
      let fits = fits_processor z (omega arith) (line.fitting z s) in
      settled_memory z s n party (not_io z.access fits (no_channel z.access a io other))

  -- and at a wish of a device.
  pub settles_wish : (n d : ℕ) (a : Access) → d < 2 → n ≡ device_node d
      → (is Int a.operation ≡ true → (b : ℕ) → out (requests_at w d) b ≡ None)
      → (is Int a.operation ≡ false → (device_issues n a ≡ true) × (is_block a.operation ≡ true) × (out (requests_at w d) a.place ≡ None))
      → (z : Issued) → Stands h.issued z → z.party ≡ n → ordered (party_of n) z.access a ≡ true → by_channel z.access a ≡ false → DoneBy w.trail n z.sequence (now w n)
  settles_wish n d a two own ints blocks z s party before other = go (cases_Bool (is_io z.access.operation)) (cases_Bool (is Int a.operation))
    where
      device : is_device n ≡ true
      device = subst (λ (k : ℕ). is_device k ≡ true) (sym own) (device_named d two)

      fits : device_issues n z.access ≡ true
      fits = subst (λ (k : ℕ). device_issues k z.access ≡ true) party (fits_device z (subst (λ (k : ℕ). is_device k ≡ true) (sym party) device) (line.fitting z s))

      go : (is_io z.access.operation ≡ true) ⊎ (is_io z.access.operation ≡ false) → (is Int a.operation ≡ true) ⊎ (is Int a.operation ≡ false)
          → DoneBy w.trail n z.sequence (now w n)
      go (inl io) k = settled_own z s n party device io
      go (inr io) (inl int) =
          let b = no_interrupt n z.access a int fits other io in
          settled_block z s n party d two own b.0 b.1 (ints int z.access.place)
      go (inr io) (inr no_int) =
          let k = blocks no_int in
          let b = before_block n z.access a k.1 k.0 fits (subst (λ (q : Party). ordered q z.access a ≡ true) (of_device n device) before) io in
          settled_block z s n party d two own b.0 (block_place n z.access fits b.0) (subst (λ (q : ℕ). out (requests_at w d) q ≡ None) (sym b.1) k.2)
