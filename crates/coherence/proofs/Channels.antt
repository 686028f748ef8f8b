-- What goes one way between a processor and a device is done in the order of its numbers: before the oldest message of its
-- pair, whatever goes the same way is done.
use Rattle.std.proofs.Common.{◌≡◌, ℕ, ◌-◌, ◌<◌, true, false, ◌||◌, ◌⊎◌, length, get_or, Some, None, sym, ap, ◌∙◌, subst, inl, inr, arith}
use Rattle.device.specs.Meaning.{Meaning}
use Rattle.message.proofs.Oldest.{others_go}
use Rattle.message.specs.Kinds.{same_kind}
use Rattle.message.specs.Messages.{no_message}
use Rattle.message.specs.Nodes.{is_device}
use Rattle.message.specs.Pairs.{is_pair, goes_alike, oldest_of_pair}
use Rattle.message.specs.declared.figures.Figures.{Figures}
use Rattle.message.specs.declared.kind.Kind.TheVariants as kind
use Rattle.message.specs.declared.message.Message.{Message}
use Rattle.ordering.specs.Operations.{is, is_block}
use Rattle.ordering.specs.Orders.{ordered, is_io}
use Rattle.ordering.specs.declared.operation.Operation.{Operation}
use Rattle.ordering.specs.declared.operation.Operation.TheVariants.{Int}
use Rattle.ordering.specs.declared.order.Access.{Access}
use Rattle.ordering.specs.declared.order.Party.{Party}
use Rattle.std.proofs.lemmas.Bool.{both_ways, cases_order, and_from, eq-eqb}
use Rattle.std.proofs.lemmas.Bool.Decides.{nat_tests}
use Rattle.std.proofs.lemmas.Option.{same_Some}
use Rattle.std.specs.List.{slice_get}
use Rattle.coherence.proofs.Carrying.{carries, carried_access}
use Rattle.coherence.proofs.FormsBuilt.{Well}
use Rattle.coherence.proofs.OrderTables.{before_io, before_int}
use Rattle.coherence.proofs.Orderly.{is_channel, Follows, InLine, Known}
use Rattle.coherence.proofs.Rising.{pairs_nth}
use Rattle.coherence.proofs.Settling.{of_processor, of_device, fits_processor}
use Rattle.coherence.proofs.Standing.{stands_all}
use Rattle.coherence.proofs.Whereabouts.{nth_inside, carries_io, serves_block, io_ends, Found, done_when}
use Rattle.coherence.specs.Histories.{History, Issued}
use Rattle.coherence.specs.Promise.{Stands, party_of}
use Rattle.coherence.specs.Worlds.{World, home_at}

-- an INT's or an LDio's or STio's message
int_carrier : (f : Figures) (m : Message ℕ) (n s : ℕ) → Well f m → carries n s m ≡ true → is Int (carried_access m).operation ≡ true
    → (is_channel m.kind ≡ true) × (m.sender ≡ n) × (m.sequence ≡ s) × ((carried_access m).place ≡ m.place)
int_carrier f m n s well c int = (grind (arith, nat_tests), grind (arith, nat_tests), grind (arith, nat_tests), grind (arith, nat_tests))

int_ends : (f : Figures) (m : Message ℕ) → Well f m → is_channel m.kind ≡ true → is_io (carried_access m).operation ≡ false
    → (is_device m.sender ≡ true) × (m.receiver < 4) × (m.receiver ≡ m.place)
int_ends f m well channel other = (grind (arith, nat_tests), grind (arith, nat_tests), grind (arith, nat_tests))

int_is_no_io : (o : Operation) → is Int o ≡ true → (is_io o ≡ false) × (is_block o ≡ false)
int_is_no_io o int = (grind (arith, nat_tests), grind (arith, nat_tests))

io_is_no_block : (o : Operation) → is_io o ≡ true → is_block o ≡ false
io_is_no_block o io = grind (arith, nat_tests)

io_channel : (m : Message ℕ) → (same_kind m.kind kind.Rio || same_kind m.kind kind.Wio) ≡ true → is_channel m.kind ≡ true
io_channel m io = grind (arith, nat_tests)

pair_out : (s r : ℕ) → s < 4 → is_device r ≡ true → is_pair s r ≡ true
pair_out s r small device = grind (arith, nat_tests)

pair_in : (s r : ℕ) → is_device s ≡ true → r < 4 → is_pair s r ≡ true
pair_in s r device small = grind (arith, nat_tests)

same_device : (r q : ℕ) → is_device r ≡ true → is_device q ≡ true → r - 3 ≡ q - 3 → r ≡ q
same_device r q x y same = grind (arith, nat_tests)

module _ {A B : Type 0} (ma : Meaning A) (mb : Meaning B) (f : Figures) (h : History A B) (known : Known ma mb f h) (line : InLine h) where
  abbrev w : World A B
  w = h.world

  well : (m : Message ℕ) → Stands w.messages m → Well f m
  well m there = stands_all (Well f) w.messages m known.formed.messages there

  -- the oldest of a pair has the smallest number
  oldest_first : (i : ℕ) (m : Message ℕ) → slice_get w.messages i ≡ Some m → oldest_of_pair w.messages i ≡ None → is_pair m.sender m.receiver ≡ true → is_channel m.kind ≡ true
      → (o : Message ℕ) → Stands w.messages o → is_channel o.kind ≡ true → o.sender ≡ m.sender → o.receiver ≡ m.receiver → o.sequence < m.sequence → ⊥
  oldest_first i m at turn pair channel o (j, there) also from to lower = go (cases_order j i)
    where
      here : (i < length w.messages) × (get_or w.messages i no_message ≡ m)
      here = nth_inside w.messages i m no_message at

      go : (j ≡ i) ⊎ ((j < i) ⊎ (i < j)) → ⊥
      go (inl same) =
          let equal = same_Some o m (sym there ∙ ap (slice_get w.messages) same ∙ at) in
          let number = ap (λ (y : Message ℕ). y.sequence) equal in
          omega arith
      go (inr (inl older)) =
          let pair' : is_pair (get_or w.messages i no_message).sender (get_or w.messages i no_message).receiver ≡ true = subst (λ (y : Message ℕ). is_pair y.sender y.receiver ≡ true) (sym here.1) pair in
          let none = others_go w.messages i here.0 turn pair' j older in
          let none' : goes_alike o m ≡ false = subst (λ (y : Message ℕ). goes_alike o y ≡ false) here.1
          (subst (λ (y : Message ℕ). goes_alike y (get_or w.messages i no_message) ≡ false) (nth_inside w.messages j o no_message there).1 none) in
          both_ways (goes_alike o m) none' (and_from _ _ (eq-eqb o.sender m.sender from) (eq-eqb o.receiver m.receiver to))
      go (inr (inr newer)) = let l = pairs_nth Follows w.messages i j m o line.channels at there newer channel also (sym from) (sym to) in omega arith

  -- an operation of a party that comes before one whose message is the oldest of its pair, and goes the same way, is done
  module _ (n s i : ℕ) (m : Message ℕ) (at : slice_get w.messages i ≡ Some m) (turn : oldest_of_pair w.messages i ≡ None) (c : carries n s m ≡ true) (z : Issued) (sz : Stands h.issued z) (party : z.party ≡ n) (lower : z.sequence < s)
      (before : ordered (party_of n) z.access (carried_access m) ≡ true) where
    pub io_before : is_io z.access.operation ≡ true → is_io (carried_access m).operation ≡ true → Found w.trail z × (z.access.space ≡ (carried_access m).space)
    io_before zio io =
        let x = carries_io n s m c io in
        let ends = io_ends f m (well m (i, at)) x.0 in
        let small : n < 4 = omega (arith, x.1, ends.0) in
        let fits = fits_processor z (omega arith) (line.fitting z sz) in
        let same = before_io z.access (carried_access m) io fits (subst (λ (q : Party). ordered q z.access (carried_access m) ≡ true) (of_processor n small) before) zio in (
          done_when ma mb f h known z sz
              (λ o there co goes.
              let oio = subst (λ (a : Access). is_io a.operation ≡ true) (sym goes) zio in
              let y = carries_io z.party z.sequence o co oio in
              let oends = io_ends f o (well o there) y.0 in
              let space : (carried_access o).space ≡ z.access.space = ap (λ (a : Access). a.space) goes in
              oldest_first i m at turn (pair_out m.sender m.receiver ends.0 ends.1) (io_channel m x.0) o there (io_channel o y.0)
              (y.1 ∙ party ∙ sym x.1)
              (same_device o.receiver m.receiver oends.1 ends.1 (sym y.3 ∙ space ∙ same ∙ x.3))
              (omega (arith, y.2, x.2)))
              (λ b low cb goes. both_ways (is_block z.access.operation) (io_is_no_block z.access.operation zio) (subst (λ (a : Access). is_block a.operation ≡ true) goes (serves_block b (home_at w b)))),
          same,
        )

    pub int_before : is Int z.access.operation ≡ true → is Int (carried_access m).operation ≡ true → Found w.trail z × (z.access.place ≡ (carried_access m).place)
    int_before zint int =
        let x = int_carrier f m n s (well m (i, at)) c int in
        let ends = int_ends f m (well m (i, at)) x.0 (int_is_no_io (carried_access m).operation int).0 in
        let device : is_device n ≡ true = subst (λ (k : ℕ). is_device k ≡ true) x.1 ends.0 in
        let same = before_int z.access (carried_access m) int (subst (λ (q : Party). ordered q z.access (carried_access m) ≡ true) (of_device n device) before) zint in (
          done_when ma mb f h known z sz
              (λ o there co goes.
              let oint = subst (λ (a : Access). is Int a.operation ≡ true) (sym goes) zint in
              let y = int_carrier f o z.party z.sequence (well o there) co oint in
              let oends = int_ends f o (well o there) y.0 (int_is_no_io (carried_access o).operation oint).0 in
              let place : (carried_access o).place ≡ z.access.place = ap (λ (a : Access). a.place) goes in
              oldest_first i m at turn (pair_in m.sender m.receiver ends.0 ends.1) x.0 o there y.0
              (y.1 ∙ party ∙ sym x.1)
              (oends.2 ∙ sym y.3 ∙ place ∙ same ∙ x.3 ∙ sym ends.2)
              (omega (arith, y.2, x.2)))
              (λ b low cb goes. both_ways (is_block z.access.operation) (int_is_no_io z.access.operation zint).1 (subst (λ (a : Access). is_block a.operation ≡ true) goes (serves_block b (home_at w b)))),
          same,
        )
