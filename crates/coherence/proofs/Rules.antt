-- What the tokens of a block say of the receiver of each message that waits, and that a receiver so found has a rule.
use Rattle.std.proofs.lemmas.Bool.Decides.{nat_tests}
use Rattle.std.proofs.Common.{◌≡◌, ℕ, ◌+◌, ◌≤◌, true, false, is_some, arith}
use Rattle.home.specs.Directories.{awaits, view}
use Rattle.home.specs.Laws.{has_replied}
use Rattle.home.specs.Plans.{plan}
use Rattle.home.specs.Reactions.{awaits_taken, planned}
use Rattle.home.specs.Sets.{has}
use Rattle.home.specs.declared.directory.View.{View}
use Rattle.home.specs.declared.directory.View.TheVariants.{Busy}
use Rattle.home.specs.declared.machine.Home.{Home}
use Rattle.home.specs.Sets.{Processors}
use Rattle.home.specs.declared.request.Request.{Request}
use Rattle.message.specs.Kinds.{kind_number, is_request}
use Rattle.message.specs.Requests.{is_out, out}
use Rattle.message.specs.declared.kind.Kind.{Kind}
use Rattle.message.specs.declared.kind.Kind.TheVariants as kind
use Rattle.message.specs.declared.message.Message.{Message}
use Rattle.message.specs.Requests.{Requests}
use Rattle.processor.specs.Lines.{line_at}
use Rattle.processor.specs.Receive as receive
use Rattle.processor.specs.Slots.{slot_at, is_awaited}
use Rattle.processor.specs.declared.state.Processor.{Processor}
use Rattle.coherence.proofs.Blocks.{Block, pending}
use Rattle.coherence.proofs.Carrying.{gathers}
use Rattle.coherence.proofs.Counting.{indicator_most}
use Rattle.coherence.proofs.Shifts.{apart}
use Rattle.coherence.proofs.Sole.{copies_add, held_most}
use Rattle.coherence.proofs.Tokens.{Tokens, answering, awaited, gathering, held, holder, out_is, owned, shared}
use Rattle.coherence.proofs.TokensRequests.{by_request}

module _ (x : Block) (t : Tokens x) (p : ℕ) where
  -- GETS and GETX come from one that the home does not know as a holder, once the home is free,
  pub unknown : 1 ≤ pending x.messages 1 p + pending x.messages 2 p → gathers x.home ≡ false → has_replied x.home ≡ false → holder x.home p ≡ 0
  unknown waits idle silent = grind (arith, nat_tests)

  -- an ACK from one that is awaited, and TAKEN from the requester.
  pub hears : 1 ≤ pending x.messages 12 p + pending x.messages 41 p → awaits x.home.directory p ≡ true
  hears waits =
      let w = (t.gathered p).waits in
      let b = (t.gathered p).busy in
      let now : (1 ≤ awaited x.home p) × (1 ≤ gathering x.home) = omega arith in
      found x.home now.0 now.1
    where
      found : (h : Home ℕ) → 1 ≤ awaited h p → 1 ≤ gathering h → awaits h.directory p ≡ true
      found h one two = grind arith

  pub frees : 1 ≤ pending x.messages 20 p → awaits_taken x.home.directory p ≡ true
  frees waits = let r = (t.asked p).reply in found x.home (omega arith)
    where
      found : (h : Home ℕ) → 1 ≤ answering h p → awaits_taken h.directory p ≡ true
      found h one = grind arith

  -- INV finds a copy, DOWN an Exclusive one, GRANT a Shared one.
  pub finds_copy : 1 ≤ pending x.messages 10 p + pending x.messages 11 p → held (x.line p) ≡ 1
  finds_copy waits =
      let w = t.gathered p in
      let k = t.copies p in
      let r = (t.asked p).reply in
      let v = apart x.home p in
      omega (arith, indicator_most, held_most (x.line p))

  pub finds_owned : 1 ≤ pending x.messages 11 p → owned (x.line p) ≡ 1
  finds_owned waits =
      let copy = finds_copy (omega arith) in
      let w = t.gathered p in
      let k = t.copies p in
      let r = (t.asked p).reply in
      let v = apart x.home p in
      omega (arith, indicator_most, copies_add (x.line p))

  pub finds_shared : 1 ≤ pending x.messages 15 p → shared (x.line p) ≡ 1
  finds_shared waits = grind (arith, nat_tests)

  -- A reply or a NACK finds its request out.
  pub finds_request : (1 ≤ pending x.messages 13 p → 1 ≤ out_is (x.out p) 1) × (1 ≤ pending x.messages 14 p → 1 ≤ out_is (x.out p) 2)
      × (1 ≤ pending x.messages 15 p → 1 ≤ out_is (x.out p) 3) × (1 ≤ pending x.messages 16 p → 1 ≤ out_is (x.out p) 4)
      × (1 ≤ pending x.messages 17 p → 1 ≤ out_is (x.out p) 5) × (1 ≤ pending x.messages 42 p → 1 ≤ out_is (x.out p) 6)
  finds_request = let a = t.asked p in omega arith

  pub finds_refused : (k : Kind) → is_request k ≡ true → 1 ≤ pending x.messages (20 + kind_number k) p → 1 ≤ out_is (x.out p) (kind_number k)
  finds_refused =
      let a = t.asked p in
      by_request (λ n. 1 ≤ pending x.messages (20 + n) p → 1 ≤ out_is (x.out p) n)
      (λ waits. omega arith) (λ waits. omega arith) (λ waits. omega arith) (λ waits. omega arith) (λ waits. omega arith) (λ waits. omega arith)

-- The request is out.
pub out_found : (r : Requests) (b : ℕ) (k : Kind) → 1 ≤ out_is (out r b) (kind_number k) → is_out r b k ≡ true
out_found r b k one = grind (arith, nat_tests)

-- A request has a rule at a home unless a holder asks for a copy.
pub request_ruled : (h : Home ℕ) (b : ℕ) (r : Request) (v : View) (s : Processors) (p : ℕ) → is_request r.kind ≡ true
    → (kind_number r.kind ≤ 2 → (v ≡ Busy → ⊥) → has s p ≡ false) → is_some (planned h b r (plan r.kind v s p)) ≡ true
request_ruled h b r v s p is new = grind (arith, new)

pub idle_view : (h : Home ℕ) → (view h.directory ≡ Busy → ⊥) → (gathers h ≡ false) × (has_replied h ≡ false)
idle_view h is = grind arith

module _ (s : Processor ℕ) (n : ℕ) (m : Message ℕ) where
  pub inv_ruled : held (line_at s.lines m.place) ≡ 1 → is_some (receive.invalidated s n m) ≡ true
  inv_ruled is = grind arith

  pub down_ruled : owned (line_at s.lines m.place) ≡ 1 → is_some (receive.downgraded s n m) ≡ true
  down_ruled is = grind arith

  pub grant_ruled : is_out s.requests m.place kind.Upg ≡ true → shared (line_at s.lines m.place) ≡ 1 → is_some (receive.granted s n m) ≡ true
  grant_ruled asked is = grind arith

pub value_ruled : (s : Processor ℕ) (d v c : ℕ) → is_awaited (slot_at s.slots d) ≡ true → is_some (receive.fetched s d v c) ≡ true
value_ruled s d v c is = grind arith
