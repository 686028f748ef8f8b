-- Operations under way: what carries each one, and how those that were issued stand to those that are done.
use Rattle.std.proofs.Common.{◌≡◌, ℕ, ◌+◌, ◌-◌, ◌<◌, Bool, true, false, cond, ◌&&◌, ◌||◌, eqb, ltb, List, Some, None, Option}
use Rattle.home.specs.Directories.{round_of}
use Rattle.home.specs.declared.directory.Phase.TheVariants.{Free, Gathering, Replied}
use Rattle.home.specs.declared.machine.Home.{Home}
use Rattle.message.specs.Kinds.{same_kind}
use Rattle.message.specs.Nodes.{device_node}
use Rattle.message.specs.declared.kind.Kind.{Kind}
use Rattle.message.specs.declared.kind.Kind.TheVariants as kind
use Rattle.message.specs.declared.message.Message.{Message}
use Rattle.ordering.specs.declared.operation.Operation.TheVariants.{LdIo, StIo, Int, LdBlk, StBlk}
use Rattle.ordering.specs.declared.order.Access.{Access}
use Rattle.std.specs.List.{AllByRecursion as All}
use Rattle.trail.specs.declared.entry.Entry.{Entry}
use Rattle.coherence.proofs.Counting.{indicator, count}
use Rattle.coherence.proofs.Rising.{Pairs}
use Rattle.coherence.proofs.Slots.{awaits}
use Rattle.coherence.proofs.Tally.{traffic}
use Rattle.coherence.specs.Histories.{History, Issued, access}
use Rattle.coherence.specs.Promise.{Stands}
use Rattle.coherence.specs.Worlds.{World, processor_at, home_at}

-- A message with which an operation goes to where it is done.
abbrev pub is_errand : Kind → Bool
is_errand k = (same_kind k kind.Rblk || same_kind k kind.Wblk) || (same_kind k kind.Rio || (same_kind k kind.Wio || same_kind k kind.Int))

abbrev pub is_block_request : Kind → Bool
is_block_request k = same_kind k kind.Rblk || same_kind k kind.Wblk

abbrev pub refuses_block : Option Kind → Bool
refuses_block None = false
refuses_block (Some k) = is_block_request k

-- The message carries operation s of party n: as an errand of n, or as a NACK that gives a block request back to n.
abbrev pub carries : ℕ → ℕ → Message ℕ → Bool
carries n s m =
    eqb m.sequence s
    && cond (same_kind m.kind kind.Nack) (refuses_block m.refused && eqb m.receiver n) (is_errand m.kind && eqb m.sender n)

abbrev pub gathers : Home ℕ → Bool
gathers h = elim h.directory.phase [ Free ↦ false | Gathering g ↦ true | Replied r ↦ false ]

-- The home gathers acknowledgements for operation s of party n.
abbrev pub serves : ℕ → ℕ → Home ℕ → Bool
serves n s h =
    gathers h
    && (is_block_request (round_of h.directory).request.kind && (eqb (round_of h.directory).request.requester n && eqb (round_of h.directory).request.sequence s))

abbrev pub done_as : ℕ → ℕ → Entry → Bool
done_as n s e = eqb e.party n && eqb e.sequence s

-- What an operation goes to: of an entry, of what carries it, and of a home that serves it.
abbrev pub entry_access : Entry → Access
entry_access e = access e.operation e.space e.place

abbrev pub block_access : Kind → ℕ → Access
block_access k b = access (cond (same_kind k kind.Rblk) LdBlk StBlk) 0 b

abbrev pub refused_kind : Option Kind → Kind
refused_kind None = kind.Nack
refused_kind (Some k) = k

abbrev pub errand_access : Kind → ℕ → ℕ → Access
errand_access k r p =
    cond (same_kind k kind.Rio) (access LdIo (r - 3) p)
    (cond (same_kind k kind.Wio) (access StIo (r - 3) p)
    (cond (same_kind k kind.Int) (access Int 3 p)
    (block_access k p)))

abbrev pub carried_access : Message ℕ → Access
carried_access m =
    cond (same_kind m.kind kind.Nack) (block_access (refused_kind m.refused) m.place) (errand_access m.kind m.receiver m.place)

abbrev pub served_access : ℕ → Home ℕ → Access
served_access b h = block_access (round_of h.directory).request.kind b

abbrev pub issued_as : ℕ → ℕ → Access → Issued
issued_as n s a = record { party = n; sequence = s; access = a }

module _ {A B : Type 0} where
  -- The number that a party's next operation gets.
  abbrev pub next_number : World A B → ℕ → ℕ
  next_number w n =
      cond (ltb n 4) (processor_at w n).sequence
      (cond (eqb n 4) w.first.sequence
      (cond (eqb n 5) w.second.sequence 0))

  -- Each operation that got a number is done once or carried once.
  abbrev pub Balanced : World A B → Type 0
  Balanced w =
      (n s : ℕ) → count (done_as n s) w.trail + (count (carries n s) w.messages + count (serves n s) w.homes)
      ≡ indicator (ltb s (next_number w n))

  -- What is done, carried or served is what was issued under its number.
  pub record Accounted (issued : List Issued) (w : World A B) : Type 0 where
    pub entries : All (λ e. Stands issued (issued_as e.party e.sequence (entry_access e))) w.trail
    pub messages : All (λ m. (n s : ℕ) → carries n s m ≡ true → Stands issued (issued_as n s (carried_access m))) w.messages
    pub homes : (b n s : ℕ) → b < 16 → serves n s (home_at w b) ≡ true → Stands issued (issued_as n s (served_access b (home_at w b)))
    pub numbers : All (λ x. x.sequence < next_number w x.party) issued
    pub rising : Pairs (λ x y. x.party ≡ y.party → x.sequence < y.sequence) issued

  -- A slot awaits its word exactly while one Rio or VALUE for it waits.
  abbrev pub SlotsBalanced : World A B → Type 0
  SlotsBalanced w =
      (p d : ℕ) → p < 4 → d < 2
      → awaits (processor_at w p) d ≡ traffic w.messages 7 p (device_node d) + traffic w.messages 18 (device_node d) p

  pub record Numbered (h : History A B) : Type 0 where
    pub balanced : Balanced h.world
    pub accounted : Accounted h.issued h.world
    pub slots : SlotsBalanced h.world
