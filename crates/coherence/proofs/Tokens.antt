-- Tokens and agreement of one block: how requests out, questions asked and copies held stand to what is on its way, for each
-- node q, as sums of tests. A request that is out is in exactly one place, and so is a question or a reply; and the copies
-- are as the directory says, but for what is on its way.
use Rattle.std.proofs.Common.{◌≡◌, ℕ, ◌+◌, ◌<◌, ◌≤◌, Bool, true, ◌&&◌, ◌||◌, eqb, leb, List, length, Some, None, Option}
use Rattle.home.specs.Directories.{round_of}
use Rattle.home.specs.Laws.{has_replied}
use Rattle.home.specs.Requests.{asks_down}
use Rattle.home.specs.Sets.{has}
use Rattle.home.specs.declared.machine.Home.{Home}
use Rattle.message.specs.Kinds.{kind_number, is_request}
use Rattle.message.specs.declared.kind.Kind.{Kind}
use Rattle.message.specs.declared.message.Message.{Message}
use Rattle.processor.specs.declared.line.Line.{Line}
use Rattle.processor.specs.declared.line.Line.TheVariants.{Invalid, Shared, Exclusive}
use Rattle.std.specs.List.{AllByRecursion as All}
use Rattle.coherence.proofs.Blocks.{Block, pending, token}
use Rattle.coherence.proofs.Carrying.{gathers}
use Rattle.coherence.proofs.Counting.{indicator}

-- Lines and requests as numbers.
abbrev pub shared : Line → ℕ
shared Invalid = 0
shared (Shared ws) = 1
shared (Exclusive ws) = 0

abbrev pub owned : Line → ℕ
owned Invalid = 0
owned (Shared ws) = 0
owned (Exclusive ws) = 1

abbrev pub held : Line → ℕ
held Invalid = 0
held (Shared ws) = 1
held (Exclusive ws) = 1

abbrev pub out_is : Option Kind → ℕ → ℕ
out_is None k = 0
out_is (Some j) k = indicator (eqb (kind_number j) k)

-- The home as numbers: whether it gathers for, or has replied to, node q; whether q holds a copy or is awaited; whether the
-- copy is exclusive, and whether holders are asked by DOWN.
abbrev pub gathering : Home ℕ → ℕ
gathering h = indicator (gathers h)

abbrev pub serving : Home ℕ → ℕ → ℕ → ℕ
serving h k q = indicator (gathers h && (eqb (kind_number (round_of h.directory).request.kind) k && eqb (round_of h.directory).request.requester q))

abbrev pub answering : Home ℕ → ℕ → ℕ
answering h q = indicator (has_replied h && eqb (round_of h.directory).request.requester q)

abbrev pub holder : Home ℕ → ℕ → ℕ
holder h q = indicator (has h.directory.holders q)

abbrev pub awaited : Home ℕ → ℕ → ℕ
awaited h q = indicator (has (round_of h.directory).awaited q)

abbrev pub exclusive : Home ℕ → ℕ
exclusive h = indicator h.directory.exclusive

abbrev pub lowers : Home ℕ → ℕ
lowers h = indicator (asks_down (round_of h.directory).request.kind)

-- A request out of node q is a waiting request, a NACK or reply on its way back, or a home that gathers for it; a home that has
-- replied to q has its reply or TAKEN on its way. Classes: requests 1 to 6, their NACKs 21 to 26, their replies 13 to 17
-- and 42, TAKEN 20.
pub record AskedFor (o : Option Kind) (h : Home ℕ) (ms : List (Message ℕ)) (q : ℕ) : Type 0 where
  pub gets : out_is o 1 ≡ pending ms 1 q + pending ms 21 q + pending ms 13 q + serving h 1 q
  pub getx : out_is o 2 ≡ pending ms 2 q + pending ms 22 q + pending ms 14 q + serving h 2 q
  pub upg : out_is o 3 ≡ pending ms 3 q + pending ms 23 q + pending ms 15 q + serving h 3 q
  pub wb : out_is o 4 ≡ pending ms 4 q + pending ms 24 q + pending ms 16 q + serving h 4 q
  pub rblk : out_is o 5 ≡ pending ms 5 q + pending ms 25 q + pending ms 17 q + serving h 5 q
  pub wblk : out_is o 6 ≡ pending ms 6 q + pending ms 26 q + pending ms 42 q + serving h 6 q
  pub reply : answering h q ≡ pending ms 13 q + pending ms 14 q + pending ms 15 q + pending ms 16 q + pending ms 17 q + pending ms 42 q + pending ms 20 q
  pub devices : 4 ≤ q → out_is o 1 + out_is o 2 + out_is o 3 + out_is o 4 ≡ 0
  pub processors : q < 4 → out_is o 5 + out_is o 6 ≡ 0

-- A processor q that is asked and not heard has INV (10), DOWN (11) or its ACK (12, marked 41) on its way.
pub record Gathered (h : Home ℕ) (ms : List (Message ℕ)) (q : ℕ) : Type 0 where
  pub waits : awaited h q ≡ pending ms 10 q + pending ms 11 q + pending ms 12 q + pending ms 41 q
  pub busy : awaited h q ≤ gathering h
  pub holds : awaited h q ≤ holder h q
  pub inv : pending ms 10 q + lowers h ≤ 1
  pub down : pending ms 11 q ≤ lowers h
  pub down_owner : pending ms 11 q ≤ exclusive h
  pub unmarked_inv : pending ms 12 q + lowers h ≤ 1
  pub unmarked : pending ms 12 q + exclusive h ≤ 1
  pub marked : pending ms 41 q ≤ exclusive h
  pub newcomer : serving h 1 q + serving h 2 q + holder h q ≤ 1
  pub upgrader : serving h 3 q ≤ holder h q
  pub upgrader_unasked : serving h 3 q + awaited h q ≤ 1
  pub upgrader_shares : serving h 3 q + exclusive h ≤ 1
  pub all_asked : gathering h + holder h q ≤ 1 + lowers h + awaited h q + serving h 3 q

-- A holder has its copy, or data (13, 14) or an acknowledgement of INV on its way; a copy is Exclusive only where the home
-- says so, and then it is the only one.
pub record Held (l : Line) (o : Option Kind) (h : Home ℕ) (ms : List (Message ℕ)) (q : ℕ) : Type 0 where
  pub missing : out_is o 1 + out_is o 2 + held l ≤ 1
  pub copy : held l + pending ms 13 q + pending ms 14 q ≤ holder h q
  pub known : holder h q ≤ held l + pending ms 13 q + pending ms 14 q + pending ms 12 q + pending ms 41 q
  pub lowered : holder h q + lowers h ≤ held l + pending ms 13 q + pending ms 14 q + 1
  pub taken_back : held l + pending ms 13 q + pending ms 14 q + pending ms 12 q + pending ms 41 q ≤ holder h q + lowers h
  pub owner : owned l + pending ms 14 q + pending ms 15 q ≤ exclusive h
  pub sharing : pending ms 13 q + exclusive h ≤ 1
  pub given_up : owned l + pending ms 12 q + pending ms 41 q ≤ 1
  pub shares : exclusive h + shared l ≤ 1 + pending ms 41 q + pending ms 15 q
  pub granted : pending ms 15 q ≤ shared l

-- Replies, by class: 13 to 17, and 42.
abbrev pub is_reply : ℕ → Bool
is_reply c = (leb 13 c && leb c 17) || eqb c 42

pub record Tokens (x : Block) : Type 0 where
  pub asked : (q : ℕ) → AskedFor (x.out q) x.home x.messages q
  pub gathered : (q : ℕ) → Gathered x.home x.messages q
  pub copies : (q : ℕ) → Held (x.line q) (x.out q) x.home x.messages q
  pub one : (p q : ℕ) → (p ≡ q → ⊥) → exclusive x.home + holder x.home p + holder x.home q ≤ 2
  pub some : exclusive x.home ≤ holder x.home 0 + holder x.home 1 + holder x.home 2 + holder x.home 3
  pub owner_asked : gathering x.home + exclusive x.home ≤ 1 + awaited x.home 0 + awaited x.home 1 + awaited x.home 2 + awaited x.home 3
  pub holders_four : length x.home.directory.holders.at ≡ 4
  pub awaited_four : length (round_of x.home.directory).awaited.at ≡ 4
  pub asks : gathers x.home ≡ true → is_request (round_of x.home.directory).request.kind ≡ true
  pub clocks : All (λ m. is_reply (token m) ≡ true → m.clock ≡ x.home.clock.global) x.messages
