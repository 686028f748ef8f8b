-- The moves of one block's protocol: every accepted call is one of them for each block, or two in turn, where a home that
-- takes a request or hears the last acknowledgement also finishes. x is the block before, y after.
use Rattle.std.proofs.Common.{◌≡◌, ℕ, ◌/◌, ◌<◌, ◌≤◌, true, cond, eqb, ◌⊎◌, [], ◌∷◌, ◌++◌, length, Some, None, Option}
use Rattle.home.specs.Directories.{round_of, view, awaits, freed}
use Rattle.home.specs.Homes.{home}
use Rattle.home.specs.Plans.{plan}
use Rattle.home.specs.Reactions.{reply, finished, asks, asking_home, heard_home, clock_freed, awaits_taken}
use Rattle.home.specs.Requests.{request_of, asks_by}
use Rattle.home.specs.Sets.{nobody, is_empty}
use Rattle.home.specs.declared.directory.Phase.TheVariants.{Free}
use Rattle.home.specs.declared.plan.Plan.TheVariants.{Ask}
use Rattle.home.specs.Sets.{Processors}
use Rattle.message.specs.Kinds.{kind_number, is_request}
use Rattle.message.specs.Messages.{plain}
use Rattle.message.specs.Nodes.{home_node}
use Rattle.message.specs.Reactions.{sent}
use Rattle.message.specs.declared.kind.Kind.{Kind}
use Rattle.message.specs.declared.kind.Kind.TheVariants as kind
use Rattle.message.specs.declared.message.Message.{Message}
use Rattle.ordering.specs.Words.{one_word, no_words}
use Rattle.ordering.specs.declared.operation.Operation.{Operation}
use Rattle.ordering.specs.declared.operation.Operation.TheVariants.{Ld, St}
use Rattle.ordering.specs.declared.operation.Words.{Words}
use Rattle.processor.specs.Calls.{fits}
use Rattle.processor.specs.Lines.{held_words, word_of, with_word}
use Rattle.processor.specs.declared.line.Line.{Line}
use Rattle.processor.specs.declared.line.Line.TheVariants.{Invalid, Shared, Exclusive}
use Rattle.std.specs.Option.{option_to_list}
use Rattle.trail.specs.declared.entry.Entry.{Entry}
use Rattle.coherence.proofs.Blocks.{Block, Posted, token, peer, done_to_device}
use Rattle.coherence.proofs.Carrying.{gathers, is_block_request}
use Rattle.coherence.proofs.Classes.{marked_ack, refusal_of}

-- An operation of processor p on word w of memory, at global number c.
pub record Operates (p w : ℕ) (o : Operation) (v c : ℕ) (e : Entry) : Type 0 where
  pub operation : e.operation ≡ o
  pub space : e.space ≡ 0
  pub place : e.place ≡ w
  pub values : e.values ≡ one_word v
  pub node : e.stamp.node ≡ p
  pub global : e.stamp.global ≡ c

module _ (b : ℕ) (x y : Block) where
  abbrev pub LinesStay : Type 0
  LinesStay = (q : ℕ) → y.line q ≡ x.line q

  abbrev pub LinePut : ℕ → Line → Type 0
  LinePut p l = (q : ℕ) → y.line q ≡ cond (eqb p q) l (x.line q)

  abbrev pub OutsStay : Type 0
  OutsStay = (q : ℕ) → y.out q ≡ x.out q

  abbrev pub OutPut : ℕ → Option Kind → Type 0
  OutPut p o = (q : ℕ) → y.out q ≡ cond (eqb p q) o (x.out q)

  abbrev pub ClocksStay : Type 0
  ClocksStay = (q : ℕ) → y.clock q ≡ x.clock q

  abbrev pub ClocksRise : Type 0
  ClocksRise = (q : ℕ) → x.clock q ≤ y.clock q

  -- What happens elsewhere.
  pub record Rests : Type 0 where
    pub lines : LinesStay
    pub outs : OutsStay
    pub clocks : ClocksRise
    pub home : y.home ≡ x.home
    pub messages : y.messages ≡ x.messages
    pub trail : y.trail ≡ x.trail

  -- Processor p loads word w of a line with words ws.
  pub record Loads (p w : ℕ) (ws : Words) (e : Entry) : Type 0 where
    pub small : p < 4
    pub word : w / 4 ≡ b
    pub held : held_words (x.line p) ≡ Some ws
    pub entry : Operates p w Ld (word_of ws w) (x.clock p) e
    pub lines : LinesStay
    pub outs : OutsStay
    pub clocks : ClocksStay
    pub home : y.home ≡ x.home
    pub messages : y.messages ≡ x.messages
    pub trail : y.trail ≡ x.trail ++ e ∷ []

  -- Processor p stores v to word w of its line, which is Exclusive.
  pub record Stores (p w v : ℕ) (ws : Words) (e : Entry) : Type 0 where
    pub small : p < 4
    pub word : w / 4 ≡ b
    pub owned : x.line p ≡ Exclusive ws
    pub entry : Operates p w St v (x.clock p) e
    pub lines : LinePut p (Exclusive (with_word ws w v))
    pub outs : OutsStay
    pub clocks : ClocksStay
    pub home : y.home ≡ x.home
    pub messages : y.messages ≡ x.messages
    pub trail : y.trail ≡ x.trail ++ e ∷ []

  -- Node n sends a request: a processor one that fits its line, a device Rblk or Wblk.
  pub record Requests (n : ℕ) (k : Kind) (m : Message ℕ) : Type 0 where
    pub free : x.out n ≡ None
    pub fit : ((n < 4) × (fits (x.line n) k ≡ true)) ⊎ ((4 ≤ n) × (is_block_request k ≡ true))
    pub class : token m ≡ kind_number k
    pub end : peer m ≡ n
    pub four : length m.words.at ≡ 4
    pub lines : LinesStay
    pub outs : OutPut n (Some k)
    pub clocks : ClocksStay
    pub home : y.home ≡ x.home
    pub messages : Posted x.messages [] (m ∷ []) y.messages
    pub trail : y.trail ≡ x.trail

  -- Processor p gives way: it gets INV or DOWN, m, of class c, and sends back an acknowledgement, a, of class d.
  pub record GivesWay (p : ℕ) (old new : Line) (c d : ℕ) (back : Words) (m a : Message ℕ) : Type 0 where
    pub small : p < 4
    pub was : x.line p ≡ old
    pub class : token m ≡ c
    pub end : peer m ≡ p
    pub class_back : token a ≡ d
    pub end_back : peer a ≡ p
    pub clock_back : a.clock ≡ y.clock p
    pub words_back : a.words ≡ back
    pub onward : x.clock p < y.clock p
    pub lines : LinePut p new
    pub outs : OutsStay
    pub clocks : ClocksRise
    pub home : y.home ≡ x.home
    pub messages : Posted x.messages (m ∷ []) (a ∷ []) y.messages
    pub trail : y.trail ≡ x.trail

  -- Node n takes the reply m, of class c, to its request of kind k, and sends TAKEN.
  pub record Takes (n : ℕ) (k : Kind) (old new : Line) (c : ℕ) (m : Message ℕ) : Type 0 where
    pub asked : x.out n ≡ Some k
    pub was : x.line n ≡ old
    pub class : token m ≡ c
    pub end : peer m ≡ n
    pub onward : n < 4 → m.clock < y.clock n
    pub lines : LinePut n new
    pub outs : OutPut n None
    pub clocks : ClocksRise
    pub home : y.home ≡ x.home
    pub messages : Posted x.messages (m ∷ []) (plain kind.Taken n (home_node b) b ∷ []) y.messages
    pub trail : y.trail ≡ x.trail

  -- Processor p's request of kind k is refused.
  pub record Nacked (p : ℕ) (k : Kind) (m : Message ℕ) : Type 0 where
    pub asked : x.out p ≡ Some k
    pub class : token m ≡ refusal_of k
    pub end : peer m ≡ p
    pub lines : LinesStay
    pub outs : OutPut p None
    pub clocks : ClocksStay
    pub home : y.home ≡ x.home
    pub messages : Posted x.messages (m ∷ []) [] y.messages
    pub trail : y.trail ≡ x.trail

  -- What one node returns to the other as it came: a home refuses a request, or a device sends a refused one again.
  pub record Returns (n : ℕ) (c d : ℕ) (m a : Message ℕ) : Type 0 where
    pub class : token m ≡ c
    pub end : peer m ≡ n
    pub class_back : token a ≡ d
    pub end_back : peer a ≡ n
    pub words_back : a.words ≡ m.words
    pub lines : LinesStay
    pub outs : OutsStay
    pub clocks : ClocksStay
    pub home : y.home ≡ x.home
    pub messages : Posted x.messages (m ∷ []) (a ∷ []) y.messages
    pub trail : y.trail ≡ x.trail

  -- The home takes the request m and asks those of the set s, or, where there is nobody to ask, nobody.
  pub record AsksHolders (m : Message ℕ) (t s : Processors) : Type 0 where
    pub free : x.home.directory.phase ≡ Free
    pub planned : plan m.kind (view x.home.directory) x.home.directory.holders m.sender ≡ Some (Ask t)
    pub asked : (s ≡ t) ⊎ ((s ≡ nobody) × (is_empty t ≡ true))
    pub request : is_request m.kind ≡ true
    pub class : token m ≡ kind_number m.kind
    pub end : peer m ≡ m.sender
    pub lines : LinesStay
    pub outs : OutsStay
    pub clocks : ClocksStay
    pub home : y.home ≡ asking_home x.home (request_of m) s
    pub messages : Posted x.messages (m ∷ []) (sent (asks (asks_by m.kind) b s)) y.messages
    pub trail : y.trail ≡ x.trail

  -- The home hears the acknowledgement m.
  pub record Hears (m : Message ℕ) : Type 0 where
    pub small : m.sender < 4
    pub awaited : awaits x.home.directory m.sender ≡ true
    pub class : token m ≡ cond m.exclusive marked_ack (kind_number kind.Ack)
    pub end : peer m ≡ m.sender
    pub lines : LinesStay
    pub outs : OutsStay
    pub clocks : ClocksStay
    pub home : y.home ≡ heard_home x.home m
    pub messages : Posted x.messages (m ∷ []) [] y.messages
    pub trail : y.trail ≡ x.trail

  -- All who were asked are heard: the home does what was asked for, and replies.
  pub record Finishes : Type 0 where
    pub gathering : gathers x.home ≡ true
    pub request : is_request (round_of x.home.directory).request.kind ≡ true
    pub heard : is_empty (round_of x.home.directory).awaited ≡ true
    pub lines : LinesStay
    pub outs : OutsStay
    pub clocks : ClocksStay
    pub home : y.home ≡ (finished x.home b).next
    pub messages : Posted x.messages [] (reply b (round_of x.home.directory).request y.home.words y.home.clock.global ∷ []) y.messages
    pub trail : y.trail ≡ x.trail ++ option_to_list (finished x.home b).entry

  -- The home gets TAKEN, m, from node n.
  pub record Frees (n : ℕ) (m : Message ℕ) : Type 0 where
    pub awaited : awaits_taken x.home.directory n ≡ true
    pub class : token m ≡ kind_number kind.Taken
    pub end : peer m ≡ n
    pub lines : LinesStay
    pub outs : OutsStay
    pub clocks : ClocksStay
    pub home : y.home ≡ home (clock_freed x.home.clock n) x.home.words (freed x.home.directory)
    pub messages : Posted x.messages (m ∷ []) [] y.messages
    pub trail : y.trail ≡ x.trail

  pub data Moves : Type 0 where
    rests : Rests → Moves
    loads : (p w : ℕ) (ws : Words) (e : Entry) → Loads p w ws e → Moves
    stores : (p w v : ℕ) (ws : Words) (e : Entry) → Stores p w v ws e → Moves
    requests : (n : ℕ) (k : Kind) (m : Message ℕ) → Requests n k m → Moves
    invalidates_shared : (p : ℕ) (ws : Words) (m a : Message ℕ) → GivesWay p (Shared ws) Invalid 10 12 no_words m a → Moves
    invalidates_owned : (p : ℕ) (ws : Words) (m a : Message ℕ) → GivesWay p (Exclusive ws) Invalid 10 marked_ack ws m a → Moves
    downgrades : (p : ℕ) (ws : Words) (m a : Message ℕ) → GivesWay p (Exclusive ws) (Shared ws) 11 marked_ack ws m a → Moves
    shares : (p : ℕ) (m : Message ℕ) → p < 4 → Takes p kind.Gets (x.line p) (Shared m.words) 13 m → Moves
    owns : (p : ℕ) (m : Message ℕ) → p < 4 → Takes p kind.Getx (x.line p) (Exclusive m.words) 14 m → Moves
    betters : (p : ℕ) (ws : Words) (m : Message ℕ) → p < 4 → Takes p kind.Upg (Shared ws) (Exclusive ws) 15 m → Moves
    gives_back : (p : ℕ) (m : Message ℕ) → p < 4 → Takes p kind.Wb (x.line p) (x.line p) 16 m → Moves
    lands : (n : ℕ) (m : Message ℕ) → 4 ≤ n → Takes n kind.Rblk (x.line n) (x.line n) 17 m → Moves
    stored : (n : ℕ) (m : Message ℕ) → 4 ≤ n → Takes n kind.Wblk (x.line n) (x.line n) done_to_device m → Moves
    nacked : (p : ℕ) (k : Kind) (m : Message ℕ) → is_request k ≡ true → Nacked p k m → Moves
    again : (n : ℕ) (k : Kind) (m a : Message ℕ) → is_request k ≡ true → Returns n (refusal_of k) (kind_number k) m a → Moves
    refuses : (n : ℕ) (k : Kind) (m a : Message ℕ) → is_request k ≡ true → Returns n (kind_number k) (refusal_of k) m a → Moves
    asks_holders : (m : Message ℕ) (t s : Processors) → AsksHolders m t s → Moves
    hears : (m : Message ℕ) → Hears m → Moves
    finishes : Finishes → Moves
    frees : (n : ℕ) (m : Message ℕ) → Frees n m → Moves

-- One move, or two in turn.
pub data Passes (b : ℕ) (x y : Block) : Type 0 where
  once : Moves b x y → Passes b x y
  twice : (z : Block) → Moves b x z → Moves b z y → Passes b x y
