-- Moves in which no acknowledgement goes or comes and no copy changes: the bounds of a block stay.
use Rattle.std.proofs.Common.{◌≡◌, ℕ, ◌<◌, ◌≤◌, true, false, ◌||◌, eqb, ◌⊎◌, [], ◌∷◌, refl, ap, ◌∙◌, inl, inr, arith}
use Rattle.home.specs.Directories.{round_of}
use Rattle.home.specs.Reactions.{clock_freed, reply}
use Rattle.home.specs.Requests.{asks_by}
use Rattle.home.specs.declared.machine.Home.{Home}
use Rattle.home.specs.Sets.{Processors}
use Rattle.home.specs.declared.request.Request.{Request}
use Rattle.message.specs.Kinds.{kind_number, is_request}
use Rattle.message.specs.Messages.{plain}
use Rattle.message.specs.Nodes.{home_node, is_device}
use Rattle.message.specs.declared.kind.Kind.{Kind}
use Rattle.message.specs.declared.message.Message.{Message}
use Rattle.ordering.specs.Clocks.{passed}
use Rattle.ordering.specs.declared.clock.Clock.{Clock}
use Rattle.ordering.specs.declared.operation.Words.{Words}
use Rattle.processor.specs.Calls.{fits}
use Rattle.processor.specs.declared.line.Line.{Line}
use Rattle.std.proofs.lemmas.Bool.{cond_both}
use Rattle.std.proofs.lemmas.Bool.Decides.{nat_tests}
use Rattle.coherence.proofs.Blocks.{Block, token}
use Rattle.coherence.proofs.Bounds.{Bounds, bound, bounds_on, is_ack, posted_same, same_bound}
use Rattle.coherence.proofs.Carrying.{is_block_request}
use Rattle.coherence.proofs.Classes.{refusal_of}
use Rattle.coherence.proofs.Moves.{AsksHolders, Frees, Nacked, Requests, Rests, Returns, Takes}
use Rattle.coherence.proofs.MovesHomes.{each_asked}
use Rattle.coherence.proofs.Phases.{gathers_no_more, idle, nothing_heard}
use Rattle.coherence.proofs.Shifts.{put_same}
use Rattle.coherence.proofs.TokensKept.{Alike, same_line}

-- what a node may ask for is a request
pub fit_request : (n : ℕ) (l : Line) (k : Kind) → ((n < 4) × (fits l k ≡ true)) ⊎ ((4 ≤ n) × (is_block_request k ≡ true)) → is_request k ≡ true
fit_request n l k (inl (small, is)) = grind (arith, nat_tests)
fit_request n l k (inr (large, is)) = grind (arith, nat_tests)

-- no acknowledgement, by its class
pub other_class : (m : Message ℕ) (c : ℕ) → token m ≡ c → (eqb c 12 || eqb c 41) ≡ false → is_ack m ≡ false
other_class m c is other = ap (λ n. eqb n 12 || eqb n 41) is ∙ other

pub request_class : (k : Kind) → is_request k ≡ true → (eqb (kind_number k) 12 || eqb (kind_number k) 41) ≡ false
request_class k is = grind (arith, nat_tests)

pub refusal_class : (k : Kind) → is_request k ≡ true → (eqb (refusal_of k) 12 || eqb (refusal_of k) 41) ≡ false
refusal_class k is = grind (arith, nat_tests)

question_class : (k : Kind) (n p b : ℕ) → is_ack (plain (asks_by k) n p b) ≡ false
question_class k n p b = grind (arith, nat_tests)

pub reply_class : (b : ℕ) (r : Request) (w : Words) (c : ℕ) → is_ack (reply b r w c) ≡ false
reply_class b r w c = grind (arith, nat_tests)

module _ (b : ℕ) (x y : Block) where
  stay : ((q : ℕ) → y.line q ≡ x.line q) → (q : ℕ) → Alike (y.line q) (x.line q)
  stay lines q = same_line (y.line q) (x.line q) (lines q)

  rise : ((q : ℕ) → y.clock q ≡ x.clock q) → (q : ℕ) → x.clock q ≤ y.clock q
  rise clocks q = let e = clocks q in omega arith

  pub rests_bounds : Bounds x → Rests b x y → Bounds y
  rests_bounds bounds r =
      bounds_on x y [] [] (stay r.lines) r.clocks (same_bound r.home)
      (posted_same x.messages y.messages r.messages) tt tt r.trail bounds

  pub requests_bounds : (n : ℕ) (k : Kind) (m : Message ℕ) → is_request k ≡ true → Bounds x → Requests b x y n k m → Bounds y
  requests_bounds n k m is bounds r =
      bounds_on x y [] (m ∷ []) (stay r.lines) (rise r.clocks) (same_bound r.home) r.messages tt
      (other_class m (kind_number k) r.class (request_class k is), tt) r.trail bounds

  pub nacked_bounds : (p : ℕ) (k : Kind) (m : Message ℕ) → is_request k ≡ true → Bounds x → Nacked b x y p k m → Bounds y
  nacked_bounds p k m is bounds r =
      bounds_on x y (m ∷ []) [] (stay r.lines) (rise r.clocks) (same_bound r.home) r.messages
      (other_class m (refusal_of k) r.class (refusal_class k is), tt) tt r.trail bounds

  pub returns_bounds : (n c d : ℕ) (m a : Message ℕ) → (eqb c 12 || eqb c 41) ≡ false → (eqb d 12 || eqb d 41) ≡ false → Bounds x → Returns b x y n c d m a → Bounds y
  returns_bounds n c d m a out new bounds r =
      bounds_on x y (m ∷ []) (a ∷ []) (stay r.lines) (rise r.clocks) (same_bound r.home) r.messages
      (other_class m c r.class out, tt) (other_class a d r.class_back new, tt) r.trail bounds

  -- a reply that leaves the line as it was
  pub takes_bounds : (n : ℕ) (k : Kind) (c : ℕ) (m : Message ℕ) → (eqb c 12 || eqb c 41) ≡ false → Bounds x → Takes b x y n k (x.line n) (x.line n) c m → Bounds y
  takes_bounds n k c m out bounds r =
      bounds_on x y (m ∷ []) _ (stay (λ q. r.lines q ∙ put_same n q x.line)) r.clocks (same_bound r.home) r.messages
      (other_class m c r.class out, tt) (refl, tt) r.trail bounds

  -- the home begins to gather: it has heard nothing yet, and had nothing to hear
  pub asks_bounds : (m : Message ℕ) (t s : Processors) → Bounds x → AsksHolders b x y m t s → Bounds y
  asks_bounds m t s bounds r =
      bounds_on x y (m ∷ []) _ (stay r.lines) (rise r.clocks) up r.messages
      (other_class m (kind_number m.kind) r.class (request_class m.kind r.request), tt)
      (each_asked (λ n. is_ack n ≡ false) (asks_by m.kind) b s (λ p. question_class m.kind (home_node b) p b)) r.trail bounds
    where
      none : (round_of x.home.directory).latest ≡ 0
      none = nothing_heard x.home (idle x.home r.free).0

      up : bound x.home ≤ bound y.home
      up = let e = ap bound r.home in omega (arith, none)

  pub frees_bounds : (n : ℕ) (m : Message ℕ) → Bounds x → Frees b x y n m → Bounds y
  frees_bounds n m bounds r =
      bounds_on x y (m ∷ []) [] (stay r.lines) (rise r.clocks) up r.messages (other_class m 20 r.class refl, tt) tt r.trail bounds
    where
      onward : x.home.clock.global ≤ (clock_freed x.home.clock n).global
      onward = cond_both (is_device n) (passed x.home.clock x.home.clock.global) x.home.clock (λ (c : Clock ℕ). x.home.clock.global ≤ c.global) (λ _. omega arith) (λ _. omega arith)

      up : bound x.home ≤ bound y.home
      up =
          let clock = ap (λ (h : Home ℕ). h.clock.global) r.home in
          let latest = ap (λ (h : Home ℕ). (round_of h.directory).latest) r.home in
          let none = nothing_heard x.home (gathers_no_more x.home n r.awaited) in
          omega (arith, onward)
