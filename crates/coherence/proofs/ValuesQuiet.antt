-- Moves in which no data goes or comes and no copy changes: the values of a block stay.
use Rattle.std.proofs.Common.{◌≡◌, ℕ, true, false, List, [], ◌∷◌, length, refl, ap, ◌∙◌, arith}
use Rattle.home.specs.Directories.{round_of}
use Rattle.home.specs.Requests.{asks_by}
use Rattle.home.specs.declared.machine.Home.{Home}
use Rattle.home.specs.Sets.{Processors}
use Rattle.message.specs.Kinds.{kind_number, is_request}
use Rattle.message.specs.Messages.{plain}
use Rattle.message.specs.Nodes.{home_node}
use Rattle.message.specs.declared.kind.Kind.{Kind}
use Rattle.message.specs.declared.message.Message.{Message}
use Rattle.ordering.specs.declared.operation.Words.{Words}
use Rattle.std.proofs.lemmas.Bool.Decides.{nat_tests}
use Rattle.trail.specs.declared.address.Address.{Address}
use Rattle.coherence.proofs.Blocks.{Block, Posted, posted_gone, token}
use Rattle.coherence.proofs.Bounds.{posted_same}
use Rattle.coherence.proofs.Classes.{refusal_of}
use Rattle.coherence.proofs.Moves.{AsksHolders, Frees, Nacked, Requests, Rests, Returns, Takes}
use Rattle.coherence.proofs.MovesHomes.{each_asked}
use Rattle.coherence.proofs.Shifts.{put_same}
use Rattle.coherence.proofs.Values.{Bare, Four, Values, bare, carries, valued_on, values_along}

pub request_bare : (k : Kind) → is_request k ≡ true → carries (kind_number k) ≡ false
request_bare k is = grind (arith, nat_tests)

pub refusal_bare : (k : Kind) → is_request k ≡ true → carries (refusal_of k) ≡ false
refusal_bare k is = grind (arith, nat_tests)

question_bare : (k : Kind) (n p b : ℕ) → carries (token (plain (asks_by k) n p b)) ≡ false
question_bare k n p b = grind (arith, nat_tests)

module _ (b : ℕ) (start : Address → ℕ) (x y : Block) (v : Values b start x) where
  same_words : y.home ≡ x.home → y.home.words ≡ x.home.words
  same_words is = ap (λ (h : Home ℕ). h.words) is

  same_request : y.home ≡ x.home → length (round_of y.home.directory).request.words.at ≡ 4
  same_request is = ap (λ (h : Home ℕ). length (round_of h.directory).request.words.at) is ∙ v.request_four

  -- what is gone had four words
  was_four : (m : Message ℕ) (come : List (Message ℕ)) → Posted x.messages (m ∷ []) come y.messages → length m.words.at ≡ 4
  was_four m come post = (posted_gone Four x.messages (m ∷ []) come y.messages post v.four).0

  pub rests_values : Rests b x y → Values b start y
  rests_values r =
      values_along b start x y r.trail (valued_on _ x y [] [] v r.lines (same_words r.home) (same_request r.home)
      (posted_same x.messages y.messages r.messages) tt tt tt)

  pub requests_values : (n : ℕ) (k : Kind) (m : Message ℕ) → is_request k ≡ true → Requests b x y n k m → Values b start y
  requests_values n k m is r =
      values_along b start x y r.trail (valued_on _ x y [] (m ∷ []) v r.lines (same_words r.home) (same_request r.home)
      r.messages tt (bare m (kind_number k) r.class (request_bare k is), tt) (r.four, tt))

  pub nacked_values : (p : ℕ) (k : Kind) (m : Message ℕ) → is_request k ≡ true → Nacked b x y p k m → Values b start y
  nacked_values p k m is r =
      values_along b start x y r.trail (valued_on _ x y (m ∷ []) [] v r.lines (same_words r.home) (same_request r.home)
      r.messages (bare m (refusal_of k) r.class (refusal_bare k is), tt) tt tt)

  pub returns_values : (n c d : ℕ) (m a : Message ℕ) → carries c ≡ false → carries d ≡ false → Returns b x y n c d m a → Values b start y
  returns_values n c d m a out new r =
      values_along b start x y r.trail (valued_on _ x y (m ∷ []) (a ∷ []) v r.lines (same_words r.home) (same_request r.home)
      r.messages (bare m c r.class out, tt) (bare a d r.class_back new, tt)
      (ap (λ (ws : Words). length ws.at) r.words_back ∙ was_four m (a ∷ []) r.messages, tt))

  -- a reply that leaves the line as it was
  pub takes_values : (n : ℕ) (k : Kind) (c : ℕ) (m : Message ℕ) → carries c ≡ false → Takes b x y n k (x.line n) (x.line n) c m → Values b start y
  takes_values n k c m out r =
      values_along b start x y r.trail (valued_on _ x y (m ∷ []) _ v (λ q. r.lines q ∙ put_same n q x.line) (same_words r.home) (same_request r.home)
      r.messages (bare m c r.class out, tt) (refl, tt) (refl, tt))

  -- the home takes a request, whose words it keeps
  pub asks_values : (m : Message ℕ) (t s : Processors) → AsksHolders b x y m t s → Values b start y
  asks_values m t s r =
      values_along b start x y r.trail (valued_on _ x y (m ∷ []) _ v r.lines
      (ap (λ (h : Home ℕ). h.words) r.home)
      (ap (λ (h : Home ℕ). length (round_of h.directory).request.words.at) r.home ∙ was_four m _ r.messages)
      r.messages (bare m (kind_number m.kind) r.class (request_bare m.kind r.request), tt)
      (each_asked Bare (asks_by m.kind) b s (λ p. question_bare m.kind (home_node b) p b))
      (each_asked Four (asks_by m.kind) b s (λ p. refl)))

  pub frees_values : (n : ℕ) (m : Message ℕ) → Frees b x y n m → Values b start y
  frees_values n m r =
      values_along b start x y r.trail (valued_on _ x y (m ∷ []) [] v r.lines
      (ap (λ (h : Home ℕ). h.words) r.home)
      (ap (λ (h : Home ℕ). length (round_of h.directory).request.words.at) r.home)
      r.messages (bare m 20 r.class refl, tt) tt tt)
