-- Values of one block: every copy, every waiting message with data, and the home's words, unless some copy is Exclusive or its
-- words are on their way back, are what the trail says stands in the block now.
use Rattle.std.proofs.Common.{◌≡◌, ℕ, ◌+◌, ◌*◌, ◌<◌, Bool, true, false, ◌||◌, eqb, List, length, get_or, Some, sym, ap, ◌∙◌, subst, arith}
use Rattle.home.specs.Directories.{round_of}
use Rattle.home.specs.declared.machine.Home.{Home}
use Rattle.message.specs.declared.message.Message.{Message}
use Rattle.ordering.specs.declared.operation.Words.{Words}
use Rattle.processor.specs.Lines.{held_words}
use Rattle.processor.specs.declared.line.Line.{Line}
use Rattle.std.proofs.ByRecursion.{All-weaker}
use Rattle.std.proofs.lemmas.Bool.{and_left, both_ways, or_parts}
use Rattle.std.specs.List.{AllByRecursion as All}
use Rattle.trail.specs.declared.address.Address.{Address}
use Rattle.trail.specs.declared.entry.Entry.{Entry}
use Rattle.coherence.proofs.Blocks.{Block, Posted, hits, peer, pending, pending_is, posted_all, token}
use Rattle.coherence.proofs.Counting.{count, none_counted}
use Rattle.coherence.proofs.DeviceWords.{address}
use Rattle.coherence.proofs.Reading.{current}
use Rattle.coherence.proofs.Tokens.{owned}

-- What stands at word i of block b after a trail.
abbrev pub now : ℕ → (Address → ℕ) → List Entry → ℕ → ℕ
now b start trail i = current start trail (address 0 (4 * b + i))

-- These are the four words that stand there.
pub record Says (stands : ℕ → ℕ) (ws : Words) : Type 0 where
  pub four : length ws.at ≡ 4
  pub words : (i : ℕ) → i < 4 → get_or ws.at i 0 ≡ stands i

-- S-DATA, X-DATA and a marked ACK have the block's words with them.
abbrev pub carries : ℕ → Bool
carries c = eqb c 13 || (eqb c 14 || eqb c 41)

-- No copy is Exclusive, and no words are on their way back.
abbrev pub NoneOwned : (ℕ → Line) → List (Message ℕ) → Type 0
NoneOwned line ms = (q : ℕ) → owned (line q) + pending ms 41 q ≡ 0

abbrev pub Data : (ℕ → ℕ) → Message ℕ → Type 0
Data stands m = carries (token m) ≡ true → Says stands m.words

abbrev pub Four : Message ℕ → Type 0
Four m = length m.words.at ≡ 4

pub record Valued (stands : ℕ → ℕ) (line : ℕ → Line) (h : Home ℕ) (ms : List (Message ℕ)) : Type 0 where
  pub copies : (q : ℕ) (ws : Words) → held_words (line q) ≡ Some ws → Says stands ws
  pub home_four : length h.words.at ≡ 4
  pub home : NoneOwned line ms → (i : ℕ) → i < 4 → get_or h.words.at i 0 ≡ stands i
  pub carried : All (Data stands) ms
  pub four : All Four ms
  pub request_four : length (round_of h.directory).request.words.at ≡ 4

abbrev pub Values : ℕ → (Address → ℕ) → Block → Type 0
Values b start x = Valued (now b start x.trail) x.line x.home x.messages

pub values_along : (b : ℕ) (start : Address → ℕ) (x y : Block) → y.trail ≡ x.trail → Valued (now b start x.trail) y.line y.home y.messages → Values b start y
values_along b start x y same v = subst (λ (es : List Entry). Valued (now b start es) y.line y.home y.messages) (sym same) v

-- The same words, said of what stands there later.
pub says_still : (old new : ℕ → ℕ) (ws : Words) → ((i : ℕ) → i < 4 → new i ≡ old i) → Says old ws → Says new ws
says_still old new ws same says = record { four = says.four; words = λ i low. says.words i low ∙ sym (same i low) }

pub valued_still : (old new : ℕ → ℕ) (line : ℕ → Line) (h : Home ℕ) (ms : List (Message ℕ)) → ((i : ℕ) → i < 4 → new i ≡ old i)
    → Valued old line h ms → Valued new line h ms
valued_still old new line h ms same v = record {
  copies = λ q ws is. says_still old new ws same (v.copies q ws is);
  home_four = v.home_four;
  home = λ none i low. v.home none i low ∙ sym (same i low);
  carried = All-weaker (Data old) (Data new) (λ m says is. says_still old new m.words same (says is)) ms v.carried;
  four = v.four;
  request_four = v.request_four;
}

-- A message without data.
abbrev pub Bare : Message ℕ → Type 0
Bare m = carries (token m) ≡ false

pub bare : (m : Message ℕ) (c : ℕ) → token m ≡ c → carries c ≡ false → Bare m
bare m c is other = ap carries is ∙ other

pub bare_data : (stands : ℕ → ℕ) (m : Message ℕ) → Bare m → Data stands m
bare_data stands m none is = absurd (both_ways (carries (token m)) none is)

-- Where nothing of class 41 goes, what waits of it now waited before or came.
pub none_returned : (before gone come after : List (Message ℕ)) → Posted before gone come after → All (λ m. eqb (token m) 41 ≡ false) gone
    → (q : ℕ) → pending after 41 q ≡ 0 → pending before 41 q ≡ 0
none_returned before gone come after post other q none =
    let g : count (hits 41 q) gone ≡ 0 = none_counted (hits 41 q) gone (All-weaker (λ m. eqb (token m) 41 ≡ false) (λ m. hits 41 q m ≡ false) (λ m h. and_left (eqb (token m) 41) (eqb (peer m) q) h) gone other) in
    let n = pending_is after 41 q in
    let c = post.counts (hits 41 q) in
    pending_is before 41 q ∙ (omega arith)

bare_unmarked : (m : Message ℕ) → Bare m → eqb (token m) 41 ≡ false
bare_unmarked m none = (or_parts (eqb (token m) 14) (eqb (token m) 41) (or_parts (eqb (token m) 13) _ none).1).1

-- Where no copy changes and messages without data go and come, the values stay.
pub valued_on : (stands : ℕ → ℕ) (x y : Block) (gone come : List (Message ℕ)) → Valued stands x.line x.home x.messages
    → ((q : ℕ) → y.line q ≡ x.line q) → y.home.words ≡ x.home.words → length (round_of y.home.directory).request.words.at ≡ 4
    → Posted x.messages gone come y.messages → All Bare gone → All Bare come → All Four come
    → Valued stands y.line y.home y.messages
valued_on stands x y gone come v lines words request post out new four = record {
  copies = λ q ws is. v.copies q ws (sym (ap held_words (lines q)) ∙ is);
  home_four = ap (λ (ws : Words). length ws.at) words ∙ v.home_four;
  home = λ none i low. ap (λ (ws : Words). get_or ws.at i 0) words ∙ v.home (before none) i low;
  carried = posted_all (Data stands) x.messages gone come y.messages post v.carried (All-weaker Bare (Data stands) (bare_data stands) come new);
  four = posted_all Four x.messages gone come y.messages post v.four four;
  request_four = request;
}
  where
    before : NoneOwned y.line y.messages → NoneOwned x.line x.messages
    before none q =
        let both = none q in
        let line = ap owned (lines q) in
        let left = none_returned x.messages gone come y.messages post (All-weaker Bare (λ m. eqb (token m) 41 ≡ false) bare_unmarked gone out) q (omega arith) in
        omega arith
