-- What a device means: the words and the wish that are read from its state, and the states that follow.
use Rattle.std.specs.Prelude.{◌≡◌, ℕ, List, length, Some, Ok, Err, Option, Result, if◌then◌else◌, nat_lt, slice_index, slice_set}
use Rattle.ordering.specs.declared.operation.Words.{Words}
use Rattle.device.specs.declared.meaning.Wish.{Wish}
use Rattle.device.specs.declared.meaning.NoWord.{NoWord}

pub record Meaning (S : Type 0) : Type 0 where
  pub words : S → List ℕ
  pub wish : S → Option Wish
  pub reading : S → ℕ → S
  pub writing : S → ℕ → ℕ → S
  pub accepted : S → ℕ → S
  pub landed : S → ℕ → Words → S

-- Writing puts a value at its place. Nothing else changes a word, and nothing changes their number. A wish has four
-- words.
pub record Laws {S : Type 0} (m : Meaning S) : Type 0 where
  pub writing_words : (s : S) (p v : ℕ) → m.words (m.writing s p v) ≡ slice_set (m.words s) p v
  pub reading_words : (s : S) (p : ℕ) → m.words (m.reading s p) ≡ m.words s
  pub accepted_words : (s : S) (v : ℕ) → m.words (m.accepted s v) ≡ m.words s
  pub landed_words : (s : S) (b : ℕ) (ws : Words) → m.words (m.landed s b ws) ≡ m.words s
  pub four_words : (s : S) (h : Wish) → m.wish s ≡ Some h → length h.words.at ≡ 4

-- A place from the count up is refused, which touches nothing.
abbrev pub no_word : {R : Type 0} → ℕ → Result R NoWord
no_word p = Err (record { place = p })

abbrev pub read_exit : {S : Type 0} → Meaning S → S → ℕ → S
read_exit m s p = if nat_lt p (length (m.words s)) then m.reading s p else s

abbrev pub read_answer : {S : Type 0} → Meaning S → S → ℕ → Result ℕ NoWord
read_answer m s p = if nat_lt p (length (m.words s)) then Ok (slice_index (m.words s) p) else no_word p

abbrev pub write_exit : {S : Type 0} → Meaning S → S → ℕ → ℕ → S
write_exit m s p v = if nat_lt p (length (m.words s)) then m.writing s p v else s

abbrev pub write_answer : {S : Type 0} → Meaning S → S → ℕ → Result (Unit {0}) NoWord
write_answer m s p = if nat_lt p (length (m.words s)) then Ok tt else no_word p
