-- A given-up slot stays taken, and what is told is true.
use Rattle.std.proofs.Common.{◌≡◌, ℕ, ◌%◌, Some, refl, arith}
use Rattle.std.proofs.lemmas.List.{get_or-set_same}
use Rattle.std.proofs.lemmas.Bool.Decides.{nat_tests}
use Rattle.ordering.specs.declared.operation.Words.{Words}
use Rattle.message.proofs.Tables.{put_read}
use Rattle.processor.specs.Inputs.{Receive}
use Rattle.processor.specs.Laws.{AbandonedStays, GivenUpSlotsStayTaken, FourWords, ToldWordsAreTrue}
use Rattle.processor.specs.Lines.{line_at, held_words, block_of, word_of, with_word}
use Rattle.processor.specs.declared.state.Processor.{Processor}

stays : AbandonedStays
stays s n (Receive m) r h d e k = grind (arith, nat_tests, k m refl, put_read)
stays s n i r h d e k = grind (arith, nat_tests, put_read)

pub given_up_slots_stay_taken : GivenUpSlotsStayTaken
given_up_slots_stay_taken = record {
  stays = stays;
  taken = λ s n d w e. grind (arith, nat_tests);
}

put_word : (s : Processor ℕ) (w v : ℕ) → FourWords s → (ws : Words) → held_words (line_at s.lines (block_of w)) ≡ Some ws → word_of (with_word ws w v) w ≡ v
put_word s w v f ws e = let long = f (block_of w) ws e in get_or-set_same ws.at (w % 4) v 0 (omega arith)

pub told_words_are_true : ToldWordsAreTrue
told_words_are_true = record {
  loaded = λ s n w r h e k. grind (arith, nat_tests);
  entered = λ s n w r h. grind (arith, nat_tests);
  polled = λ s n m r h e k. grind (arith, nat_tests);
  stored = λ s n w v r q f h k. grind (arith, nat_tests, put_word s w v f, put_read);
  collected = λ s n d m r q h e k l. grind (arith, nat_tests, put_read);
}
