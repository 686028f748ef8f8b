-- Only stores change the words of a held line.
use Rattle.std.proofs.Common.{ℕ, arith}
use Rattle.std.proofs.lemmas.List.{places}
use Rattle.std.proofs.lemmas.Bool.Decides.{nat_tests}
use Rattle.message.proofs.Tables.{put_read}
use Rattle.processor.specs.Laws.{HeldWordsStay, CopiesStayMissing, OnlyStoresChangeWords}

stays : HeldWordsStay
stays s n i r h o b k x y p q = grind (arith, nat_tests, o b, put_read)

kept : CopiesStayMissing
kept s n i r h o b k =
    let line = λ (m : ℕ). put_read s.lines.at m b in
    let request = λ (m : ℕ). put_read s.requests.at m b in
    grind (arith, nat_tests, o b, line, request)

pub only_stores_change_words : OnlyStoresChangeWords
only_stores_change_words = record {
  start = λ clock b k. grind (arith, nat_tests, places);
  kept = kept;
  words = stays;
}
