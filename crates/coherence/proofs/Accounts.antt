-- What was issued accounts for all that is done and under way, after an effect: from what the effect adds.
use Rattle.std.proofs.Common.{◌≡◌, ℕ, ◌<◌, ◌≤◌, List, [], ◌++◌, Some, None, Option, sym, refl, ap, subst, arith}
use Rattle.message.specs.Reactions.{sent}
use Rattle.message.specs.declared.message.Message.{Message}
use Rattle.message.specs.declared.reaction.Outbox.{Outbox}
use Rattle.std.proofs.ByRecursion.{All-append, All-push, All-weaker}
use Rattle.std.proofs.lemmas.List.{append-nil}
use Rattle.std.specs.Option.{option_to_list}
use Rattle.std.specs.List.{AllByRecursion as All}
use Rattle.trail.specs.declared.entry.Entry.{Entry}
use Rattle.coherence.proofs.AccountsHomes.{HomeKnown, MessageKnown}
use Rattle.coherence.proofs.AccountsProcessors.{entry_issue}
use Rattle.coherence.proofs.Carrying.{Accounted, next_number}
use Rattle.coherence.proofs.Posting.{posted}
use Rattle.coherence.proofs.Rising.{Pairs, pairs_push}
use Rattle.coherence.proofs.Standing.{stands_on}
use Rattle.coherence.proofs.Stepping.{after}
use Rattle.coherence.specs.Histories.{Issued}
use Rattle.coherence.specs.Promise.{Stands}
use Rattle.coherence.specs.Steps.{Effect}
use Rattle.coherence.specs.Worlds.{World, home_at}

module _ {X : Type 0} where
  -- what may be there and what is known of it
  pub all_listed : (P : X → Type 0) (xs : List X) (o : Option X) → All P xs → ((x : X) → o ≡ Some x → P x) → All P (xs ++ option_to_list o)
  all_listed P xs None all new = subst (All P) (sym (append-nil xs)) all
  all_listed P xs (Some x) all new = All-push P xs x all (new x refl)

  pub pairs_listed : (R : X → X → Type 0) (xs : List X) (o : Option X) → Pairs R xs → ((y : X) → o ≡ Some y → All (λ x. R x y) xs) → Pairs R (xs ++ option_to_list o)
  pairs_listed R xs None pairs new = subst (Pairs R) (sym (append-nil xs)) pairs
  pairs_listed R xs (Some y) pairs new = pairs_push R xs y pairs (new y refl)

pub all_posted : (P : Message ℕ → Type 0) (o : Outbox) → sent o ≡ option_to_list (posted o) → ((m : Message ℕ) → posted o ≡ Some m → P m) → All P (sent o)
all_posted P o one new = subst (All P) (sym one) (all_listed P [] (posted o) tt new)

module _ {A B : Type 0} (issued : List Issued) (o : Option Issued) (w : World A B) (e : Effect A B) where
  -- Known once the call's own operation is issued.
  abbrev pub Known : Issued → Type 0
  Known = Stands (issued ++ option_to_list o)

  -- What an effect adds is accounted for, and the issued operation has the next number of its party.
  pub record Adds : Type 0 where
    pub entry : (x : Entry) → e.entry ≡ Some x → Known (entry_issue x)
    pub sends : All (MessageKnown Known) (sent e.sent)
    pub homes : (b : ℕ) → b < 16 → HomeKnown Known b (home_at e.next b)
    pub onward : (n : ℕ) → next_number w n ≤ next_number e.next n
    pub takes : (x : Issued) → o ≡ Some x → (x.sequence ≡ next_number w x.party) × (next_number w x.party < next_number e.next x.party)

  known_still : (x : Issued) → Stands issued x → Known x
  known_still x = stands_on issued (option_to_list o) x

  pub message_still : (m : Message ℕ) → MessageKnown (Stands issued) m → MessageKnown Known m
  message_still m known n q carried = known_still _ (known n q carried)

  pub homes_still : Accounted issued w → (b : ℕ) → b < 16 → HomeKnown Known b (home_at w b)
  homes_still t b small n q serving = known_still _ (t.homes b n q small serving)

  pub accounted_with : (ms : List (Message ℕ)) → All (MessageKnown (Stands issued)) ms → Accounted issued w → Adds → Accounted (issued ++ option_to_list o) (after w ms e)
  accounted_with ms rest t adds = record {
    entries = all_listed (λ x. Known (entry_issue x)) w.trail e.entry (All-weaker _ _ (λ x. known_still (entry_issue x)) w.trail t.entries) adds.entry;
    messages = All-append (MessageKnown Known) ms (sent e.sent) (All-weaker (MessageKnown (Stands issued)) (MessageKnown Known) message_still ms rest) adds.sends;
    homes = λ b n q small. adds.homes b small n q;
    numbers = all_listed _ issued o (All-weaker _ _ (λ x less. let up = adds.onward x.party in omega arith) issued t.numbers) (λ x is. let own = adds.takes x is in omega (arith, own.0, own.1));
    rising = pairs_listed _ issued o t.rising (λ y is. All-weaker _ _ (λ x less same. later x y less same (adds.takes y is).0) issued t.numbers);
  }
    where
      later : (x y : Issued) → x.sequence < next_number w x.party → x.party ≡ y.party → y.sequence ≡ next_number w y.party → x.sequence < y.sequence
      later x y less same own = let bound = ap (next_number w) same in omega arith
