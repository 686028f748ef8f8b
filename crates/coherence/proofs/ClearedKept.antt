-- Every call keeps what is said of the operations under way: all before them is settled, and channels keep their order.
use Rattle.std.proofs.Common.{◌≡◌, ℕ, ◌<◌, true, false, ◌⊎◌, List, [], ◌∷◌, ◌++◌, refl, ap, inl, inr, ⊎_elim, arith}
use Rattle.device.specs.Meaning.{Meaning}
use Rattle.home.specs.Directories.{round_of}
use Rattle.message.specs.Reactions.{sent}
use Rattle.message.specs.declared.figures.Figures.{Figures}
use Rattle.message.specs.declared.message.Message.{Message}
use Rattle.ordering.specs.Operations.{is_block}
use Rattle.ordering.specs.declared.order.Access.{Access}
use Rattle.std.proofs.ByRecursion.{All-append}
use Rattle.std.proofs.lemmas.Bool.{both_ways}
use Rattle.std.proofs.lemmas.Bool.Decides.{nat_tests}
use Rattle.coherence.proofs.Carrying.{carries, serves, carried_access, served_access, issued_as, next_number}
use Rattle.coherence.proofs.Clocks.{Timely}
use Rattle.coherence.proofs.Errands.{Errands, Carrier, in_message, Sent, called, wished, goes_on}
use Rattle.coherence.proofs.Growing.{still, now_on, messages_either, lower_stands, done_on, cleared_on, carrier_issued, carrier_cleared}
use Rattle.coherence.proofs.Orderly.{device_issues, is_channel, Follows, Cleared, now, InLine, Known}
use Rattle.coherence.proofs.Recording.{grown}
use Rattle.coherence.proofs.Rising.{Pairs, all_from_nth}
use Rattle.coherence.proofs.Settling.{settles_call, settles_wish}
use Rattle.coherence.proofs.Standing.{stands_all, stands_first, stands_later, stands_new, pairs_removed}
use Rattle.coherence.specs.Histories.{History, Issued}
use Rattle.coherence.specs.Promise.{Stands}
use Rattle.coherence.specs.Steps.{Effect, waiting}
use Rattle.coherence.specs.Worlds.{World, home_at}
use Rattle.coherence.specs.declared.call.Call.{Call}
use Rattle.coherence.specs.declared.call.Call.TheVariants.{Deliver}

pairs_append : {X : Type 0} (R : X → X → Type 0) (xs ys : List X) → Pairs R xs → Pairs R ys → ((x y : X) → Stands xs x → Stands ys y → R x y) → Pairs R (xs ++ ys)
pairs_append R [] ys px py across = py
pairs_append R (x ∷ xs) ys px py across = (
  All-append (R x) xs ys px.0 (all_from_nth (R x) ys (λ i y at. across x y (stands_first x xs) (i, at))),
  pairs_append R xs ys px.1 py (λ a b s t. across a b (stands_later x a xs s) t),
)

-- what a channel keeps in order carries an operation of its sender, and none on a block
channel_carries : (m : Message ℕ) → is_channel m.kind ≡ true → (carries m.sender m.sequence m ≡ true) × (is_block (carried_access m).operation ≡ false)
channel_carries m channel = (grind (arith, nat_tests), grind (arith, nat_tests))

block_fits : (n : ℕ) (m : Message ℕ) → is_block (carried_access m).operation ≡ true → (carried_access m).place < 16 → device_issues n (carried_access m) ≡ true
block_fits n m block small = grind (arith, nat_tests)

module _ {A B : Type 0} (ma : Meaning A) (mb : Meaning B) where
  still_pairs : (c : Call) (w : World A B) → Pairs Follows w.messages → Pairs Follows (waiting ma mb c w)
  still_pairs (Deliver i) w pairs = pairs_removed Follows w.messages i pairs
  still_pairs _ w pairs = pairs

  module _ (f : Figures) (c : Call) (h : History A B) (e : Effect A B) (known : Known ma mb f h) (later : Known ma mb f (grown ma mb c h e)) (time : Timely h.world e) (runs : Errands h.world e) (line : InLine h) where
    abbrev w : World A B
    w = h.world

    abbrev h' : History A B
    h' = grown ma mb c h e

    abbrev Clear : ℕ → ℕ → ℕ → Access → Type 0
    Clear n s k a = Cleared h'.issued h'.world.trail (now h'.world n) n s k a

    -- a carrier that goes on, perhaps with a later clock
    on_from : (n s k j : ℕ) (a : Access) → Carrier w n s k a → (j ≡ k) ⊎ (j ≡ now w n) → Clear n s j a
    on_from n s k j a carrier (inl same) =
        let old = carrier_cleared ma mb f h known line n s k a carrier in
        let le = old.passed in
        let on = now_on ma mb f c h e known later time n in
        cleared_on ma mb f c h e known later time n s k j a (carrier_issued ma mb f h known n s k a carrier) (omega arith) (omega arith) old
    on_from n s k j a carrier (inr same) =
        let old = carrier_cleared ma mb f h known line n s k a carrier in
        let le = old.passed in
        let on = now_on ma mb f c h e known later time n in
        cleared_on ma mb f c h e known later time n s k j a (carrier_issued ma mb f h known n s k a carrier) (omega arith) (omega arith) old

    module _ (y : Message ℕ) (there : Stands (sent e.sent) y) (n s : ℕ) (c' : carries n s y ≡ true) where
      stands_issued : Stands h'.issued (issued_as n s (carried_access y))
      stands_issued = stands_all _ h'.world.messages y later.numbered.accounted.messages (stands_new (waiting ma mb c w) (sent e.sent) y there) n s c'

      was_issued : (z : Issued) → Stands h'.issued z → z.party ≡ n → z.sequence < s → Stands h.issued z
      was_issued z sz party lower = lower_stands ma mb f c h e known later time (issued_as n s (carried_access y)) z stands_issued sz party lower

      sent_clear : Sent w n s y → Clear n s y.clock (carried_access y)
      sent_clear (called small number clock io) = record {
        settled = λ z sz party lower before other.
            done_on ma mb f c h e known later time n z.sequence (now w n) y.clock (omega arith)
            (settles_call ma mb f h known line n (carried_access y) small io z (was_issued z sz party lower) party other);
        passed = let on = now_on ma mb f c h e known later time n in omega arith;
      }
      sent_clear (wished d two own number clock ints blocks) = record {
        settled = λ z sz party lower before other.
            done_on ma mb f c h e known later time n z.sequence (now w n) y.clock (omega arith)
            (settles_wish ma mb f h known line n d (carried_access y) two own ints
            (λ no_int. let k = blocks no_int in (block_fits n y k.0 k.1, k.0, k.2))
            z (was_issued z sz party lower) party before other);
        passed = let on = now_on ma mb f c h e known later time n in omega arith;
      }
      sent_clear (goes_on k carrier block clock) = on_from n s k y.clock (carried_access y) carrier clock

    pub messages_clear : (m : Message ℕ) → Stands h'.world.messages m → (n s : ℕ) → carries n s m ≡ true → Clear n s m.clock (carried_access m)
    messages_clear m there n s c' =
        ⊎_elim
        (λ old. on_from n s m.clock m.clock (carried_access m) (in_message m old c' refl refl) (inl refl))
        (λ new. sent_clear m new n s c' (runs.sends m new n s c'))
        (messages_either ma mb f c h e known later time m there)

    pub homes_clear : (b n s : ℕ) → b < 16 → serves n s (home_at h'.world b) ≡ true
        → Clear n s (round_of (home_at h'.world b).directory).request.clock (served_access b (home_at h'.world b))
    homes_clear b n s small c' = on_from n s _ _ (served_access b (home_at h'.world b)) (runs.homes b n s small c') (inl refl)

    follows : (a b : Message ℕ) → Stands (waiting ma mb c w) a → Stands (sent e.sent) b → Follows a b
    follows a b sa sb ka kb from to =
        let ca = channel_carries a ka in
        let cb = channel_carries b kb in
        let low : a.sequence < next_number w a.sender = stands_all _ h.issued (issued_as a.sender a.sequence (carried_access a)) known.numbered.accounted.numbers
        (stands_all _ w.messages a known.numbered.accounted.messages (still ma mb c w a sa) a.sender a.sequence ca.0) in
        let same : next_number w a.sender ≡ next_number w b.sender = ap (next_number w) from in
        go low same cb.1 (runs.sends b sb b.sender b.sequence cb.0)
      where
        go : a.sequence < next_number w a.sender → next_number w a.sender ≡ next_number w b.sender → is_block (carried_access b).operation ≡ false
            → Sent w b.sender b.sequence b → a.sequence < b.sequence
        go low same other (called small number clock io) = omega arith
        go low same other (wished d two own number clock ints blocks) = omega arith
        go low same other (goes_on k carrier block clock) = absurd (both_ways (is_block (carried_access b).operation) other block)

    pub channels_kept : Pairs Follows h'.world.messages
    channels_kept = pairs_append Follows (waiting ma mb c w) (sent e.sent) (still_pairs c w line.channels) runs.together follows
