-- A history that one call made longer: what stood in it stands, clocks go on, and what is new comes last.
use Rattle.std.proofs.Common.{◌≡◌, ℕ, ◌<◌, ◌≤◌, ◌⊎◌, Some, sym, refl, ap, ◌∙◌, subst, inl, inr, ⊎_elim, arith}
use Rattle.device.specs.Meaning.{Meaning}
use Rattle.message.specs.Reactions.{sent}
use Rattle.message.specs.declared.figures.Figures.{Figures}
use Rattle.message.specs.declared.message.Message.{Message}
use Rattle.ordering.specs.Clocks.{Earlier}
use Rattle.ordering.specs.declared.clock.Clock.{Clock}
use Rattle.ordering.specs.declared.order.Access.{Access}
use Rattle.std.proofs.lemmas.Bool.{cases_eq}
use Rattle.std.proofs.lemmas.Option.{same_Some}
use Rattle.std.specs.Option.{option_to_list}
use Rattle.trail.specs.declared.entry.Entry.{Entry}
use Rattle.coherence.proofs.Carrying.{carried_access, served_access, issued_as}
use Rattle.coherence.proofs.Clocks.{clock_at, Timely}
use Rattle.coherence.proofs.Errands.{Carrier, in_message, in_home}
use Rattle.coherence.proofs.Orderly.{Cleared, DoneBy, now, InLine, Known}
use Rattle.coherence.proofs.Recording.{grown}
use Rattle.coherence.proofs.Standing.{stands_all, stands_on, stands_new, stands_either, stands_only, stands_some, stands_removed, pairs_stand}
use Rattle.coherence.specs.Histories.{History, Issued, issues}
use Rattle.coherence.specs.Promise.{Stands}
use Rattle.coherence.specs.Steps.{Effect, waiting}
use Rattle.coherence.specs.Worlds.{World, home_at}
use Rattle.coherence.specs.declared.call.Call.{Call}
use Rattle.coherence.specs.declared.call.Call.TheVariants.{Deliver}

onward_global : (c d : Clock ℕ) → (d ≡ c) ⊎ Earlier c d → c.global ≤ d.global
onward_global c d (inl same) = let g = ap (λ (k : Clock ℕ). k.global) same in omega arith
onward_global c d (inr (inl up)) = omega arith
onward_global c d (inr (inr up)) = omega (arith, up.0)

module _ {A B : Type 0} (ma : Meaning A) (mb : Meaning B) where
  -- what still waits waited
  pub still : (c : Call) (w : World A B) (m : Message ℕ) → Stands (waiting ma mb c w) m → Stands w.messages m
  still (Deliver i) w m s = stands_removed w.messages i m s
  still _ w m s = s

  module _ (f : Figures) (c : Call) (h : History A B) (e : Effect A B) (known : Known ma mb f h) (later : Known ma mb f (grown ma mb c h e)) (time : Timely h.world e) where
    abbrev w : World A B
    w = h.world

    abbrev h' : History A B
    h' = grown ma mb c h e

    pub now_on : (n : ℕ) → now w n ≤ now e.next n
    now_on n =
        ⊎_elim
        (λ (same : n ≡ e.node). subst (λ (k : ℕ). now w k ≤ now e.next k) (sym same) (onward_global (clock_at w e.node) (clock_at e.next e.node) time.onward))
        (λ apart. let g = ap (λ (k : Clock ℕ). k.global) (time.others n apart) in omega arith)
        (cases_eq n e.node)

    -- a new entry has its node's clock
    pub stamped_now : (x : Entry) → e.entry ≡ Some x → x.stamp.global ≡ now e.next x.stamp.node
    stamped_now x is = rw (time.stamps x is) refl

    pub trail_on : (x : Entry) → Stands w.trail x → Stands h'.world.trail x
    trail_on x s = stands_on w.trail (option_to_list e.entry) x s

    pub trail_new : (x : Entry) → e.entry ≡ Some x → Stands h'.world.trail x
    trail_new x is = stands_new w.trail (option_to_list e.entry) x (stands_some e.entry x is)

    pub trail_either : (x : Entry) → Stands h'.world.trail x → Stands w.trail x ⊎ (e.entry ≡ Some x)
    trail_either x s = ⊎_elim inl (λ t. inr (stands_only e.entry x t)) (stands_either w.trail (option_to_list e.entry) x s)

    pub messages_either : (m : Message ℕ) → Stands h'.world.messages m → Stands w.messages m ⊎ Stands (sent e.sent) m
    messages_either m s = ⊎_elim (λ t. inl (still c w m t)) inr (stands_either (waiting ma mb c w) (sent e.sent) m s)

    pub issued_on : (x : Issued) → Stands h.issued x → Stands h'.issued x
    issued_on x s = stands_on h.issued (option_to_list (issues ma mb c w)) x s

    pub issued_either : (x : Issued) → Stands h'.issued x → Stands h.issued x ⊎ (issues ma mb c w ≡ Some x)
    issued_either x s = ⊎_elim inl (λ t. inr (stands_only (issues ma mb c w) x t)) (stands_either h.issued (option_to_list (issues ma mb c w)) x s)

    -- what is issued now has the greater number
    pub comes_last : (x z : Issued) → Stands h.issued x → issues ma mb c w ≡ Some z → x.party ≡ z.party → x.sequence < z.sequence
    comes_last x z s is party =
        pairs_stand (λ (x y : Issued). x.party ≡ y.party → x.sequence < y.sequence) h.issued (option_to_list (issues ma mb c w)) x z
        later.numbered.accounted.rising s (stands_some (issues ma mb c w) z is) party

    -- and so what comes before something that was issued was issued
    pub lower_stands : (y z : Issued) → Stands h'.issued y → Stands h'.issued z → z.party ≡ y.party → z.sequence < y.sequence → Stands h.issued z
    lower_stands y z sy sz party lower = go (issued_either z sz) (issued_either y sy)
      where
        go : Stands h.issued z ⊎ (issues ma mb c w ≡ Some z) → Stands h.issued y ⊎ (issues ma mb c w ≡ Some y) → Stands h.issued z
        go (inl old) k = old
        go (inr new) (inl old) = let l = comes_last y z old new (sym party) in absurd (let no_way : ⊥ = omega arith in no_way)
        go (inr new) (inr also) =
            let same = ap (λ (x : Issued). x.sequence) (same_Some z y (sym new ∙ also)) in
            absurd (let no_way : ⊥ = omega arith in no_way)

    pub done_on : (n s k j : ℕ) → k ≤ j → DoneBy w.trail n s k → DoneBy h'.world.trail n s j
    done_on n s k j le x = record {
      entry = x.entry;
      stands = trail_on x.entry x.stands;
      by = x.by;
      numbered = x.numbered;
      dated = let d = x.dated in omega arith;
    }

    -- what is cleared stays so, with the same clock or a later one
    pub cleared_on : (n s k j : ℕ) (a : Access) → Stands h.issued (issued_as n s a) → k ≤ j → j ≤ now e.next n
        → Cleared h.issued w.trail (now w n) n s k a → Cleared h'.issued h'.world.trail (now h'.world n) n s j a
    cleared_on n s k j a stands le now_le x = record {
      settled = λ z there party lower before other.
          done_on n z.sequence k j le (x.settled z (lower_stands (issued_as n s a) z (issued_on (issued_as n s a) stands) there party lower) party lower before other);
      passed = now_le;
    }

  module _ (f : Figures) (h : History A B) (known : Known ma mb f h) where
    pub carrier_issued : (n s k : ℕ) (a : Access) → Carrier h.world n s k a → Stands h.issued (issued_as n s a)
    carrier_issued n s k a (in_message m there c clock goes) =
        subst (λ (b : Access). Stands h.issued (issued_as n s b)) goes (stands_all _ h.world.messages m known.numbered.accounted.messages there n s c)
    carrier_issued n s k a (in_home b small c clock goes) =
        subst (λ (b : Access). Stands h.issued (issued_as n s b)) goes (known.numbered.accounted.homes b n s small c)

    pub carrier_cleared : InLine h → (n s k : ℕ) (a : Access) → Carrier h.world n s k a → Cleared h.issued h.world.trail (now h.world n) n s k a
    carrier_cleared line n s k a (in_message m there c clock goes) =
        subst (λ (b : Access). Cleared h.issued h.world.trail (now h.world n) n s k b) goes
        (subst (λ (j : ℕ). Cleared h.issued h.world.trail (now h.world n) n s j (carried_access m)) clock (line.messages m there n s c))
    carrier_cleared line n s k a (in_home b small c clock goes) =
        subst (λ (q : Access). Cleared h.issued h.world.trail (now h.world n) n s k q) goes
        (subst (λ (j : ℕ). Cleared h.issued h.world.trail (now h.world n) n s j (served_access b (home_at h.world b))) clock (line.homes b n s small c))
