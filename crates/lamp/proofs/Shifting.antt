-- Each call of the shift leads from the world that it is made in to the next.
use Rattle.std.proofs.Common.{◌≡◌, ℕ, ◌+◌, ◌<◌, Bool, List, get_or, ap, ◌∙◌, arith}
use Rattle.coherence.specs.Makings.{make}
use Rattle.coherence.specs.Steps.{Answer, step}
use Rattle.coherence.specs.Worlds.{World}
use Rattle.coherence.specs.declared.call.Call.{Call}
use Rattle.coherence.specs.declared.call.Call.TheVariants.{Load}
use Rattle.raster.proofs.Turns.{world_more}
use Rattle.lamp.specs.Banks.{bank_meaning}
use Rattle.lamp.specs.Shifts.{shift_board, shift_calls, reached, accepts}

abbrev pub Banks : Type 0
Banks = World (List ℕ) (List ℕ)

abbrev pub call_at : ℕ → Call
call_at n = get_or shift_calls n (Load 0 0)

-- The call, made in w, gave this answer and led to v.
abbrev pub Made : Call → Banks → Answer → Banks → Type 0
Made c w r v = (r, v) ≡ step bank_meaning bank_meaning c w

-- What is asked by a ticket is the call of its numbers.
pub as_called : (n : ℕ) (c : Call) (w v : Banks) (r : Answer) → c ≡ call_at n → Made c w r v → Made (call_at n) w r v
as_called n c w v r is made = made ∙ ap (λ (d : Call). step bank_meaning bank_meaning d w) is

module _ (n : ℕ) (w v : Banks) (r : Answer) (at : w ≡ reached n) (made : Made (call_at n) w r v) where
  -- The answer is the one that is given there.
  pub answer : r ≡ (step bank_meaning bank_meaning (call_at n) (reached n)).0
  answer =
      ap (λ (o : Answer × Banks). o.0) made
      ∙ ap (λ (x : Banks). (step bank_meaning bank_meaning (call_at n) x).0) at

  pub next : n < 16 → v ≡ reached (n + 1)
  unfolding reached
  next one =
      ap (λ (o : Answer × Banks). o.1) made
      ∙ ap (λ (x : Banks). (step bank_meaning bank_meaning (call_at n) x).1) at
      ∙ world_more bank_meaning bank_meaning (make bank_meaning bank_meaning shift_board) shift_calls n (Load 0 0) one

-- Two calls, one after the other.
pub next_two : (n : ℕ) (w v u : Banks) (r q : Answer) → n + 1 < 16 → w ≡ reached n
    → Made (call_at n) w r v → Made (call_at (n + 1)) v q u → u ≡ reached (n + 1 + 1)
next_two n w v u r q two at first second =
    next (n + 1) v u q (next n w v r at first (omega (arith, two))) second two

-- Whether a call is accepted there.
pub accepted : (n : ℕ) (c : Call) (w : Banks) (b : Bool) → c ≡ call_at n → w ≡ reached n
    → accepts bank_meaning bank_meaning (call_at n) (reached n) ≡ b → accepts bank_meaning bank_meaning c w ≡ b
accepted n c w b is at known =
    ap (λ (d : Call). accepts bank_meaning bank_meaning d w) is
    ∙ ap (accepts bank_meaning bank_meaning (call_at n)) at
    ∙ known

-- Where the shift begins, by the words of both banks and the rooms of both lists.
abbrev pub begin : List ℕ → List ℕ → ℕ → ℕ → Banks
begin a b m t =
    make bank_meaning bank_meaning (record shift_board { first = a; second = b; message_room = m; trail_room = t })

pub begins : (a b : List ℕ) (m t : ℕ) → a ≡ shift_board.first → b ≡ shift_board.second → m ≡ 16 → t ≡ 16
    → begin a b m t ≡ reached 0
unfolding reached
begins a b m t first second messages trail =
    ap (λ (x : List ℕ). begin x b m t) first
    ∙ ap (λ (x : List ℕ). begin shift_board.first x m t) second
    ∙ ap (λ (x : ℕ). begin shift_board.first shift_board.second x t) messages
    ∙ ap (λ (x : ℕ). begin shift_board.first shift_board.second 16 x) trail
