-- A window over any device: its meaning, from the meaning of the device below.
use Rattle.std.specs.Prelude.{◌≡◌, ℕ, ◌+◌, ◌-◌, true, false, ◌&&◌, ◌||◌, ltb, List, length, take, drop, Some, None, Option, if◌then◌else◌, nat_le, nat_lt, slice_index, slice_index_or}
use Rattle.ordering.specs.declared.operation.Operation.TheVariants.{LdIo, StIo}
use Rattle.ordering.specs.Operations.{is}
use Rattle.device.specs.declared.meaning.Wish.{Wish}
use Rattle.device.specs.declared.window.Window.{Window}
use Rattle.device.specs.Meaning.{Meaning}

abbrev pub window : {D : Type 0} → D → ℕ → ℕ → Window D
window d first size = record { device = d; first = first; size = size }

-- The same window, over another state of what is below.
abbrev pub over : {D S : Type 0} → Window D → S → Window S
over w s = window s w.first w.size

-- A window's state: a window over the state of the device below.
abbrev pub viewed : {D S : Type 0} → (D → S) → Window D → Window S
viewed state w = over w (state w.device)

-- Those of `size` words from `first` that there are.
abbrev pub shown : ℕ → ℕ → List ℕ → List ℕ
shown first size ws = take size (drop first ws)

-- A place that is shown, and where the device below has it: the same word stands there.
pub record ShownAt (first size : ℕ) (ws : List ℕ) (p b : ℕ) : Type 0 where
  pub place : b ≡ first + p
  pub shown_here : ltb p (length (shown first size ws)) ≡ true
  pub had_below : ltb b (length ws) ≡ true
  pub word : slice_index_or ws b 0 ≡ slice_index (shown first size ws) p

-- The place below, or none for a place that is not shown.
abbrev pub Shows : ℕ → ℕ → List ℕ → ℕ → Option ℕ → Type 0
Shows first size ws p None = nat_lt p (length (shown first size ws)) ≡ false
Shows first size ws p (Some b) = ShownAt first size ws p b

-- Where a word of the device below is seen; one that is not shown stands at 64.
abbrev pub seen_at : ℕ → ℕ → ℕ → ℕ
seen_at first count p = if nat_le first p && nat_lt (p - first) count then p - first else 64

-- A wished LDio or STio goes to the word as the window shows it; every other wish is handed on.
abbrev pub moved : ℕ → ℕ → Wish → Wish
moved first count h = record h {
  place = if is LdIo h.operation || is StIo h.operation then seen_at first count h.place else h.place;
}

abbrev pub moved_wish : ℕ → ℕ → Option Wish → Option Wish
moved_wish first count None = None
moved_wish first count (Some h) = Some (moved first count h)

abbrev pub window_words : {S : Type 0} → Meaning S → Window S → List ℕ
window_words m w = shown w.first w.size (m.words w.device)

abbrev pub window_meaning : {S : Type 0} → Meaning S → Meaning (Window S)
window_meaning m = record {
  words = window_words m;
  wish = λ w. moved_wish w.first (length (window_words m w)) (m.wish w.device);
  reading = λ w p. over w (m.reading w.device (w.first + p));
  writing = λ w p v. over w (m.writing w.device (w.first + p) v);
  accepted = λ w v. over w (m.accepted w.device v);
  landed = λ w b ws. over w (m.landed w.device b ws);
}
