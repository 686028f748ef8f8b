-- Runs of one processor with what comes of them, step by step.
use Rattle.std.specs.Prelude.{◌≡◌, ℕ, List, [], ◌∷◌, Some, None, Option}
use Rattle.ordering.specs.Words.{one_word, no_words}
use Rattle.ordering.specs.declared.operation.Words.{Words}
use Rattle.ordering.specs.declared.stamp.Stamp.{Stamp}
use Rattle.trail.specs.declared.entry.Entry.{Entry}
use Rattle.message.specs.Messages.{plain}
use Rattle.message.specs.declared.kind.Kind.{Kind}
use Rattle.message.specs.declared.kind.Kind.TheVariants as kind
use Rattle.processor.specs.Inputs.{Input, Load, Store, Request, Ldio, Collect, GiveUp, Receive, reaction}
use Rattle.processor.specs.Receive.{Outcome}
use Rattle.processor.specs.States.{made}
use Rattle.processor.specs.declared.state.Processor.{Processor}

-- Processor 0 after all that came; what it refuses, and what has no rule, leaves it as it is.
abbrev pub next_state : Processor ℕ → Outcome → Processor ℕ
next_state s None = s
next_state s (Some r) = r.next

abbrev pub after : Processor ℕ → List Input → Processor ℕ
after s [] = s
after s (i ∷ is) = after (next_state s (reaction s 0 i)) is

abbrev pub stamp_of : Option Entry → Option Stamp
stamp_of None = None
stamp_of (Some e) = Some e.stamp

abbrev pub stamp_at : Processor ℕ → Input → Option Stamp
stamp_at s i = elim (reaction s 0 i) [ None ↦ None | Some r ↦ stamp_of r.entry ]

abbrev pub told_at : Processor ℕ → Input → Option ℕ
told_at s i = elim (reaction s 0 i) [ None ↦ None | Some r ↦ r.answer ]

-- A message to processor 0.
abbrev pub sent_to_0 : Kind → ℕ → ℕ → Words → ℕ → Input
sent_to_0 k from place ws c = Receive (record (plain k from 0 place) { words = ws; clock = c })

-- GETX of block 0 from a start at 0, and X-DATA with the clock 1 of its home.
abbrev pub owner : Processor ℕ
owner = after (made 0) (Request 0 kind.Getx ∷ sent_to_0 kind.XData 16 0 no_words 1 ∷ [])

-- The owner stored 7, and was asked to share.
abbrev pub sharer : Processor ℕ
sharer = after owner (Store 0 7 ∷ sent_to_0 kind.Down 16 0 no_words 0 ∷ [])

-- An LDio of device 1, given up before its word came.
abbrev pub giver_up : Processor ℕ
giver_up = after owner (Ldio 1 3 ∷ GiveUp 1 ∷ [])

pub record WorkedCases : Type 0 where
  pub owner_clock : owner.clock ≡ record { global = 2; local = 0 }
  pub store_stamp : stamp_at owner (Store 0 7) ≡ Some (record { global = 2; local = 1; node = 0 })
  pub sharer_clock : sharer.clock ≡ record { global = 3; local = 0 }
  pub load_tells : told_at sharer (Load 0) ≡ Some 7
  pub load_stamp : stamp_at sharer (Load 0) ≡ Some (record { global = 3; local = 1; node = 0 })
  pub load_waits : reaction giver_up 0 (Load 0) ≡ None
  pub slot_waits : reaction giver_up 0 (Ldio 1 3) ≡ None
  pub value_passed : (after giver_up (sent_to_0 kind.Value 5 3 (one_word 9) 8 ∷ [])).clock ≡ record { global = 9; local = 0 }
  pub value_dropped : told_at (after giver_up (sent_to_0 kind.Value 5 3 (one_word 9) 8 ∷ [])) (Collect 1) ≡ None
  pub value_collected : told_at (after owner (Ldio 1 3 ∷ sent_to_0 kind.Value 5 3 (one_word 9) 8 ∷ [])) (Collect 1) ≡ Some 9
