-- A run: one making and then any calls. Its history is the world that they lead to, the operations that they issued, in
-- order, and what loads and collects told.
use Rattle.std.specs.Prelude.{ℕ, ◌+◌, Bool, if◌then◌else◌, ◌&&◌, List, [], ◌∷◌, ◌++◌, Some, None, Ok, Err, Option, ◌==◌, nat_lt}
use Rattle.device.specs.Meaning.{Meaning}
use Rattle.device.specs.declared.meaning.Wish.{Wish}
use Rattle.message.specs.Nodes.{device_node}
use Rattle.ordering.specs.Operations.{is, is_block}
use Rattle.ordering.specs.declared.operation.Operation.{Operation}
use Rattle.ordering.specs.declared.operation.Operation.TheVariants.{Ld, St, LdIo, StIo, Int}
use Rattle.ordering.specs.declared.order.Access.{Access}
use Rattle.std.specs.Option.{option_map, option_to_list}
use Rattle.coherence.specs.Makings.{Making, make}
use Rattle.coherence.specs.Steps.{Answer, step}
use Rattle.coherence.specs.Worlds.{World, processor_at}
use Rattle.coherence.specs.declared.call.Call.{Call}
use Rattle.coherence.specs.declared.call.Call.TheVariants as call

pub record Issued : Type 0 where
  pub party : ℕ
  pub sequence : ℕ
  pub access : Access

-- What a load or a collect told, and of which operation.
pub record Told : Type 0 where
  pub party : ℕ
  pub sequence : ℕ
  pub value : ℕ

pub record History (A B : Type 0) : Type 0 where
  pub world : World A B
  pub issued : List Issued
  pub told : List Told

abbrev pub access : Operation → ℕ → ℕ → Access
access o s p = record { operation = o; space = s; place = p }

-- What a device's wish goes to: its own words, a processor, or a block of memory.
abbrev pub wish_access : ℕ → Wish → Access
wish_access d h =
    if is Int h.operation then access Int 3 h.processor
    else access h.operation (if is_block h.operation then 0 else 1 + d) h.place

-- The number of the latest LDio of processor p to device d among those issued.
abbrev pub is_ldio : ℕ → ℕ → Issued → Bool
is_ldio p d x = x.party == p && (is LdIo x.access.operation && x.access.space == 1 + d)

abbrev pub latest_ldio : List Issued → ℕ → ℕ → Option ℕ
latest_ldio [] p d = None
latest_ldio (x ∷ xs) p d = elim (latest_ldio xs p d) [
  | Some n ↦ Some n
  | None ↦ if is_ldio p d x then Some x.sequence else None
]

module _ {A B : Type 0} (ma : Meaning A) (mb : Meaning B) where
  abbrev pub own : World A B → ℕ → Access → Issued
  own w p a = record { party = p; sequence = (processor_at w p).sequence; access = a }

  abbrev pub wished : ℕ → ℕ → Option Wish → Option Issued
  wished d n h = option_map (λ x. record { party = device_node d; sequence = n; access = wish_access d x }) h

  -- The operation that a call issues, if it is accepted.
  abbrev pub issues : Call → World A B → Option Issued
  issues (call.Load p n) w = Some (own w p (access Ld 0 n))
  issues (call.Store p n v) w = Some (own w p (access St 0 n))
  issues (call.LdIo p d n) w = Some (own w p (access LdIo (1 + d) n))
  issues (call.StIo p d n v) w = Some (own w p (access StIo (1 + d) n))
  issues (call.Act d) w =
      if nat_lt d 1
      then wished 0 w.first.sequence (ma.wish w.first.device)
      else wished 1 w.second.sequence (mb.wish w.second.device)
  issues _ w = None

  -- Of which operation a call tells: a load of its own, a collect of the latest LDio.
  abbrev pub told_number : Call → History A B → Option (ℕ × ℕ)
  told_number (call.Load p n) h = Some (p, (processor_at h.world p).sequence)
  told_number (call.Collect p d) h = option_map (λ n. (p, n)) (latest_ldio h.issued p d)
  told_number _ h = None

  abbrev pub tells : Option (ℕ × ℕ) → Option ℕ → List Told
  tells (Some x) (Some v) = record { party = x.0; sequence = x.1; value = v } ∷ []
  tells _ _ = []

  -- One call more: a refused one leaves the history as it was.
  abbrev pub answered : Call → History A B → Answer → World A B → History A B
  answered c h (Err f) w = record h { world = w }
  answered c h (Ok v) w = record {
    world = w;
    issued = h.issued ++ option_to_list (issues c h.world);
    told = h.told ++ tells (told_number c h) v;
  }

  abbrev pub called_on : Call → History A B → History A B
  called_on c h = answered c h (step ma mb c h.world).0 (step ma mb c h.world).1

  abbrev pub after_calls : History A B → List Call → History A B
  after_calls h [] = h
  after_calls h (c ∷ cs) = after_calls (called_on c h) cs

  abbrev pub began : Making A B → History A B
  began k = record { world = make ma mb k; issued = []; told = [] }

  -- The history of a run.
  abbrev pub run : Making A B → List Call → History A B
  run k cs = after_calls (began k) cs
