-- Receivers by the form of the message: which nodes its ends are, and how it comes to its rule there.
use Rattle.std.proofs.lemmas.Bool.Decides.{nat_tests}
use Rattle.std.proofs.Common.{◌≡◌, ℕ, zero, suc, ◌<◌, ◌≤◌, true, eqb, ltb, ◌⊎◌, is_some, refl, inl, inr, ⊎_elim, arith}
use Rattle.home.specs.Directories.{awaits}
use Rattle.home.specs.Reactions.{awaits_taken, received, requested}
use Rattle.home.specs.Requests.{request_of}
use Rattle.home.specs.declared.machine.Home.{Home}
use Rattle.message.specs.Checks.{end_fits, has_processor}
use Rattle.message.specs.Forms.{row}
use Rattle.message.specs.Kinds.{kind_number, is_request}
use Rattle.message.specs.Nodes.{device_node, is_device}
use Rattle.message.specs.declared.figures.Figures.{Figures}
use Rattle.message.specs.declared.form.End.TheVariants.{Owner}
use Rattle.message.specs.declared.kind.Kind.{Kind}
use Rattle.message.specs.declared.kind.Kind.TheVariants as kind
use Rattle.message.specs.declared.message.Message.{Message}
use Rattle.ordering.specs.Words.{first_word}
use Rattle.processor.specs.Receive as processor
use Rattle.processor.specs.Slots.{is_awaited, slot_at}
use Rattle.processor.specs.declared.state.Processor.{Processor}
use Rattle.std.proofs.lemmas.Bool.{and_parts, eqb-true, lt-ltb, ltb-true, or_cases}
use Rattle.coherence.proofs.Blocks.{peer, token}
use Rattle.coherence.proofs.Rules.{value_ruled}

-- a request's class, its end, and its way into a home
pub request_class : (m : Message ℕ) → is_request m.kind ≡ true → (token m ≡ kind_number m.kind) × (peer m ≡ m.sender)
request_class m is = grind arith

pub takes_request : (h : Home ℕ) (b : ℕ) (m : Message ℕ) → b < 16 → is_request m.kind ≡ true → is_some (requested h b (request_of m)) ≡ true → is_some (received h b m) ≡ true
takes_request h b m small is ruled = grind (arith, nat_tests)

pub takes_ack : (h : Home ℕ) (b : ℕ) (m : Message ℕ) → b < 16 → m.kind ≡ kind.Ack → awaits h.directory m.sender ≡ true → is_some (received h b m) ≡ true
takes_ack h b m small is ready = rw (lt-ltb b 16 small, is, ready) refl

pub takes_taken : (h : Home ℕ) (b : ℕ) (m : Message ℕ) → b < 16 → m.kind ≡ kind.Taken → awaits_taken h.directory m.sender ≡ true → is_some (received h b m) ≡ true
takes_taken h b m small is ready = rw (lt-ltb b 16 small, is, ready) refl

pub least : (k : Kind) → 1 ≤ kind_number k
least k = grind arith

-- the numbers of devices
pub device_nodes : (n : ℕ) → is_device n ≡ true → (n ≡ 4) ⊎ (n ≡ 5)
device_nodes n is = ⊎_elim (λ four. inl (eqb-true n 4 four)) (λ five. inr (eqb-true n 5 five)) (or_cases (eqb n 4) (eqb n 5) is)

pub owner_nodes : (f : Figures) (n p : ℕ) → end_fits f Owner n p ≡ true → (n ≡ 4) ⊎ (n ≡ 5)
owner_nodes f n p is = grind arith

pub owner_device : (f : Figures) (n p : ℕ) → end_fits f Owner n p ≡ true → is_device n ≡ true
owner_device f n p is = grind arith

-- VALUE from a device finds its slot
pub fetches : (s : Processor ℕ) (m : Message ℕ) (d : ℕ) → d < 2 → m.sender ≡ device_node d → is_awaited (slot_at s.slots d) ≡ true → is_some (processor.fetched_from s m) ≡ true
fetches s m zero two from awaited = rw from (value_ruled s 0 (first_word m.words) m.clock awaited)
fetches s m (suc zero) two from awaited = rw from (value_ruled s 1 (first_word m.words) m.clock awaited)
fetches s m (suc (suc d)) two from awaited = absurd (omega arith)

pub on_board : (f : Figures) (n : ℕ) → has_processor f n ≡ true → n < 4
on_board f n is = ltb-true n 4 (and_parts (ltb n 4) (ltb n f.processors) is).0

-- a request goes back to a processor or a device
pub back_end : (f : Figures) (r : Kind) (n p : ℕ) → is_request r ≡ true → end_fits f (row r).sender n p ≡ true → (n < 4) ⊎ (is_device n ≡ true)
back_end f r n p is fits = grind arith
