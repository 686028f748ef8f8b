-- Which node a number is, and that a processor that a well-formed message goes to is on the board.
use Rattle.std.proofs.lemmas.Bool.Decides.{nat_tests}
use Rattle.std.proofs.Common.{◌≡◌, ℕ, ◌<◌, true, false, eqb, Some, arith}
use Rattle.message.specs.Checks.{has_processor}
use Rattle.message.specs.Nodes.{device_node, home_node, is_device, node_numbered}
use Rattle.message.specs.declared.figures.Figures.{Figures}
use Rattle.message.specs.declared.message.Message.{Message}
use Rattle.message.specs.declared.node.Node.TheVariants as node
use Rattle.std.proofs.lemmas.Bool.{ne_eqb, or_from}
use Rattle.coherence.proofs.FormsBuilt.{Well}

-- where a number is a node's
pub processor_number : (n p : ℕ) → node_numbered n ≡ Some (node.Processor p) → (n ≡ p) × (n < 4)
processor_number n p h = grind (arith, nat_tests)

pub device_number : (n d : ℕ) → node_numbered n ≡ Some (node.Device d) → (n ≡ device_node d) × (d < 2)
device_number n d h = grind (arith, nat_tests)

pub home_number : (n b : ℕ) → node_numbered n ≡ Some (node.Home b) → (n ≡ home_node b) × (b < 16)
home_number n b h = grind (arith, nat_tests)

-- a processor that a well-formed message goes to is on the board
pub no_device : (n : ℕ) → n < 4 → is_device n ≡ false
no_device n small = or_from (eqb n 4) (eqb n 5) (ne_eqb n 4 (λ is. omega arith)) (ne_eqb n 5 (λ is. omega arith))

pub receiver_on_board : (f : Figures) (m : Message ℕ) → Well f m → m.receiver < 4 → has_processor f m.receiver ≡ true
receiver_on_board f m h small = grind (arith, nat_tests)
