-- Faults of a script: the layer, the number and the place of each.
use Rattle.std.specs.Prelude.{ℕ}
use Rattle.coherence.specs.Faults as board
use Rattle.coherence.specs.declared.fault.Layer.{Layer}
use Rattle.coherence.specs.declared.fault.Layer.TheVariants as layer
use Rattle.script.specs.declared.fault.ScriptFault.{ScriptFault}
use Rattle.script.specs.declared.fault.ScriptFault.TheVariants.{NotOfForm, Board}

abbrev pub fault_layer : ScriptFault → Layer
fault_layer (NotOfForm n) = layer.Board
fault_layer (Board f) = board.fault_layer f

abbrev pub fault_number : ScriptFault → ℕ
fault_number (NotOfForm n) = 17
fault_number (Board f) = board.fault_number f

abbrev pub fault_place : ScriptFault → ℕ
fault_place (NotOfForm n) = n
fault_place (Board f) = board.fault_place f
