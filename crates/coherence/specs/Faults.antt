-- Faults: the layer, the number and the place of each.
use Rattle.std.specs.Prelude.{ℕ}
use Rattle.bridge.specs.Faults as device
use Rattle.processor.specs.Refusals.{refusal_number, refusal_place}
use Rattle.coherence.specs.declared.fault.BoardFault.TheVariants.{NotFit, Argument, Refused, TrailFull, NumberEnds}
use Rattle.coherence.specs.declared.fault.Fault.{Fault}
use Rattle.coherence.specs.declared.fault.Fault.TheVariants.{Device, Network, Board}
use Rattle.coherence.specs.declared.fault.Layer.{Layer}
use Rattle.coherence.specs.declared.fault.Layer.TheVariants as layer
use Rattle.coherence.specs.declared.fault.NetworkFault.TheVariants.{OlderWaits, NoRule, MessagesFull}

abbrev pub fault_layer : Fault → Layer
fault_layer (Device f) = layer.Device
fault_layer (Network f) = layer.Network
fault_layer (Board f) = layer.Board

abbrev pub fault_number : Fault → ℕ
fault_number (Device f) = device.fault_number f
fault_number (Network (OlderWaits p)) = 9
fault_number (Network (NoRule p)) = 10
fault_number (Network (MessagesFull c)) = 14
fault_number (Board NotFit) = 1
fault_number (Board (Argument i)) = 2
fault_number (Board (Refused r)) = refusal_number r
fault_number (Board (TrailFull c)) = 15
fault_number (Board (NumberEnds n)) = 16

abbrev pub fault_place : Fault → ℕ
fault_place (Device f) = device.fault_place f
fault_place (Network (OlderWaits p)) = p
fault_place (Network (NoRule p)) = p
fault_place (Network (MessagesFull c)) = c
fault_place (Board NotFit) = 0
fault_place (Board (Argument i)) = i
fault_place (Board (Refused r)) = refusal_place r
fault_place (Board (TrailFull c)) = c
fault_place (Board (NumberEnds n)) = n
