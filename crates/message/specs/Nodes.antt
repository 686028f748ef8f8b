-- Node numbers: 0 to 3 are processors, 4 and 5 the devices, and 16 + b is the home of block b.
use Rattle.std.specs.Prelude.{ℕ, ◌+◌, ◌-◌, Bool, if◌then◌else◌, ◌&&◌, ◌||◌, Some, None, Option, ◌==◌, nat_le, nat_lt}
use Rattle.message.specs.declared.node.Node.{Node}
use Rattle.message.specs.declared.node.Node.TheVariants.{Processor, Device, Home}

abbrev pub device_node : ℕ → ℕ
device_node d = 4 + d

abbrev pub home_node : ℕ → ℕ
home_node b = 16 + b

abbrev pub node_numbered : ℕ → Option Node
node_numbered n =
    if nat_lt n 4 then Some (Processor n)
    else if nat_lt n 6 then Some (Device (n - 4))
    else if (nat_le 16 n && nat_lt n 32) then Some (Home (n - 16))
    else None

abbrev pub is_processor : ℕ → Bool
is_processor n = nat_lt n 4

abbrev pub is_device : ℕ → Bool
is_device n = n == 4 || n == 5
