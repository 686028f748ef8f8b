-- Homes: a new one, and one with numbers that may stand past their end.
use Rattle.std.specs.Prelude.{ℕ, false, if◌then◌else◌, Some, None, Option}
use Rattle.ordering.specs.Clocks.{is_within}
use Rattle.ordering.specs.declared.clock.Clock.{Clock}
use Rattle.ordering.specs.declared.operation.Words.{Words}
use Rattle.home.specs.Sets.{nobody}
use Rattle.home.specs.declared.directory.Directory.{Directory}
use Rattle.home.specs.declared.directory.Phase.TheVariants.{Free}
use Rattle.home.specs.declared.machine.Home.{Home}

-- Free, and nobody holds a copy.
abbrev pub new_directory : Directory
new_directory = record { holders = nobody; exclusive = false; phase = Free }

abbrev pub home : Clock ℕ → Words → Directory → Home ℕ
home c w d = record { clock = c; words = w; directory = d }

abbrev pub new_home : ℕ → Words → Home ℕ
new_home c w = home (record { global = c; local = 0 }) w new_directory

abbrev pub settled_home : Home ℕ → Option (Home ℕ)
settled_home h = if is_within h.clock then Some h else None
