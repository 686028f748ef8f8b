-- The plate setter's meaning. From word 4: command, first block, count, processor.
use Rattle.std.specs.Prelude.{ℕ, List}
use Rattle.ordering.specs.declared.operation.Operation.TheVariants.{LdBlk}
use Rattle.ordering.specs.Words.{no_words}
use Rattle.device.specs.declared.meaning.Wish.{Wish}
use Rattle.device.specs.Meaning.{Meaning}
use Rattle.device.specs.Wishes.{block_wish}
use Rattle.sweepers.specs.declared.plate_setter.Fetching.{Fetching}
use Rattle.sweepers.specs.declared.sweeper.Sweeper.{Sweeper}
use Rattle.sweepers.specs.Sweepers.{blank, sweeper_meaning}
use Rattle.sweepers.specs.Tasks.{Task, task}

abbrev pub PlateSetter : Type 0
PlateSetter = Sweeper Fetching 12

abbrev pub blank_plate : PlateSetter
blank_plate = blank 12

-- Each block is read, and then the processor interrupted with value 1.
abbrev pub fetched : List ℕ → ℕ → Wish
fetched ws b = block_wish LdBlk b no_words

abbrev pub fetching : ℕ → Task
fetching c = task c fetched 1

abbrev pub plate_meaning : Meaning PlateSetter
plate_meaning = sweeper_meaning (fetching 4)
