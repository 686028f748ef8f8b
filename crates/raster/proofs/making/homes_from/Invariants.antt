use Rattle.std.proofs.Common.{◌≡◌, ℕ, ◌<◌, length, get_or}
use Rattle.coherence.specs.Makings.{block_words}
use Rattle.coherence.specs.Worlds.{no_home}
use Rattle.home.specs.Homes.{new_home}
use Rattle.raster.proofs.making.homes_from.Given as goal

abbrev pub invariant-loop-block : goal.invariant-loop-block
invariant-loop-block l =
    ((k : ℕ) → k < l.block → get_or l.homes k no_home ≡ new_home l.clock (block_words l.words k)) × (length l.homes ≡ 16)
