use Rattle.std.proofs.Common.{arith}
use Rattle.coherence.specs.Makings.{block_words}
use Rattle.coherence.specs.Worlds.{no_home}
use Rattle.home.specs.Homes.{new_home}
use Rattle.raster.proofs.making.homes_from.Goals as goal
use Rattle.std.proofs.lemmas.List.FromFn.{fill_by_all}

pub returns : goal.returns
returns c =
    fill_by_all (λ b. new_home c.args.clock (block_words c.args.words.now b)) c.loop-block.homes 16 no_home c.loop-block.invariant.1
    (λ k h. c.loop-block.invariant.0 k (omega arith))
