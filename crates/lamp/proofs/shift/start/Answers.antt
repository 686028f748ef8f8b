use Rattle.std.proofs.Common.{ap, ◌∙◌}
use Rattle.lamp.proofs.Shifting.{begins}
use Rattle.lamp.proofs.shift.start.Goals as goal
use Rattle.lamp.specs.Banks.{lamps}
use Rattle.lamp.specs.declared.bank.Bank.{Bank}
use Rattle.raster.specs.Boards.{world}
use Rattle.raster.specs.declared.board.Board.{Board}

pub returns : goal.returns
returns c =
    ap (λ (b : Board Bank Bank). world lamps lamps b c.make.new.messages c.make.new.trail) c.new.ensures
    ∙ c.make.ensures
    ∙ begins _ _ _ _ c.new-first.ensures c.new-second.ensures c.requires.0 c.requires.1
