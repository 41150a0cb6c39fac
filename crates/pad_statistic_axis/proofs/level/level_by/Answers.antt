-- `level_by` meets its contract: the lane is read into the line, and its own cells are the part from left on.
use mathlib.Core.Path.{ap, ◌∙◌}
use Rattle.numbers.proofs.Read.{read}
use Rattle.pad_spec.specs.Fill.{statistic_of}
use Rattle.pad_spec.proofs.Serves.{own_read}
use Rattle.pad_statistic_axis.proofs.level.level_by.Goals as goal

pub returns : goal.returns
returns c = let s = c in read c.level_of.type_inv (c.level_of.ensures
    ∙ ap (statistic_of s.args.statistic) (own_read s.args.s s.args.l s.args.left s.args.n s.args.grid.now
    s.args.line.now c.read_lane.ensures s.requires.0))
