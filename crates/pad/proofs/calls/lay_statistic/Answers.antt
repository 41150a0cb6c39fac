-- `pad::calls::lay_statistic` meets its contract: the copied middle holds its levels, and then every axis is filled.
use Rattle.pad_spec.specs.Fill.{mode_taking}
use Rattle.pad.proofs.Laid.{filled-middle, laid_filled}
use Rattle.pad.proofs.calls.lay_statistic.Goals as goal

pub returns : goal.returns
returns c =
    let t = c in
    let s = t in
    let a = s.args in
    laid_filled (mode_taking a.statistic) _ _ _ _
    (c.fill_levels.ensures a.«data».now (filled-middle (mode_taking a.statistic) _ _ _ _ a.out.now t.copy_middle.ensures s.requires.3 s.requires.1))
