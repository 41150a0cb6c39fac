-- `pad::calls::lay_level` meets its contract: the middle is copied over the start.
use mathlib.Core.Path.{refl}
use Rattle.numbers.proofs.Read.{read}
use Rattle.pad.proofs.Started.{laid_started}
use Rattle.pad.proofs.calls.lay_level.Goals as goal

pub returns : goal.returns
returns c =
    let t = c in
    let s = t in
    laid_started s.args.c _ _ _ _ (read s.ranges.c.sfits refl) s.args.out.now s.requires.2 s.args.whole t.start.ensures c.copy_middle.ensures
