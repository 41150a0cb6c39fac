-- `fill_levels` meets its contract: the only axis of a grid has stride 1, so no line is asked for it.
use mathlib.Core.Path.{sym}
use native.Mathlib.Omega.{arith}
use Rattle.array_spec.proofs.Shapes.{stride_past}
use Rattle.pad_spec.proofs.Fills.{fills_last}
use Rattle.pad_statistic.proofs.rims.fill_levels.Goals as goal

pub fill_axis-requires : goal.fill_axis-requires
fill_axis-requires c =
    let t = c in
    let s = t in
    (s.requires.0, omega (arith, t.if-shape-eq1.true), λ apart. absurd (apart (stride_past s.args.padded.now 0 (omega (arith, t.if-shape-eq1.true, s.requires.0.axes)))), s.requires.1)

pub returns-then-shape-eq1 : goal.returns-then-shape-eq1
returns-then-shape-eq1 c = fills_last (sym c.if-shape-eq1.true) c.fill_axis.ensures
