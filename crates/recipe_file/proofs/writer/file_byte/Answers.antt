-- `file_byte` meets its contract: a byte of the mark, or byte r of step q.
use native.Mathlib.Omega.{arith}
use mathlib.Core.Path.{sym, ◌∙◌}
use Rattle.recipe_spec.proofs.Steps.{file-mark, file_place}
use Rattle.recipe_file.proofs.writer.file_byte.Goals as goal

pub returns-then-i-lt6 : goal.returns-then-i-lt6
returns-then-i-lt6 c = let a = c.args in sym (file-mark a.count a.steps a.i c.if-i-lt6.true)

pub returns : goal.returns
returns c =
    let s = c in
    c.step_byte.ensures ∙ sym (file_place s.args.count s.args.steps s.args.i (omega arith) (omega arith) (omega (arith, s.well_formed.1.0.1.0.1)))
