-- `cell_count` meets its contract: condition 1 refuses any other number of axes, and one to three axes are three
-- lengths, of which the missing ones are 1.
use mathlib.Core.Path.{sym, ◌∙◌}
use mathlib.Core.Bool.{cond}
use Prim.Native.Nat.{◌*◌}
use borrow.Author.Rules.{rules}
use Rattle.array_spec.specs.Conditions.{bad_shape, grid_count}
use Rattle.array_spec.proofs.Shapes.{bad_three, grid_three}
use Rattle.array_shapes.proofs.shapes.cell_count.Goals as goal

pub returns-then-not-contains : goal.returns-then-not-contains
unfolding grid_count bad_shape
returns-then-not-contains c = search rules

pub returns : goal.returns
returns c =
    let e = c.len_of.ensures in
    let g = c.len_of-2.ensures in
    let h = c.len_of-3.ensures in
    c.count_of_three.ensures
    ∙ (λ i. cond (bad_three (e i) (g i) (h i)) 0 (e i * (g i * h i)))
    ∙ sym (grid_three c.args.shape.now (search rules) (search rules))
