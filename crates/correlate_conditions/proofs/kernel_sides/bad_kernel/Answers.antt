-- `bad_kernel` meets its contract: the first test that holds decides, and the product is that of an accepted shape.
use mathlib.Core.Path.{sym, ◌∙◌}
use borrow.Author.Tests.{eqb-true, not-false}
use lib.ListN.{length}
use Rattle.correlate_judge_spec.proofs.Equal.{axes_differ, side_differs, count_asked}
use Rattle.correlate_conditions.proofs.kernel_sides.bad_kernel.Goals as goal
use Rattle.correlate_conditions.proofs.kernel_sides.bad_kernel.Goals.{then-sides-shape, else-sides-shape}

pub returns-then-bad_sides : goal.returns-then-bad_sides
returns-then-bad_sides c =
    let a = c.args in
    elim c.if-sides-shape.branch [
      | then-sides-shape w ↦ c.if-bad_sides.true ∙ axes_differ a.shape.now a.sides.now a.count w.if-sides-shape.true
      | else-sides-shape w ↦
          c.if-bad_sides.true ∙ side_differs a.shape.now a.sides.now a.count w.if-sides-shape.false
          (sym (rw w.len_of.ensures at w.bad_sides.ensures) ∙ sym w.value-is ∙ c.if-bad_sides.true)
    ]

pub returns-else-bad_sides : goal.returns-else-bad_sides
returns-else-bad_sides c =
    let a = c.args in
    elim c.if-sides-shape.branch [
      | then-sides-shape w ↦ absurd (w.if-sides-shape.true (eqb-true (length a.sides.now) (length a.shape.now) (not-false _ (sym w.value-is ∙ c.if-bad_sides.false))))
      | else-sides-shape w ↦
          count_asked a.shape.now a.sides.now a.count w.if-sides-shape.false c.requires
          (sym (rw w.len_of.ensures at w.bad_sides.ensures) ∙ sym w.value-is ∙ c.if-bad_sides.false) c.bad_length.ensures
    ]
