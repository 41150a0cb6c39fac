-- `write_kernel` meets its contract: 2, or the refusal of an unknown code, or the cells of the kernel.
use mathlib.Core.Path.{refl, ap, ◌∙◌}
use borrow.Author.Tests.{eq-eqb, ne_eqb}
use lib.ListN.{length}
use Rattle.codes.specs.Codes.{coded}
use Rattle.codes_cells.specs.Cells.{kernel_cells}
use Rattle.codes.proofs.Coded.{answers_known, answers_unknown}
use Rattle.codes_cells.proofs.kernel.write_kernel.Goals as goal

pub returns-then-out-ne27 : goal.returns-then-out-ne27
unfolding coded
returns-then-out-ne27 c = record { number = rw (ne_eqb (length c.args.out.now) 27 c.if-out-ne27.true) refl; cells = refl }

pub returns-then-code-gt2 : goal.returns-then-code-gt2
returns-then-code-gt2 c =
    let n = length c.args.out.now in
    answers_unknown _ 2 0 (tt, tt) c.if-code-gt2.true (rw (eq-eqb n 27 c.if-out-ne27.false) refl) refl

pub returns : goal.returns
returns c =
    answers_known _ 2 c.if-code-gt2.false
    (record {
      number = rw (eq-eqb (length c.args.out.now) 27 c.if-out-ne27.false) refl;
      cells = c.fill_kernel.ensures ∙ ap kernel_cells c.kernel_of.ensures;
    })
