-- `fill_kernel` meets its contract: the cells are stored from the front, each as the kernel has it.
use mathlib.Core.Path.{ap, ◌∙◌}
use mathlib.Core.Bool.{Bool, false}
use mathlib.Core.List.{List}
use native.Mathlib.Omega.{arith}
use Rattle.numbers.specs.Lists.{tabulate}
use Rattle.numbers.proofs.Stored.{front-all}
use Rattle.codes_cells.proofs.kernel.fill_kernel.Invariants.{cell_of}
use Rattle.codes_cells.proofs.kernel.fill_kernel.Goals as goal

pub returns : goal.returns
returns c =
    let l = c.loop-i in
    front-all false _ (omega (arith, l.invariant.0)) l.invariant.1 ∙ ap (tabulate _ 0) l.invariant.0
    ∙ ap (λ (s : List (List (List Bool))). tabulate (cell_of s) 0 27) c.generate-cells.ensures
