-- `fill_kernel` meets its contract: the levels are stored from the front, each as the kernel's cell says.
use mathlib.Core.Path.{ap, ◌∙◌}
use mathlib.Core.Bool.{Bool}
use mathlib.Core.List.{List}
use native.Mathlib.Omega.{arith}
use mir.Syntax.{w64}
use mir.ValLaws.{to_z-of_z}
use lib.IntN.{pos}
use Rattle.numbers.specs.Lists.{tabulate}
use Rattle.numbers.proofs.Stored.{front-more, front-all}
use Rattle.ndimage_arguments.specs.Arguments.{level_of_mark}
use Rattle.ndimage_arguments.proofs.fill_kernel.Invariants.{cell_of}
use Rattle.ndimage_arguments.proofs.fill_kernel.Goals as goal

pub loop-i-preserved : goal.loop-i-preserved
loop-i-preserved c =
    front-more (pos 0) _ _ (omega (arith, c.requires)) c.loop-i.invariant
    (to_z-of_z w64 c.digit.result (record { sfits = c.digit.type_inv }) ∙ c.digit.ensures)

pub returns : goal.returns
returns c =
    front-all (pos 0) _ (omega (arith, c.requires)) c.loop-i.invariant ∙ ap (tabulate _ 0) c.requires
    ∙ ap (λ (s : List (List (List Bool))). tabulate (λ j. level_of_mark (cell_of s j)) 0 27) c.generate-cells.ensures
