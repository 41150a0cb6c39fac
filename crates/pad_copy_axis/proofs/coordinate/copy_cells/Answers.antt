-- `copy_cells` meets its contract: in each block the cell of the one coordinate is copied onto the cell of the other.
use mathlib.Core.Path.{refl, sym, ap, ◌∙◌}
use Prim.Native.Nat.{◌+◌, ◌-◌, ◌*◌, ◌≤◌}
use native.Mathlib.Nat.{mul-one}
use native.Mathlib.Omega.{arith}
use lib.ListN.{length}
use Rattle.numbers.proofs.Read.{read}
use Rattle.lanes.proofs.Cells.{step_le}
use Rattle.pad_copy_axis.proofs.RunByRun.{blocks_none, blocks_one, blocks_all}
use borrow.Author.Rules.{rules}
use Rattle.pad_copy_axis.proofs.coordinate.copy_cells.Goals as goal

pub loop-block-preserved : goal.loop-block-preserved
loop-block-preserved c =
    blocks_one _ c.requires.0 c.requires.1 c.requires.2 (omega (arith, step_le c.args.p c.loop-block-test.true, c.requires.3)) (read (search rules) refl) c.loop-block.invariant

pub returns : goal.returns
returns c = blocks_all (c.requires.3 ∙ ap (λ x. c.args.blocks * x) (sym (mul-one c.args.p))) c.loop-block-test.false c.loop-block.invariant
