-- `copy_row` meets its contract: the cells of the row are stored one after the other, and no other place changes.
use borrow.Author.Rules.{rules}
use mathlib.Core.Path.{refl}
use Prim.Native.Nat.{◌+◌, ◌-◌, ◌<◌}
use native.Mathlib.Omega.{arith}
use lib.ListN.{length}
use Rattle.numbers.proofs.Read.{read}
use Rattle.pad_spec.proofs.OneRow.{row_none, row_more, row_all}
use Rattle.pad_middle.proofs.middle.copy_row.Goals as goal
use Rattle.pad_middle.proofs.middle.copy_row.Goals.{In-loop-j}

pub loop-j-preserved : goal.loop-j-preserved
loop-j-preserved c = row_more _ (omega (arith, c.loop-j-test.true, c.requires.1)) (read (search rules) refl) c.loop-j.invariant

pub returns : goal.returns
returns c = row_all c.args.n (omega arith) c.loop-j.invariant
