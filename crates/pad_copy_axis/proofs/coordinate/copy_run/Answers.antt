-- `copy_run` meets its contract: the cells of the run are stored one after the other, none of which is read later.
use borrow.Author.Rules.{rules}
use mathlib.Core.Path.{refl}
use Prim.Native.Nat.{◌+◌, ◌-◌, ◌<◌}
use native.Mathlib.Omega.{arith}
use lib.ListN.{length}
use Rattle.numbers.proofs.Read.{read}
use Rattle.pad_spec.proofs.OneRow.{row_none, row_all}
use Rattle.pad_copy_axis.proofs.RunByRun.{run_more}
use Rattle.pad_copy_axis.proofs.coordinate.copy_run.Goals as goal
use Rattle.pad_copy_axis.proofs.coordinate.copy_run.Goals.{In-loop-j}

pub loop-j-preserved : goal.loop-j-preserved
loop-j-preserved c = run_more _ c.loop-j-test.true c.requires.0 c.requires.1 c.requires.2 (read (search rules) refl) c.loop-j.invariant

pub returns : goal.returns
returns c = row_all c.args.count (omega arith) c.loop-j.invariant
