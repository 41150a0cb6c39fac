-- `copy_runs` meets its contract: in each block the run of the one coordinate is copied onto the run of the other.
use Prim.Native.Nat.{◌+◌, ◌-◌, ◌*◌, ◌≤◌}
use native.Mathlib.Omega.{arith}
use lib.ListN.{length}
use Rattle.pad_copy_axis.proofs.RunByRun.{run_at, blocks_none, blocks_more, blocks_all, block_in, run_in, runs_apart}
use borrow.Author.Rules.{rules}
use Rattle.pad_copy_axis.proofs.coordinate.copy_runs.Goals as goal

pub copy_run-requires : goal.copy_run-requires
copy_run-requires c =
    let a = c.args in
    let r = c.requires in
    let kept = c.loop-block.invariant.stored.kept in (
      omega (arith, run_in a.p a.s r.4 c.loop-block-test.true r.0, kept),
      omega (arith, run_in a.p a.s r.4 c.loop-block-test.true r.1, kept),
      runs_apart a.p a.s c.loop-block.block r.2,
    )

pub loop-block-preserved : goal.loop-block-preserved
loop-block-preserved c =
    let a = c.args in
    let r = c.requires in
    blocks_more a.p a.s (omega (arith, r.0)) r.3 r.0 r.1 r.2 c.loop-block.invariant (block_in a.p a.s r.4 c.loop-block-test.true) c.copy_run.ensures

pub returns : goal.returns
returns c = blocks_all c.requires.4 c.loop-block-test.false c.loop-block.invariant
