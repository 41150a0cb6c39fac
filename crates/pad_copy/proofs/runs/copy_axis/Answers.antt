-- `copy_axis` meets its contract: the padded grid is blocks of runs, and both rims of the axis are copied, some blocks at a time.
use mathlib.Core.Path.{refl}
use Prim.Native.Nat.{◌/◌, ◌*◌}
use native.Mathlib.Omega.{arith}
use lib.ListN.{length, get_or}
use Rattle.pad_spec.specs.Runs.{Runs}
use Rattle.pad_spec.proofs.Room.{padded_few}
use Rattle.pad_copy.proofs.CopiedAxis.{block_some, block_small, axis_runs, axis-copied}
use Rattle.pad_copy.proofs.runs.copy_axis.Goals as goal

pub stride_of-s-requires : goal.stride_of-s-requires
stride_of-s-requires c = let F = c.requires.0.framed in (padded_few F, F.short)

pub overflow_mul-block : goal.overflow_mul-block
overflow_mul-block c =
    let s = c in
    omega (arith, block_small s.args.mode s.requires.0 s.requires.1 c.len_of-p.ensures c.len_of-n.ensures c.stride_of-s.ensures s.requires.2)

pub nonzero_div-blocks : goal.nonzero_div-blocks
nonzero_div-blocks c =
    let s = c in
    block_some s.args.mode s.requires.0 s.requires.1 c.len_of-p.ensures c.len_of-n.ensures c.stride_of-s.ensures s.requires.2

pub few_blocks-few-requires : goal.few_blocks-few-requires
few_blocks-few-requires c = nonzero_div-blocks c

pub copy_blocks-requires : goal.copy_blocks-requires
copy_blocks-requires c = ((let runs : let a = c.args in let p = c.len_of-p.result in let s = c.stride_of-s.result in Runs a.mode p s (length a.out.now / (p * s)) (get_or a.lefts.now a.axis 0) c.len_of-n.result (length a.out.now) = let s = c in axis_runs s.args.mode s.requires.0 s.requires.1 c.len_of-p.ensures c.len_of-n.ensures c.stride_of-s.ensures s.requires.2 in runs), c.few_blocks-few.ensures)

pub returns : goal.returns
returns c =
    let t = c in
    let s = t in
    axis-copied s.args.mode s.requires.0 s.requires.1 t.len_of-p.ensures t.len_of-n.ensures t.stride_of-s.ensures s.requires.2 s.args.out.now
    c.copy_blocks.ensures refl
