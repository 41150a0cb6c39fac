-- `add_row` meets its contract: cell by cell, and no count passes 255.
use mathlib.Core.Path.{refl}
use Prim.Native.Nat.{◌-◌}
use native.Mathlib.Omega.{arith}
use Rattle.numbers.proofs.Stored.{front-none, front-all}
use Rattle.median_spec.proofs.Adding.{count_fits, added_more}
use borrow.Author.Rules.{rules}
use Rattle.median_row.proofs.row.add_row.Goals as goal

pub loop-i-init : goal.loop-i-init
loop-i-init c = front-none 0 _ _

pub overflow_add-counts : goal.overflow_add-counts
overflow_add-counts c =
    let s = c in
    let l = c.loop-i in
    count_fits s.args.row.now l.invariant (omega arith) s.requires.1

pub loop-i-preserved : goal.loop-i-preserved
loop-i-preserved c =
    let l = c.loop-i in
    added_more c.args.row.now l.invariant (omega arith)

pub shape_of-counts : goal.shape_of-counts
shape_of-counts c = c.loop-i.invariant.kept

pub returns : goal.returns
returns c = front-all 0 _ (omega arith) c.loop-i.invariant
