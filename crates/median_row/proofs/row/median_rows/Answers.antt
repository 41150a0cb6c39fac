-- `median_rows` meets its contract: each turn sets one row.
use mathlib.Core.Path.{◌∙◌}
use Prim.Native.Nat.{◌-◌}
use native.Mathlib.Omega.{arith}
use Rattle.median_spec.proofs.Spans.{rows_count}
use Rattle.median_spec.proofs.EveryRow.{rows_none, rows_more, rows_all}
use borrow.Author.Rules.{rules}
use Rattle.median_row.proofs.row.median_rows.Goals as goal

pub overflow_mul-r-end : goal.overflow_mul-r-end
overflow_mul-r-end c = omega (arith, rows_count c.requires.0)

pub loop-r-init : goal.loop-r-init
loop-r-init c = rows_none _ _ _

pub set_row-requires : goal.set_row-requires
set_row-requires c = let s = c in (s.requires.0, search rules, c.loop-r.invariant.kept ∙ s.requires.1)

pub loop-r-preserved : goal.loop-r-preserved
loop-r-preserved c = let l = c.loop-r in rows_more _ _ l.r l.invariant c.set_row.ensures

pub shape_of-out : goal.shape_of-out
shape_of-out c = c.loop-r.invariant.kept

pub returns : goal.returns
returns c = let s = c in let l = c.loop-r in rows_all s.requires.0 s.requires.1 (search rules) (search rules) l.invariant
