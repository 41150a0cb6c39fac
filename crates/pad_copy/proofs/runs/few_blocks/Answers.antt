-- `few_blocks` meets its contract: there is always one; no sum wraps.
use native.Mathlib.Nat.{div-le_self}
use native.Mathlib.Omega.{arith}
use Rattle.pad_copy.proofs.runs.few_blocks.Goals as goal

pub overflow_add-result : goal.overflow_add-result
overflow_add-result c = omega (arith, div-le_self 4096 c.args.block)
