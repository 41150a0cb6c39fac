-- `copy_blocks` meets its contract: each turn fills the next blocks, which are a part of the grid.
use Prim.Native.Nat.{◌-◌, ◌≤◌}
use Rattle.pad_copy.proofs.FewBlocks.{BlocksFilled}
use Rattle.pad_copy.proofs.runs.copy_blocks.Given as goal

abbrev pub invariant-loop-first : goal.invariant-loop-first
invariant-loop-first l = BlocksFilled l.mode l.p l.s l.left l.n l.initial.out l.out l.first × (l.first ≤ l.blocks)

abbrev pub decreases-loop-first : goal.decreases-loop-first
decreases-loop-first l = l.blocks - l.first
