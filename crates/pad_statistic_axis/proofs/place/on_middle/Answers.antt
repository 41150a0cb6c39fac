-- `on_middle` meets its contract: the coordinate on the axis is a digit of the place.
use mathlib.Core.Path.{sym, subst, ◌∙◌}
use borrow.Author.Tests.{lt-leb}
use Prim.Native.Nat.{ℕ, ◌<◌}
use native.Mathlib.Omega.{arith}
use Rattle.pad_spec.proofs.Room.{padded_few, axis_stride, axis-length}
use Rattle.pad_statistic_axis.proofs.InMiddle.{middle-before, middle-after}
use Rattle.pad_statistic_axis.proofs.place.on_middle.Goals as goal

pub stride_of-requires : goal.stride_of-requires
stride_of-requires c = (padded_few c.requires.0, c.requires.0.short)

pub nonzero_div-q : goal.nonzero_div-q
nonzero_div-q c = let s = c in subst (λ (x : ℕ). 0 < x) (sym c.stride_of.ensures) (axis_stride s.requires.0 s.args.axis)

pub nonzero_rem-q : goal.nonzero_rem-q
nonzero_rem-q c = let s = c in subst (λ (x : ℕ). 0 < x) (sym c.len_of.ensures) (axis-length s.requires.0 s.args.axis)

pub returns-then-left-q : goal.returns-then-left-q
returns-then-left-q c = middle-after c.requires.0 c.requires.2 c.requires.1 c.stride_of.ensures c.len_of.ensures c.len_of-then-left-q.ensures c.if-left-q.true

pub returns-else-left-q : goal.returns-else-left-q
returns-else-left-q c =
    lt-leb _ _ c.if-left-q.false ∙ middle-before c.requires.0 c.requires.2 c.requires.1 c.stride_of.ensures c.len_of.ensures c.if-left-q.false
