-- `correlate_grid::cells::correlate_row` meets its contract: from a row of 0, each turn adds the sums of one kernel plane.
use mathlib.Core.Path.{◌≡◌, sym, ap, ◌∙◌}
use Prim.Native.Nat.{ℕ, ◌*◌}
use native.Mathlib.Omega.{arith}
use Rattle.correlate_grid.proofs.EveryRow.{summing_none, summing_length, summing_to}
use borrow.Author.Rules.{rules}
use Rattle.correlate_grid.proofs.cells.correlate_row.Goals as goal

pub loop-i-init : goal.loop-i-init
loop-i-init c = let s = c in summing_none s.args.out.now s.requires.3 s.requires.4 c.fill.ensures

pub add_kernel_plane-requires : goal.add_kernel_plane-requires
add_kernel_plane-requires c = let s = c in (s.requires.0, s.requires.1, s.requires.2, search rules, c.loop-i.invariant)

pub loop-i-preserved : goal.loop-i-preserved
loop-i-preserved c = let k = c.add_kernel_plane in
    record { line_long = k.auto.line ∙ c.loop-i.invariant.line_long; sums = k.ensures }

pub shape_of-line : goal.shape_of-line
shape_of-line c = c.loop-i.invariant.line_long ∙ sym c.requires.3

pub shape_of-out : goal.shape_of-out
shape_of-out c = summing_length c.loop-i.invariant ∙ sym c.requires.4

pub returns : goal.returns
returns c = let a = c.args.axes in
    let e : c.loop-i.i ≡ a.planes.side = omega arith in
    summing_to c.loop-i.invariant (a.planes.side * a.rows.side) (ap (λ (m : ℕ). m * a.rows.side) e)
