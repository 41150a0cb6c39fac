-- `correlate_grid::cells::correlate_three` meets its contract: the tables have the sources, and the buffer is long enough.
use mathlib.Core.Path.{sym}
use Prim.Native.Nat.{◌+◌}
use lib.Seq.{length-take-le}
use borrow.Author.Rules.{rules}
use Rattle.correlate_grid.proofs.cells.correlate_three.Goals as goal

pub slice_bounds-correlate_rows-end-3 : goal.slice_bounds-correlate_rows-end-3
slice_bounds-correlate_rows-end-3 c = let z = c.args.axes.cells in sym
    (length-take-le (z.left + z.len + z.right) _ ((search rules)))

pub correlate_rows-requires : goal.correlate_rows-requires
correlate_rows-requires c = let s = c in (
  record {
    laid = s.requires.0;
    planes = c.find_sources.ensures;
    rows = c.find_sources-2.ensures;
  },
  sym ((let z = c.args.axes.cells in sym (length-take-le (z.left + z.len + z.right) _ ((search rules))))),
  s.requires.1,
)
