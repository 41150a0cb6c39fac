-- `pad_from` meets its contract: the cells are read into the middle and extended.
use native.Mathlib.Omega.{arith}
use lib.IntN.{pos}
use Rattle.pad_line.proofs.From.{middle-inside, read_fits, line-padded}
use Rattle.pad_line.proofs.pad_from.Goals as goal

pub overflow_add-e : goal.overflow_add-e
overflow_add-e c = omega (arith, c.requires.fits)

pub offset_bounds-line-left : goal.offset_bounds-line-left
offset_bounds-line-left c = omega (arith, c.requires.fits)

pub read_from-requires : goal.read_from-requires
read_from-requires c = middle-inside (pos 0) c.requires

pub extend-requires : goal.extend-requires
extend-requires c =
    let P = c.requires in
    (P.some, read_fits (pos 0) P c.read_from.ensures, P.fills_left, P.fills_right)

pub returns : goal.returns
returns c = line-padded (pos 0) c.requires c.read_from.ensures c.extend.ensures
