-- `pad_from_f64` meets its contract: the cells are read into the middle and extended.
use native.Mathlib.Omega.{arith}
use lib.Ieee.{nan}
use Rattle.pad_line.proofs.From.{middle-inside, read_fits, line-padded}
use Rattle.pad_line_f64.proofs.pad_from_f64.Goals as goal

pub overflow_add-e : goal.overflow_add-e
overflow_add-e c = omega (arith, c.requires.fits)

pub offset_bounds-line-left : goal.offset_bounds-line-left
offset_bounds-line-left c = omega (arith, c.requires.fits)

pub read_from_f64-requires : goal.read_from_f64-requires
read_from_f64-requires c = middle-inside nan c.requires

pub extend_f64-requires : goal.extend_f64-requires
extend_f64-requires c =
    let P = c.requires in
    (P.some, read_fits nan P c.read_from_f64.ensures, P.fills_left, P.fills_right)

pub returns : goal.returns
returns c = line-padded nan c.requires c.read_from_f64.ensures
    c.extend_f64.ensures
