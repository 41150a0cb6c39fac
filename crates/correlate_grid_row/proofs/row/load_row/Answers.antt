-- `load_row` meets its contract: the constant all along, or the padded row.
use mathlib.Core.Path.{◌≡◌, ◌∙◌}
use native.Mathlib.Omega.{arith}
use mir.Syntax.{w64}
use mir.Val.{to_z, of_z}
use Rattle.border.specs.Modes.{border_of}
use Rattle.correlate_grid_row.proofs.RowLine.{loaded_none, row_padding, loaded_some}
use borrow.Author.Rules.{rules}
use Rattle.correlate_grid_row.proofs.row.load_row.Goals as goal

pub returns-then-row-none : goal.returns-then-row-none
returns-then-row-none c = let s = c in
    let a = s.args in
    let k = c.constant_of.result in
    let e : to_z w64 (of_z w64 k) ≡ k = search rules in
    loaded_none (border_of a.mode) a.axis a.none a.row a.«data».now a.line.now c.if-row-none.true s.requires.3
    (e ∙ c.constant_of.ensures) c.fill.ensures

pub overflow_mul-row : goal.overflow_mul-row
overflow_mul-row c = let s = c in omega (arith, s.requires.2 c.if-row-none.false, s.requires.1)

pub pad_from-requires : goal.pad_from-requires
pad_from-requires c = let s = c in
    let a = s.args in
    row_padding (border_of a.mode) a.axis a.none a.row a.«data».now a.line.now s.requires.0 (s.requires.2 c.if-row-none.false) s.requires.3

pub returns : goal.returns
returns c = let s = c in
    let a = s.args in
    let h = c.if-row-none.false in
    loaded_some (border_of a.mode) a.axis a.none a.row a.«data».now a.line.now h s.requires.3 c.pad_from.ensures
