-- `constant_of` meets its contract, arm by arm.
use mathlib.Core.Path.{◌≡◌, refl}
use mir.Syntax.{w64}
use mir.Val.{to_z, of_z}
use borrow.Author.Rules.{rules}
use Rattle.correlate_grid_row.proofs.row.constant_of.Goals as goal

pub returns-in-Constant : goal.returns-in-Constant
returns-in-Constant c = let z = c.in-Constant.c in
    let e : to_z w64 (of_z w64 z) ≡ z = search rules in
    rw c.in-Constant.is e

pub returns-in-Mirror : goal.returns-in-Mirror
returns-in-Mirror c = rw c.in-Mirror.is refl

pub returns-in-Nearest : goal.returns-in-Nearest
returns-in-Nearest c = rw c.in-Nearest.is refl

pub returns-in-Reflect : goal.returns-in-Reflect
returns-in-Reflect c = rw c.in-Reflect.is refl

pub returns-in-Wrap : goal.returns-in-Wrap
returns-in-Wrap c = rw c.in-Wrap.is refl
