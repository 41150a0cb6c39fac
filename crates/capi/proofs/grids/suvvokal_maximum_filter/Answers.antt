-- `capi::grids::suvvokal_maximum_filter` meets its contract: the library's answers, or the refusal of an unknown code.
use mathlib.Core.Path.{◌≡◌, ◌∙◌}
use mir.Syntax.{w64}
use mir.Val.{to_z, of_z}
use lib.IntN.{pos}
use borrow.Author.Rules.{rules}
use Rattle.numbers.proofs.Tests.{condition_is}
use Rattle.codes.proofs.Coded.{scratch_known, scratch_unknown}
use Rattle.capi.proofs.grids.suvvokal_maximum_filter.Goals as goal

pub returns-then-unknown_any : goal.returns-then-unknown_any
returns-then-unknown_any c =
    let m = c.modes_of-modes.ensures in
    let a = c.args in
    let o : to_z w64 (of_z w64 a.origin) ≡ a.origin = search rules in
    let u = condition_is c.unknown_any.ensures c.if-unknown_any.true in
    scratch_unknown (pos 0) _ _ (tt, (tt, (tt, (tt, (tt, (tt, (tt, tt))))))) u (rw (m, o) at c.judge_filter-judged.ensures) (rw c.answer_number.ensures at c.unknown_after.ensures)

pub returns : goal.returns
returns c =
    let m = c.modes_of-modes.ensures in
    let a = c.args in
    let o : to_z w64 (of_z w64 a.origin) ≡ a.origin = search rules in
    let u = condition_is c.unknown_any.ensures c.if-unknown_any.false in
    rw c.answer_number-2.ensures (scratch_known (pos 0) _ u (rw (m, o) at c.maximum_filter.ensures))
