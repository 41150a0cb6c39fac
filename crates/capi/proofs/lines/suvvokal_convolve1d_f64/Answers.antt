-- `capi::lines::suvvokal_convolve1d_f64` meets its contract: the library's answers, or the refusal of an unknown code.
use mathlib.Core.Path.{◌≡◌, ◌∙◌}
use mir.Syntax.{w64}
use mir.Val.{to_z, of_z}
use borrow.Author.Rules.{rules}
use Rattle.codes.proofs.Coded.{answers_known, answers_unknown}
use Rattle.capi.proofs.lines.suvvokal_convolve1d_f64.Goals as goal

pub returns-then-code-gt4 : goal.returns-then-code-gt4
returns-then-code-gt4 c =
    let a = c.args in
    let o : to_z w64 (of_z w64 a.origin) ≡ a.origin = search rules in
    let m = c.mode_of_f64-mode.ensures in
    answers_unknown _ 4 _ (tt, (tt, (tt, (tt, (tt, (tt, (tt, (tt, (tt, tt))))))))) c.if-code-gt4.true (rw (m, o) at c.judge_correlate_f64-judged.ensures) (rw c.answer_number.ensures at c.unknown_after.ensures)

pub returns : goal.returns
returns c =
    let a = c.args in
    let o : to_z w64 (of_z w64 a.origin) ≡ a.origin = search rules in
    let m = c.mode_of_f64-mode.ensures in
    rw c.answer_number-2.ensures (answers_known _ 4 c.if-code-gt4.false (rw (m, o) at c.convolve1d_f64.ensures))
