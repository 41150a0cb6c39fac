-- `capi::pads::suvvokal_pad` meets its contract: the library's answers, or the refusal of an unknown code.
use mathlib.Core.Path.{◌≡◌, ◌∙◌}
use mir.Syntax.{w64}
use mir.Val.{to_z, of_z}
use borrow.Author.Rules.{rules}
use Rattle.codes.proofs.Coded.{answers_known, answers_unknown}
use Rattle.capi.proofs.pads.suvvokal_pad.Goals as goal

pub returns-then-code-gt8 : goal.returns-then-code-gt8
returns-then-code-gt8 c =
    let a = c.args in
    let k : to_z w64 (of_z w64 a.constant) ≡ a.constant = search rules in
    let m = rw k at c.pad_mode_of-mode.ensures in
    let p = c.pairs_of-pairs.ensures in
    answers_unknown _ 8 _ (tt, (tt, (tt, (tt, (tt, (tt, (tt, tt))))))) c.if-code-gt8.true (rw (m, p) at c.judge-judged.ensures) (rw c.answer_number.ensures at c.unknown_after.ensures)

pub returns : goal.returns
returns c =
    let a = c.args in
    let k : to_z w64 (of_z w64 a.constant) ≡ a.constant = search rules in
    let m = rw k at c.pad_mode_of-mode.ensures in
    let p = c.pairs_of-pairs.ensures in
    rw c.answer_number-2.ensures (answers_known _ 8 c.if-code-gt8.false (rw (m, p) at c.pad.ensures))
