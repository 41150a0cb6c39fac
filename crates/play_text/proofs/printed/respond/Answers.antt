-- `respond` meets its contract: the refusal number as a line, or the levels at the front of the output as lines.
use mathlib.Core.Path.{◌≡◌, sym, subst}
use mathlib.Core.List.{List}
use Prim.Native.Nat.{ℕ}
use lib.IntN.{ℤ}
use lib.Seq.{length-take-le}
use Rattle.grid_text_spec.specs.declared.TextState.{TextState}
use Rattle.grid_text_spec.specs.Machine.{machine}
use Rattle.play_text.specs.PlayText.{PlayedFrom}
use Rattle.play_text.proofs.Shown.{printed_number, printed_short, printed_levels}
use Rattle.play_text.proofs.printed.respond.Goals as goal

-- the answer's number in a variable
answered : (f : List ℕ) (s : TextState) (l' : List ℕ) (v' out second out' second' : List ℤ) {r k : ℕ} → r ≡ k
    → PlayedFrom f (machine s l' v') out second k out' second' → PlayedFrom f (machine s l' v') out second r out' second'
answered f s l' v' out second out' second' e A = subst (λ n. PlayedFrom f (machine s l' v') out second n out' second') (sym e) A

pub returns-then-number-ne0 : goal.returns-then-number-ne0
returns-then-number-ne0 c =
    let a = c.args in
    let w = c.answer in
    let n = c.write_number in
    printed_number a.file.now a.state a.lengths.now a.levels.now a.out.now a.second.now w.new.out w.new.second
    a.text.now (answered c.args.file.now c.args.state c.args.lengths.now c.args.levels.now c.args.out.now c.args.second.now w.new.out w.new.second c.answer_number-number.ensures w.ensures) c.if-number-ne0.true n.ensures.value n.ensures.text_after

pub returns-then-out-cells : goal.returns-then-out-cells
returns-then-out-cells c =
    let a = c.args in
    let w = c.answer in
    printed_short a.file.now a.state a.lengths.now a.levels.now a.out.now a.second.now w.new.out w.new.second
    a.text.now (answered c.args.file.now c.args.state c.args.lengths.now c.args.levels.now c.args.out.now c.args.second.now w.new.out w.new.second c.answer_number-number.ensures w.ensures) c.if-number-ne0.false c.if-out-cells.true

pub slice_bounds-write_lines-end-2 : goal.slice_bounds-write_lines-end-2
slice_bounds-write_lines-end-2 c = sym (length-take-le _ _ c.if-out-cells.false)

pub returns : goal.returns
returns c =
    let a = c.args in
    let w = c.answer in
    let n = c.write_lines in
    printed_levels a.file.now a.state a.lengths.now a.levels.now a.out.now a.second.now w.new.out w.new.second
    a.text.now (answered c.args.file.now c.args.state c.args.lengths.now c.args.levels.now c.args.out.now c.args.second.now w.new.out w.new.second c.answer_number-number.ensures w.ensures) c.if-number-ne0.false n.ensures.value n.ensures.out_after
