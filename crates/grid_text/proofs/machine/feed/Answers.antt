-- `feed` meets its contract: the bytes that are left decide.
use mathlib.Core.Path.{sym, ◌∙◌}
use Rattle.grid_text_spec.proofs.Bytes.{fed-next, fed-all}
use Rattle.grid_text_spec.specs.Machine.{machine}
use Rattle.grid_text.proofs.machine.feed.Goals as goal

pub loop-byte-preserved : goal.loop-byte-preserved
loop-byte-preserved c =
    let s = c.step-s in
    let l = c.loop-byte in
    l.invariant
    ∙ fed-next (machine l.s l.lengths l.levels) (machine s.result s.new.lengths s.new.levels) l.byte-index c.args.part.now c.loop-byte-test.true s.ensures

pub returns : goal.returns
returns c =
    let l = c.loop-byte in
    sym (l.invariant ∙ fed-all (machine l.s l.lengths l.levels) l.byte-index c.args.part.now c.loop-byte-test.false)
