-- `write_lines` meets its contract: the lines of the levels before the one that is read stand at the front.
use mathlib.Core.Path.{◌≡◌}
use mir.Syntax.{w64}
use mir.Val.{to_z, of_z}
use borrow.Author.Rules.{rules}
use lib.IntN.{pos}
use lib.ListN.{get_or}
use Rattle.grid_text_spec.proofs.Lined.{more_count, more_most, more_lines}
use Rattle.grid_text_lines.proofs.lines.write_lines.Goals as goal

pub loop-z-preserved : goal.loop-z-preserved
loop-z-preserved c =
    let l = c.loop-z in
    let v = c.args.levels.now in
    let o = c.args.out.now in
    let k = c.put_line-at in
    let z = get_or v l.z-index (pos 0) in
    let y : to_z w64 (of_z w64 z) ≡ z = search rules in (
      more_most v o l.out k.new.out l.at l.z-index k.result (pos 0) _ c.loop-z-test.true l.invariant.1 l.invariant.2 y k.ensures.value l.invariant.0,
      more_count v o l.out k.new.out l.at l.z-index k.result (pos 0) _ c.loop-z-test.true l.invariant.1 l.invariant.2 y k.ensures.value,
      more_lines v o l.out k.new.out l.at l.z-index k.result (pos 0) _ c.loop-z-test.true l.invariant.1 l.invariant.2 y k.ensures.value k.ensures.out_after,
    )
