-- `column_at` meets its contract: the invariant is `Counting`.
use mathlib.Core.Path.{sym, ◌∙◌}
use Rattle.words.proofs.Column.{counting_hit, counting_more, counting_all}
use Rattle.words.proofs.column_at.Goals as goal

pub returns-then-is_last : goal.returns-then-is_last
returns-then-is_last c =
    sym (counting_hit c.loop-i.invariant c.loop-i-test.true (sym c.is_last.ensures ∙ c.if-is_last.true))

pub loop-i-preserved : goal.loop-i-preserved
loop-i-preserved c =
    counting_more c.loop-i.invariant c.loop-i-test.true (sym c.is_last.ensures ∙ c.if-is_last.false) c.left_at-left.ensures c.start_behind-start.ensures

pub returns : goal.returns
returns c = sym (counting_all c.loop-i.invariant c.loop-i-test.false)
