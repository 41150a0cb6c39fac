-- `find_word` meets its contract: the invariant is `Looking`.
use mathlib.Core.Path.{sym, ◌∙◌}
use Rattle.words.proofs.Column.{looking_none, looking_hit, looking_on, looking_end, looking_all}
use Rattle.words.proofs.find_word.Goals as goal

pub loop-i-init : goal.loop-i-init
loop-i-init c = looking_none _ _

pub returns-then-is_here : goal.returns-then-is_here
returns-then-is_here c =
    sym (looking_hit c.loop-i.invariant c.loop-i-test.true (sym c.is_here.ensures ∙ c.if-is_here.true))

pub loop-i-preserved-then-no_space : goal.loop-i-preserved-then-no_space
loop-i-preserved-then-no_space c = looking_on c.loop-i.invariant c.loop-i-test.true (sym c.no_space.ensures ∙ c.if-no_space.true) c.start_behind-start.ensures

pub loop-i-preserved : goal.loop-i-preserved
loop-i-preserved c =
    looking_end c.loop-i.invariant c.loop-i-test.true (sym c.no_space.ensures ∙ c.if-no_space.false) (sym c.is_here.ensures ∙ c.if-is_here.false) c.count_at-place.ensures

pub returns : goal.returns
returns c = sym (looking_all c.loop-i.invariant c.loop-i-test.false)
