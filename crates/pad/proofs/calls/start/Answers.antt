-- `pad::calls::start` meets its contract: the rim is set where the whole is asked for, else nothing is.
use mathlib.Core.Path.{refl, ap, ◌∙◌}
use Rattle.numbers.proofs.Read.{read}
use Rattle.pad_middle.specs.Around.{around_set}
use Rattle.pad.proofs.Started.{none_started, constant_started}
use mathlib.Core.Bool.{not}
use Rattle.pad.proofs.calls.start.Goals as goal

pub returns-then-not-whole : goal.returns-then-not-whole
returns-then-not-whole c = none_started c.args.whole _ _ (ap not c.if-not-whole.true)

pub returns : goal.returns
returns c =
    let t = c in
    let s = t in
    constant_started s.args.whole _ (ap not t.if-not-whole.false)
    (c.fill_around.ensures ∙ ap (λ z. around_set z s.args.shape.now s.args.lefts.now s.args.padded.now s.args.out.now) (read s.ranges.c.sfits refl))
