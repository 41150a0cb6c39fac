-- `mark` meets its contract: the marks are stored from the front.
use mathlib.Core.Path.{sym, ◌∙◌}
use mathlib.Core.Bool.{false}
use native.Mathlib.Omega.{arith}
use borrow.Author.Tests.{eq-eqb}
use Rattle.numbers.proofs.Tests.{cond_yes}
use Rattle.numbers.proofs.Stored.{front-all}
use Rattle.ndimage_arguments.proofs.mark.Goals as goal

pub returns : goal.returns
returns c = front-all false _ (omega arith) c.loop-i.invariant ∙ sym (cond_yes _ _ _ (eq-eqb _ _ c.if-levels-n.false))
