-- `unmark` meets its contract: the levels are stored from the front.
use mathlib.Core.Path.{sym, ◌∙◌}
use native.Mathlib.Omega.{arith}
use borrow.Author.Tests.{eq-eqb}
use lib.IntN.{pos}
use Rattle.numbers.proofs.Tests.{cond_yes}
use Rattle.numbers.proofs.Stored.{front-all}
use Rattle.ndimage_arguments.proofs.unmark.Goals as goal

pub returns : goal.returns
returns c = front-all (pos 0) _ (omega arith) c.loop-i.invariant ∙ sym (cond_yes _ _ _ (eq-eqb _ _ c.if-marks-n.false))
