-- Each answer of `refuses` is condition 7, by the law for the origin's sign.
use mathlib.Core.Path.{sym}
use native.Mathlib.Omega.{arith}
use Rattle.window.specs.Shift.{origin_of}
use Rattle.window_spec.proofs.Origins.{origin_none, origin_on, origin_back}
use Rattle.window.proofs.origin.refuses.Goals as goal

pub returns-then-len-eq0 : goal.returns-then-len-eq0
returns-then-len-eq0 c = rw c.if-len-eq0.true (sym (origin_none (origin_of c.args.origin)))

pub returns-in-On : goal.returns-in-On
returns-in-On c = rw c.in-On.is (sym (origin_on _ _ (omega arith)))

pub returns-in-Back : goal.returns-in-Back
returns-in-Back c = rw c.in-Back.is (sym (origin_back _ _ (omega arith)))
