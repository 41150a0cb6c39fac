-- `origin_check` refuses every origin at length 0, and else answers what `pads` ensures, at the number that `split` took apart.
use Rattle.window_spec.proofs.Answered.{origin_answers}
use Rattle.window_spec.proofs.Origins.{origin_none}
use Rattle.window.proofs.origin.origin_check.Goals as goal

pub returns-then-len-eq0 : goal.returns-then-len-eq0
returns-then-len-eq0 c = origin_answers _ _ _ _ (rw (c.if-len-eq0.true, origin_none))
