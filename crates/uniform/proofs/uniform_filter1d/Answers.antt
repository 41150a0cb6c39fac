-- `uniform_filter1d` meets its contract: the judge has accepted the pass.
use mathlib.Core.Path.{sym}
use Rattle.uniform.proofs.Accepted.{along_accepted}
use Rattle.uniform.proofs.uniform_filter1d.Goals as goal

pub pass-requires : goal.pass-requires
pass-requires c = along_accepted c.args.out.now (sym c.in_ok-judge_uniform1d.ensures)
