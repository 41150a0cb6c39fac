-- `bad_window` meets its contract: origin 0 is accepted.
use Rattle.uniform_spec.proofs.Window.{origin_in}
use Rattle.uniform_judge.proofs.judge.bad_window.Goals as goal

pub bad_reach-requires : goal.bad_reach-requires
bad_reach-requires c = origin_in c.args.size c.requires
