-- `min_max::one_axis::filter1d` meets its contract: the judge has accepted the call that the pass supposes.
use mathlib.Core.Path.{◌≡◌, sym}
use Rattle.min_max_spec.specs.Call.{number_of}
use Rattle.min_max.proofs.one_axis.filter1d.Goals as goal

pub pass-requires : goal.pass-requires
unfolding number_of
pass-requires c = sym c.in_ok-judge_call.ensures
