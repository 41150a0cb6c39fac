-- `judge_passes` meets its contract: three weights accept the origin 0.
use mathlib.Core.Path.{refl}
use Rattle.window_spec.specs.Origin.{bad_origin}
use Rattle.gradient.proofs.judge.judge_passes.Goals as goal

pub bad_reach_any-requires : goal.bad_reach_any-requires
unfolding bad_origin
bad_reach_any-requires c = refl
