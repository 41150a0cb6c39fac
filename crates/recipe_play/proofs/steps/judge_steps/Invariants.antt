-- `judge_steps` meets its contract: the steps that are left decide.
use mathlib.Core.Path.{◌≡◌}
use lib.ListN.{take, drop}
use Rattle.numbers.specs.Refusal.{refusal_of}
use Rattle.recipe_spec.specs.Before.{windows_judged}
use Rattle.recipe_play.proofs.steps.judge_steps.Given as goal

abbrev pub invariant-loop-k : goal.invariant-loop-k
invariant-loop-k l = refusal_of (windows_judged l.shape (take l.count l.steps)) ≡ refusal_of (windows_judged l.shape (drop l.k (take l.count l.steps)))
