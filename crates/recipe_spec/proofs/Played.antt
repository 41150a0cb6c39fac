-- Steps played one after the other.
-- Assumes nothing.
use Prim.Native.Nat.{ℕ, zero, suc, ◌<◌}
use native.Mathlib.Nat.{not-suc-le-zero, le_of_suc-le-suc}
use mathlib.Core.Path.{◌≡◌, refl, ◌∙◌}
use mathlib.Core.Bool.{Bool, true, false, cond}
use mathlib.Core.List.{List, [], ◌∷◌}
use lib.IntN.{ℤ, pos}
use lib.ListN.{length, get_or, take}
use Rattle.lanes.proofs.AlongAxis.{length_along}
use Rattle.border.specs.Modes.{border_of}
use Rattle.min_max_spec.specs.Run.{answer_of}
use Rattle.min_max_spec.proofs.Passed.{length_answer}
use Rattle.uniform_spec.specs.Uniform.{uniform1d}
use Rattle.recipe_spec.specs.declared.Step.{Step}
use Rattle.recipe_spec.specs.Recipes.{no_step}
use Rattle.recipe_spec.specs.Player.{is_mean, step_mode, step_call, step_order, step_answer, played}

-- one step more is that step on what the steps before it leave
pub played-more : (ns : List ℕ) (ss : List Step) (cells : List ℤ) (k : ℕ) → k < length ss
    → step_answer ns (get_or ss k no_step) (played ns (take k ss) cells) ≡ played ns (take (suc k) ss) cells
unfolding played
played-more ns [] cells k h = absurd (not-suc-le-zero h)
played-more ns (s ∷ ss) cells zero h = refl
played-more ns (s ∷ ss) cells (suc k) h = played-more ns ss (step_answer ns s cells) k (le_of_suc-le-suc h)

-- every step leaves as many cells
length-step : (ns : List ℕ) (s : Step) (cells : List ℤ) → length (step_answer ns s cells) ≡ length cells
length-step ns s cells = go (is_mean s)
  where
    go : (t : Bool) → length (cond t (uniform1d (border_of (step_mode s)) s.length ns s.axis cells) (answer_of (step_order s) cells (step_call ns s cells))) ≡ length cells
    go true = length_along (pos 0) _ ns s.axis cells
    go false = length_answer (step_order s) cells (step_call ns s cells)

pub length-played : (ns : List ℕ) (ss : List Step) (cells : List ℤ) → length (played ns ss cells) ≡ length cells
unfolding played
length-played ns [] cells = refl
length-played ns (s ∷ ss) cells = length-played ns ss (step_answer ns s cells) ∙ length-step ns s cells
