-- All steps can be judged before any is played: what a step's call refuses does not depend on the levels, once the grid
-- is accepted.
--   window_of_step ns s     what a step's window refuses on a grid of shape ns: conditions 5, 7, 8, 9 and 11
--   windows_judged ns ss   those of the steps, one after the other
--   JudgedBefore          of every list of steps on every accepted grid: the number of the windows is the number that
--                         the first refused call gets in its place, and where they refuse nothing each call is accepted
--                         in its place
use Rattle.std.specs.Prelude.{ℕ, ◌<◌, ◌≡◌, cond, List, [], ◌∷◌, ◌++◌, ℤ, length, get_or, take}
use Rattle.numbers.specs.Refusal.{Judged, refusal_of}
use Rattle.border.specs.Modes.{border_of}
use Rattle.min_max_spec.specs.Call.{window_judged, grid_number}
use Rattle.uniform_spec.specs.Judge.{uniform_along_judged}
use Rattle.recipe_spec.specs.declared.Step.{Step}
use Rattle.recipe_spec.specs.Recipes.{no_step}
use Rattle.recipe_spec.specs.Player.{is_mean, step_mode, step_call, step_judged, played, steps_judged}

abbrev pub window_of_step : List ℕ → Step → Judged
window_of_step ns s =
    cond (is_mean s) (uniform_along_judged (border_of (step_mode s)) s.length ns s.axis)
    (window_judged (step_call ns s []))

unfoldable pub windows_judged : List ℕ → List Step → Judged
windows_judged ns [] = []
windows_judged ns (s ∷ ss) = window_of_step ns s ++ windows_judged ns ss

pub record JudgedBefore : Type 0 where
  pub same_number : (ns : List ℕ) (ss : List Step) (cells : List ℤ) → grid_number ns cells ≡ 0
      → refusal_of (steps_judged ns ss cells) ≡ refusal_of (windows_judged ns ss)
  pub in_place : (ns : List ℕ) (ss : List Step) (cells : List ℤ) → grid_number ns cells ≡ 0
      → refusal_of (windows_judged ns ss) ≡ 0 → (k : ℕ) → k < length ss
      → refusal_of (step_judged ns (get_or ss k no_step) (played ns (take k ss) cells)) ≡ 0
