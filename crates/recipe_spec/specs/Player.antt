-- The player of a recipe: each step is one of the existing calls, on the levels as they stand.
--   is_mean s                 whether a step is a uniform one: uniform_filter1d
--   step_mode s               the border that a step names
--   step_call ns s held       a minimum or maximum step as a call on a grid of shape ns
--   step_order s              the test of its order: ≤ for the minimum, ≥ for the maximum
--   step_judged ns s cells    what the step's call refuses on these levels, into an output of as many cells
--   step_answer ns s cells    what the call fills
--   played ns ss cells       the levels after the steps, one after the other
--   steps_judged ns ss cells  what the steps' calls refuse, each on the levels that the steps before it leave
--   recipe_steps f            the steps that the reader hands over, as many as it counts
--   play_judged f ns cells out second    what the player refuses: the file, then the grid and the lent ones, then the
--                                       steps
use Rattle.std.specs.Prelude.{ℕ, Bool, cond, List, [], ◌∷◌, ◌++◌, eqb, ℤ, length, take}
use Rattle.std.specs.Int.Signed.{le_z}
use Rattle.numbers.specs.Order.{at_least}
use Rattle.numbers.specs.Refusal.{Judged}
use Rattle.array_spec.specs.Conditions.{grid_judged}
use Rattle.border.specs.declared.BorderMode.{BorderMode}
use Rattle.border.specs.Modes.{border_of}
use Rattle.min_max_spec.specs.Call.{Call, call_judged}
use Rattle.min_max_spec.specs.Run.{answer_of}
use Rattle.min_max_judge.specs.Judge.{call_of}
use Rattle.uniform_spec.specs.Uniform.{uniform1d}
use Rattle.uniform_spec.specs.Judge.{uniform1d_judged}
use Rattle.codes.specs.Codes.{mode_of}
use Rattle.recipe_spec.specs.declared.Step.{Step}
use Rattle.recipe_spec.specs.Recipes.{file_judged, read_of}

abbrev pub is_mean : Step → Bool
is_mean s = eqb s.kind 2

abbrev pub step_mode : Step → BorderMode
step_mode s = mode_of s.border s.constant

abbrev pub step_call : List ℕ → Step → List ℤ → Call
step_call ns s held = call_of ns s.length s.axis (step_mode s) s.origin held

abbrev pub step_order : Step → ℤ → ℤ → Bool
step_order s = cond (eqb s.kind 0) le_z at_least

abbrev pub step_judged : List ℕ → Step → List ℤ → Judged
step_judged ns s cells =
    cond (is_mean s) (uniform1d_judged (border_of (step_mode s)) s.length ns s.axis cells (length cells))
    (call_judged cells (step_call ns s cells))

abbrev pub step_answer : List ℕ → Step → List ℤ → List ℤ
step_answer ns s cells =
    cond (is_mean s) (uniform1d (border_of (step_mode s)) s.length ns s.axis cells)
    (answer_of (step_order s) cells (step_call ns s cells))

unfoldable pub played : List ℕ → List Step → List ℤ → List ℤ
played ns [] cells = cells
played ns (s ∷ ss) cells = played ns ss (step_answer ns s cells)

unfoldable pub steps_judged : List ℕ → List Step → List ℤ → Judged
steps_judged ns [] cells = []
steps_judged ns (s ∷ ss) cells = step_judged ns s cells ++ steps_judged ns ss (step_answer ns s cells)

abbrev pub recipe_steps : List ℕ → List Step
recipe_steps f = take (read_of f).count (read_of f).steps

abbrev pub play_judged : List ℕ → List ℕ → List ℤ → ℕ → ℕ → Judged
play_judged f ns cells out second =
    file_judged f ++ grid_judged ns cells (out ∷ second ∷ []) ++ steps_judged ns (recipe_steps f) cells
