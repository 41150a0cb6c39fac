-- An accepted grid call: each of its passes is an accepted one-axis call, and the passes, one after the other, are its answer.
-- Assumes nothing.
use mathlib.Core.Path.{◌≡◌, refl, sym, ap, ◌∙◌}
use mathlib.Core.Bool.{Bool, false}
use mathlib.Core.List.{List, [], ◌∷◌}
use Prim.Native.Nat.{ℕ, ◌<◌}
use borrow.Author.Tests.{eq-eqb, lt-ltb}
use lib.IntN.{ℤ}
use lib.ListN.{length}
use Rattle.numbers.specs.Lists.{any_of}
use Rattle.numbers.specs.Ranges.{outside}
use Rattle.numbers.specs.Refusal.{refusal_of}
use Rattle.array_spec.specs.Conditions.{bad_level, grid_count}
use Rattle.array_spec.specs.Grid.{cell_count, length_of}
use Rattle.array_spec.proofs.Judged.{PassedGrid, grid_passed}
use Rattle.array_spec.proofs.Shapes.{count_accepted}
use Rattle.border.specs.Axes.{mode_on, borders_of, any_axis, bad_constants}
use Rattle.border.specs.Modes.{bad_constant_by}
use Rattle.border.specs.declared.BorderMode.{BorderMode}
use Rattle.border.proofs.AnyAxis.{axis-at}
use Rattle.lanes.proofs.Passes as passes
use Rattle.min_max_spec.specs.Call.{first_in, number_of}
use Rattle.min_max_spec.specs.Run.{answer_of}
use Rattle.min_max_spec.proofs.Passed.{length_answer, answer_in}
use Rattle.min_max_judge.specs.Judge.{call_of, grid_call_of, filter_axes_judged, filter_judged}
use Rattle.window_spec.specs.Window.{bad_window_origin, bad_reach}
use Rattle.min_max_spec.specs.Filters.{filter_answer}

module _ (cells : List ℤ) (ns : List ℕ) (size : ℕ) (ms : List BorderMode) (o : ℤ) (out : List ℤ) (second : ℕ) where
  -- what an accepted grid call has passed
  pub record Filtered : Type 0 where
    pub grid : PassedGrid bad_level ns cells (length out ∷ second ∷ [])
    pub sizes : outside 1 65 size ≡ false
    pub origin : bad_window_origin size o ≡ false
    pub levels : bad_constants bad_level (borders_of ms) ns ≡ false
    pub reach : any_axis (λ b. bad_reach b size o) (borders_of ms) ns ≡ false

  pub filtered : refusal_of (filter_judged cells (grid_call_of ns size ms o out) second) ≡ 0 → Filtered
  filtered e =
      let p = grid_passed bad_level ns cells (length out ∷ second ∷ []) (filter_axes_judged (grid_call_of ns size ms o out)) (tt, (tt, (tt, (tt, tt)))) e in
      record { grid = p.0; sizes = p.1.0; origin = p.1.1.0; levels = p.1.1.1.0; reach = p.1.1.1.1.0 }

  module _ (F : Filtered) where
    -- a grid between two passes
    pub record Between (g : List ℤ) : Type 0 where
      pub count : length g ≡ cell_count ns
      pub range : any_of bad_level g ≡ false

    pub between_input : Between cells
    between_input = record { count = F.grid.count; range = F.grid.levels }

    level-at : (a : ℕ) → a < length ns → bad_constant_by bad_level (borders_of ms a) ≡ false
    level-at = axis-at (λ b n. bad_constant_by bad_level b) (borders_of ms) ns F.levels

    reach-at : (a : ℕ) → a < length ns → bad_reach (borders_of ms a) size o (length_of ns a) ≡ false
    reach-at = axis-at (λ b. bad_reach b size o) (borders_of ms) ns F.reach

    -- a pass along any axis of the grid is accepted
    pub pass_accepted : {g : List ℤ} (held : List ℤ) (a : ℕ) → Between g → length held ≡ cell_count ns → a < length ns → number_of g (call_of ns size a (mode_on ms a) o held) ≡ 0
    unfolding number_of
    pass_accepted {g} held a B e h =
        let n = sym (count_accepted ns F.grid.shape) in
        simp (
          F.grid.shape,
          eq-eqb (length g) (grid_count ns) (B.count ∙ n),
          eq-eqb (length held) (grid_count ns) (e ∙ n),
          B.range,
          F.sizes,
          F.origin,
          lt-ltb a (length ns) h,
          level-at a h,
          reach-at a h,
        ) refl

    pub between_pass : (le : ℤ → ℤ → Bool) {g : List ℤ} (held : List ℤ) (a : ℕ) → a < length ns → Between g → {new : List ℤ} → new ≡ answer_of le g (call_of ns size a (mode_on ms a) o held) → Between new
    between_pass le {g} held a h B e = record {
      count = ap length e ∙ length_answer le g (call_of ns size a (mode_on ms a) o held) ∙ B.count;
      range = ap (any_of bad_level) e ∙ answer_in le g (call_of ns size a (mode_on ms a) o held) (level-at a h) B.range;
    }

-- the grid that a pass is lent is not read
pub answer_held : (le : ℤ → ℤ → Bool) (g : List ℤ) (ns : List ℕ) (size a : ℕ) (m : BorderMode) (o : ℤ) (held held' : List ℤ) → answer_of le g (call_of ns size a m o held)
    ≡ answer_of le g (call_of ns size a m o held')
unfolding answer_of first_in
answer_held le g ns size a m o held held' = refl

-- ---- one, two and three passes; h, k and l are the grids that they are lent
module _ (le : ℤ → ℤ → Bool) (cells : List ℤ) (ns : List ℕ) (size : ℕ) (ms : List BorderMode) (o : ℤ) (out : List ℤ) where
  step : ℕ → List ℤ → List ℤ
  step a g = answer_of le g (call_of ns size a (mode_on ms a) o out)

  made : {x : List ℤ} (g : List ℤ) (a : ℕ) (h : List ℤ) → x ≡ answer_of le g (call_of ns size a (mode_on ms a) o h) → x ≡ step a g
  unfolding step
  made g a h e = e ∙ answer_held le g ns size a (mode_on ms a) o h out

  pub one_pass : {x : List ℤ} (h : List ℤ) → length ns ≡ 1 → x ≡ answer_of le cells (call_of ns size 0 (mode_on ms 0) o h) → x ≡ filter_answer le (grid_call_of ns size ms o out) cells
  unfolding filter_answer step
  one_pass h n e = passes.one_pass step cells n (made cells 0 h e)

  pub two_passes : {x y : List ℤ} (h k : List ℤ) → length ns ≡ 2 → x ≡ answer_of le cells (call_of ns size 0 (mode_on ms 0) o h) → y ≡ answer_of le x (call_of ns size 1 (mode_on ms 1) o k) → y
      ≡ filter_answer le (grid_call_of ns size ms o out) cells
  unfolding filter_answer step
  two_passes {x} h k n e f = passes.two_passes step cells n (made cells 0 h e) (made x 1 k f)

  pub three_passes : {x y z : List ℤ} (h k l : List ℤ) → length ns ≡ 3 → x ≡ answer_of le cells (call_of ns size 0 (mode_on ms 0) o h) → y ≡ answer_of le x (call_of ns size 1 (mode_on ms 1) o k) → z
      ≡ answer_of le y (call_of ns size 2 (mode_on ms 2) o l)
      → z ≡ filter_answer le (grid_call_of ns size ms o out) cells
  unfolding filter_answer step
  three_passes {x} {y} h k l n e f g = passes.three_passes step cells n (made cells 0 h e) (made x 1 k f) (made y 2 l g)
