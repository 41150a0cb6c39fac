-- An accepted call: each of its passes is accepted, and leaves a grid that the next pass accepts.
-- Assumes nothing.
use mathlib.Core.Path.{◌≡◌, ap, ◌∙◌}
use mathlib.Core.Bool.{false}
use mathlib.Core.List.{List, [], ◌∷◌}
use Prim.Native.Nat.{ℕ, ◌<◌}
use borrow.Author.Tests.{ltb-true, not-false}
use lib.Dec.{ltb}
use lib.IntN.{ℤ, pos}
use lib.ListN.{length, drop}
use Rattle.numbers.specs.Lists.{any_of}
use Rattle.numbers.specs.Ranges.{outside}
use Rattle.numbers.specs.Refusal.{refusal_of}
use Rattle.numbers.proofs.Tests.{or_false}
use Rattle.array_spec.specs.Conditions.{bad_level}
use Rattle.array_spec.specs.Grid.{cell_count, length_of}
use Rattle.array_spec.proofs.Judged.{PassedGrid, grid_passed}
use Rattle.lanes.proofs.AlongAxis.{length_along}
use Rattle.border.specs.Axes.{any_axis, bad_constants}
use Rattle.border.specs.Border.{Border}
use Rattle.border.specs.Modes.{bad_constant_by}
use Rattle.border.proofs.AnyAxis.{axis-at}
use Rattle.window_spec.specs.Window.{bad_reach}
use Rattle.uniform_spec.specs.Mean.{means}
use Rattle.uniform_spec.specs.Uniform.{padded_for, uniform1d}
use Rattle.uniform_spec.specs.Judge.{half_over, bad_grid_reach, uniform1d_judged, uniform_judged}
use Rattle.uniform_spec.proofs.Sums.{levels-kept}
use Rattle.uniform.specs.PassNeeds.{PassNeeds}

-- ---- the one-axis form
module _ {b : Border ℤ} {size : ℕ} {ns : List ℕ} {a : ℕ} {cells : List ℤ} (out : List ℤ) where
  pub along_accepted : refusal_of (uniform1d_judged b size ns a cells (length out)) ≡ 0 → PassNeeds b size ns a cells out
  along_accepted e =
      let p = grid_passed bad_level ns cells (length out ∷ []) (drop 3 (uniform1d_judged b size ns a cells (length out))) (tt, (tt, (tt, (tt, (tt, tt))))) e in
      record {
        shape = p.0.shape;
        axis = ltb-true a (length ns) (not-false (ltb a (length ns)) p.1.1.0);
        count = p.0.count;
        same = p.0.lengths.0;
        levels = p.0.levels;
        window = p.1.0;
        level = p.1.1.1.0;
        reach = p.1.1.1.1.0;
      }

-- ---- the grid form
-- what an accepted call has passed
pub record Filtered (bs : ℕ → Border ℤ) (size : ℕ) (ns : List ℕ) (cells out second : List ℤ) : Type 0 where
  pub grid : PassedGrid bad_level ns cells (length out ∷ length second ∷ [])
  pub window : outside 1 65 size ≡ false
  pub level : bad_constants bad_level bs ns ≡ false
  pub reach : any_axis (λ b. bad_grid_reach b size) bs ns ≡ false

pub filtered : {bs : ℕ → Border ℤ} {size : ℕ} {ns : List ℕ} {cells : List ℤ} (out second : List ℤ) → refusal_of (uniform_judged bs size ns cells (length out) (length second)) ≡ 0
    → Filtered bs size ns cells out second
filtered {bs} {size} {ns} {cells} out second e =
    let p = grid_passed bad_level ns cells (length out ∷ length second ∷ []) (drop 3 (uniform_judged bs size ns cells (length out) (length second))) (tt, (tt, (tt, (tt, tt)))) e in
    record { grid = p.0; window = p.1.0; level = p.1.1.0; reach = p.1.1.1.0 }

-- a grid between two passes
pub record Between (ns : List ℕ) (g : List ℤ) : Type 0 where
  pub count : length g ≡ cell_count ns
  pub range : any_of bad_level g ≡ false

module _ {bs : ℕ → Border ℤ} {size : ℕ} {ns : List ℕ} {cells out second : List ℤ} (F : Filtered bs size ns cells out second) where
  pub between_input : Between ns cells
  between_input = record { count = F.grid.count; range = F.grid.levels }

  level-at : (a : ℕ) → a < length ns → bad_constant_by bad_level (bs a) ≡ false
  level-at = axis-at (λ b n. bad_constant_by bad_level b) bs ns F.level

  -- a pass along any axis is accepted
  pub pass_accepted : {g held : List ℤ} {a : ℕ} → Between ns g → length held ≡ cell_count ns → a < length ns → PassNeeds (bs a) size ns a g held
  pass_accepted {a = a} B e h = record {
    shape = F.grid.shape;
    axis = h;
    count = B.count;
    same = e;
    levels = B.range;
    window = F.window;
    level = level-at a h;
    reach = (or_false (bad_reach (bs a) size (pos 0) (length_of ns a)) (half_over size (length_of ns a)) (axis-at (λ b. bad_grid_reach b size) bs ns F.reach a h)).0;
  }

  pub between_pass : {g new : List ℤ} (a : ℕ) → a < length ns → Between ns g → new ≡ uniform1d (bs a) size ns a g → Between ns new
  between_pass {g} a h B e = record {
    count = ap length e ∙ length_along (pos 0) (λ s. means (padded_for (bs a) size s) size (length s)) ns a g ∙ B.count;
    range = ap (any_of bad_level) e ∙ levels-kept (bs a) size ns g B.range (level-at a h) a;
  }
