-- An accepted call on whole levels: its weights and levels are small, as the workers suppose.
-- Assumes nothing.
use mathlib.Core.Path.{◌≡◌, refl, ap, ◌∙◌}
use mathlib.Core.Bool.{Bool, false}
use mathlib.Core.List.{List, map}
use Prim.Native.Nat.{ℕ, ◌^◌, ◌≤◌}
use native.Mathlib.Omega.{arith}
use lib.IntN.{ℤ, pos, ◌*ℤ◌}
use mir.Syntax.{w64}
use mir.ValLaws.{to_z-of_z}
use lib.ListN.{length, get_or}
use Rattle.numbers.specs.Lists.{any_of}
use Rattle.numbers.proofs.Any.{any_none, none_any, every_at, every_imp}
use Rattle.numbers.proofs.Size.{Size, Sized, size_inside, size_le, inside_sized, fits_size}
use Rattle.array_spec.specs.Conditions.{bad_level}
use Rattle.array_spec.proofs.Judged.{lent_same, levels_sized}
use Rattle.border.specs.Border.{Border, constant, along}
use Rattle.border.specs.Modes.{bad_constant_by}
use Rattle.correlate_spec.proofs.Computed.{read}
use Rattle.correlate_judge_spec.specs.Judge.{bad_weight}
use Rattle.window_spec.specs.Window.{applied_origin}
use Rattle.correlate1d.proofs.Passed.{Passed, placed_accepted}
use Rattle.correlate_axis.specs.WeightNeeds.{too_large}
use Rattle.correlate1d.specs.WeighNeeds.{ScaleNeeds, WeighNeeds}

-- ---- a level within the limits of condition 3 is small, and one of no greater size than 2^38
small_level : (z : ℤ) → bad_level z ≡ false → too_large z ≡ false
unfolding bad_level
small_level z e = inside_sized (2 ^ 38) z (size_le (size_inside 2147483647 z e) (omega arith))

pub small_constant : (b : Border ℤ) → bad_constant_by bad_level b ≡ false → bad_constant_by too_large b ≡ false
small_constant (constant c) e = small_level c e
small_constant (along m) e = refl

pub small_sized : {p : ℕ} (cells : List ℤ) → Sized p cells → p ≤ 2 ^ 38 → any_of too_large cells ≡ false
small_sized {p} cells h l = none_any too_large cells (every_imp (λ x. Size x p) _ cells (λ x s. inside_sized (2 ^ 38) x (size_le s l)) h)

module _ {convolution : Bool} {b : Border ℤ} {o : ℤ} {w : List ℤ} {ns : List ℕ} {a : ℕ} {cells : List ℤ} (out : List ℤ) (P : Passed bad_level bad_weight convolution b o w ns a cells (length out)) where
  pub scales_accepted : ScaleNeeds cells (get_or w 0 (pos 0)) out
  scales_accepted = record { same = lent_same P.grid; levels = P.grid.levels; weight = every_at (λ x. bad_weight x ≡ false) w (pos 0) (any_none bad_weight w P.weights) 0 P.some }

  -- the only weight, as it is read
  weight-read : read (get_or w 0 (pos 0)) ≡ get_or w 0 (pos 0)
  unfolding bad_weight
  weight-read = to_z-of_z w64 (get_or w 0 (pos 0)) (fits_size (size_inside 65535 (get_or w 0 (pos 0)) scales_accepted.weight) (omega arith))

  pub scaled_cells : {left : List ℤ} → left ≡ map (λ x. x *ℤ read (get_or w 0 (pos 0))) cells → left ≡ map (λ x. x *ℤ get_or w 0 (pos 0)) cells
  scaled_cells e = e ∙ ap (λ (y : ℤ). map (λ x. x *ℤ y) cells) weight-read

  module _ (more : length w ≡ 1 → ⊥) where
    pub weighs_accepted : WeighNeeds b ns a (applied_origin convolution (length w) o) w cells out
    weighs_accepted = record {
      placed = placed_accepted out P more;
      small = record {
        weights = P.weights;
        level = small_constant b P.level;
        levels = small_sized cells (levels_sized cells P.grid.levels) (omega arith);
        narrow = λ h. (P.level, P.grid.levels);
      };
    }
