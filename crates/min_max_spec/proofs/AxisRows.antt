-- The closed facts that the rows on the rule rest on: each axis's border, and that the rule speaks of the rows' lists. Each holds by computing.
-- Assumes nothing.
use mathlib.Core.Path.{◌≡◌, refl}
use mathlib.Core.Bool.{Bool}
use mathlib.Core.List.{List, [], ◌∷◌, map}
use Prim.Native.Nat.{ℕ, zero, suc, ◌<◌}
use native.Mathlib.Nat.{not-suc-le-zero, le_of_suc-le-suc}
use native.Mathlib.Omega.{arith}
use lib.IntN.{ℤ, pos, negsuc}
use lib.Signed.{le_z}
use Rattle.numbers.specs.Lists.{tabulate}
use Rattle.numbers.specs.Order.{at_least}
use Rattle.array_spec.specs.Conditions.{bad_shape, grid_count, bad_level}
use Rattle.array_spec.specs.Grid.{place_of, coordinate}
use Rattle.border.specs.Border.{constant, along, cell_for, extended_lane}
use Rattle.border.specs.declared.CellBorder.TheVariants.{Wrap}
use Rattle.window_spec.specs.Origin.{bad_origin}
use Rattle.min_max_spec.specs.Call.{Call, first_in, last_in, number_of, grid_number}
use Rattle.min_max_spec.specs.Run.{answer_of, after, run, accepted}
use Rattle.min_max_spec.specs.Order.{times_swept, border_on, Sweeps}
use Rattle.min_max_spec.specs.Rows.{rows, square, up, across, up_by, across_by, mixed, cube, on_cube, three_turned}

pub borders_are : map (border_on (across_by (along Wrap) ∷ up_by (constant (pos 6)) ∷ across ∷ [])) (0 ∷ 1 ∷ 2 ∷ []) ≡ constant (pos 6) ∷ along Wrap ∷ constant (pos 0) ∷ []
borders_are = refl

below_two : (P : ℕ → Type 0) → P 0 → P 1 → (a : ℕ) → a < 2 → P a
below_two P p q zero h = p
below_two P p q (suc zero) h = q
below_two P p q (suc (suc a)) h = absurd (not-suc-le-zero (le_of_suc-le-suc (le_of_suc-le-suc h)))

below-three : (P : ℕ → Type 0) → P 0 → P 1 → P 2 → (a : ℕ) → a < 3 → P a
below-three P p q r zero h = p
below-three P p q r (suc zero) h = q
below-three P p q r (suc (suc zero)) h = r
below-three P p q r (suc (suc (suc a))) h = absurd (not-suc-le-zero (le_of_suc-le-suc (le_of_suc-le-suc (le_of_suc-le-suc h))))

once_two : (le : ℤ → ℤ → Bool) (calls : List Call) → times_swept 0 (accepted le rows calls) ≡ 1 → times_swept 1 (accepted le rows calls) ≡ 1
    → (a : ℕ) → a < 2 → times_swept a (accepted le rows calls) ≡ 1
once_two le calls = below_two (λ a. times_swept a (accepted le rows calls) ≡ 1)

once_three : (le : ℤ → ℤ → Bool) (calls : List Call) → times_swept 0 (accepted le cube calls) ≡ 1 → times_swept 1 (accepted le cube calls) ≡ 1 → times_swept 2 (accepted le cube calls) ≡ 1
    → (a : ℕ) → a < 3 → times_swept a (accepted le cube calls) ≡ 1
once_three le calls = below-three (λ a. times_swept a (accepted le cube calls) ≡ 1)

-- ---- one border for every axis
pub t5_sweeps : Sweeps le_z square rows (up ∷ across ∷ [])
unfolding tabulate bad_shape grid_count bad_level place_of coordinate cell_for extended_lane bad_origin first_in last_in number_of grid_number answer_of after run accepted
t5_sweeps = record { grid = refl; named = (refl, (refl, tt)); once = λ a h. once_two le_z (up ∷ across ∷ []) refl refl a (omega (arith, h)) }

pub mixed_sweeps : Sweeps le_z square rows mixed
unfolding tabulate bad_shape grid_count bad_level place_of coordinate cell_for extended_lane bad_origin first_in last_in number_of grid_number answer_of after run accepted
mixed_sweeps = record { grid = refl; named = (refl, (refl, tt)); once = λ a h. once_two le_z mixed refl refl a (omega (arith, h)) }

pub cube_sweeps : Sweeps at_least (2 ∷ 2 ∷ 2 ∷ []) cube (on_cube 2 2 (negsuc 0) ∷ on_cube 1 1 (pos 99) ∷ on_cube 0 2 (pos 0) ∷ [])
unfolding tabulate bad_shape grid_count bad_level place_of coordinate cell_for extended_lane bad_origin first_in last_in number_of grid_number answer_of after run accepted
cube_sweeps = record {
  grid = refl;
  named = (refl, (refl, (refl, tt)));
  once = λ a h. once_three at_least (on_cube 2 2 (negsuc 0) ∷ on_cube 1 1 (pos 99) ∷ on_cube 0 2 (pos 0) ∷ []) refl refl refl a (omega (arith, h));
}

-- ---- a border for each axis
abbrev pub constants : List Call
constants = across_by (constant (pos 1)) ∷ up_by (constant (pos 7)) ∷ []

abbrev pub wrapped : List Call
wrapped = across_by (along Wrap) ∷ up_by (constant (pos 6)) ∷ []

pub constants-least : Sweeps le_z square rows constants
unfolding tabulate bad_shape grid_count bad_level place_of coordinate cell_for extended_lane bad_origin first_in last_in number_of grid_number answer_of after run accepted
constants-least = record { grid = refl; named = (refl, (refl, tt)); once = λ a h. once_two le_z constants refl refl a (omega (arith, h)) }

pub constants_greatest : Sweeps at_least square rows constants
unfolding tabulate bad_shape grid_count bad_level place_of coordinate cell_for extended_lane bad_origin first_in last_in number_of grid_number answer_of after run accepted
constants_greatest = record { grid = refl; named = (refl, (refl, tt)); once = λ a h. once_two at_least constants refl refl a (omega (arith, h)) }

pub wrapped-least : Sweeps le_z square rows wrapped
unfolding tabulate bad_shape grid_count bad_level place_of coordinate cell_for extended_lane bad_origin first_in last_in number_of grid_number answer_of after run accepted
wrapped-least = record { grid = refl; named = (refl, (refl, tt)); once = λ a h. once_two le_z wrapped refl refl a (omega (arith, h)) }

pub wrapped_greatest : Sweeps at_least square rows wrapped
unfolding tabulate bad_shape grid_count bad_level place_of coordinate cell_for extended_lane bad_origin first_in last_in number_of grid_number answer_of after run accepted
wrapped_greatest = record { grid = refl; named = (refl, (refl, tt)); once = λ a h. once_two at_least wrapped refl refl a (omega (arith, h)) }

pub wrapped-turned : Sweeps le_z square rows (up_by (constant (pos 6)) ∷ across_by (along Wrap) ∷ [])
unfolding tabulate bad_shape grid_count bad_level place_of coordinate cell_for extended_lane bad_origin first_in last_in number_of grid_number answer_of after run accepted
wrapped-turned = record { grid = refl; named = (refl, (refl, tt)); once = λ a h. once_two le_z (up_by (constant (pos 6)) ∷ across_by (along Wrap) ∷ []) refl refl a (omega (arith, h)) }

pub three_sweeps : Sweeps le_z (2 ∷ 2 ∷ 2 ∷ []) cube three_turned
unfolding tabulate bad_shape grid_count bad_level place_of coordinate cell_for extended_lane bad_origin first_in last_in number_of grid_number answer_of after run accepted
three_sweeps = record { grid = refl; named = (refl, (refl, (refl, tt))); once = λ a h. once_three le_z three_turned refl refl refl a (omega (arith, h)) }
