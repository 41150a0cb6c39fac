-- The rows of a grid: a row's cells stand side by side in the grid and in the middle of a padded one.
-- Assumes nothing.
use mathlib.Core.Path.{◌≡◌, refl, sym, ap, ◌∙◌}
use mathlib.Core.Bool.{Bool, true, false}
use mathlib.Core.List.{List, [], ◌∷◌}
use Prim.Native.Nat.{ℕ, zero, suc, ◌+◌, ◌-◌, ◌*◌, ◌/◌, ◌%◌, ◌≤◌, ◌<◌, zero-le, suc-le-suc}
use native.Mathlib.Nat.{not-suc-le-zero, div-one}
use native.Mathlib.Omega.{arith}
use borrow.Author.Tests.{eqb-true, eqb-false}
use lib.Arith.{digits_mod}
use lib.Dec.{eqb}
use lib.ListN.{length, get_or}
use Rattle.array_spec.specs.Grid.{cell_count, length_of, place_of, coordinate, moved}
use Rattle.array_spec.proofs.Places.{Within, length_pos, coordinate_within, place_coordinate}
use Rattle.array_spec.proofs.Strides.{coordinate_digit}
use Rattle.array_spec.proofs.Shapes.{stride_past}
use Rattle.pad_spec.proofs.Levels.{moved_at, moved-off}
use Rattle.pad_spec.specs.Frame.{Framed, target_of, row_length}
use Rattle.pad_spec.proofs.Room.{grid_accepted}
use Rattle.pad_middle.proofs.Targets.{framed_at, target_place}

-- a step on the last axis is a step in the grid
place_step : (ns : List ℕ) (p q : ℕ → ℕ) (i : ℕ) → 1 ≤ length ns → ((a : ℕ) → suc a < length ns → p a ≡ q a) → ((a : ℕ) → suc a ≡ length ns → p a ≡ q a + i) → place_of ns p ≡ place_of ns q + i
unfolding place_of
place_step [] p q i s h e = absurd (not-suc-le-zero s)
place_step (n ∷ []) p q i s h e = omega (arith, e 0 refl)
place_step (n ∷ m ∷ ns) p q i s h e =
    (λ j. h zero (suc-le-suc (suc-le-suc zero-le)) j * cell_count (m ∷ ns) + place_step (m ∷ ns) (λ a. p (suc a)) (λ a. q (suc a)) i (suc-le-suc zero-le) (λ a l. h (suc a) (suc-le-suc l))
    (λ a l. e (suc a) (ap suc l)) j)
    ∙ group (q 0 * cell_count (m ∷ ns)) (place_of (m ∷ ns) (λ a. q (suc a))) i
  where
    group : (x y i : ℕ) → x + (y + i) ≡ x + y + i
    group x y i = omega arith

-- ---- cell i of a row: it stands i places after the row's start, in the grid and in the middle of the padded one
module _ (ns lefts ps : List ℕ) (F : Framed ns lefts ps) (row i : ℕ) (h : i < row_length ns) (b : row * row_length ns + i < cell_count ns) where
  -- its coordinates, and those of the row's first cell
  abbrev cell : ℕ → ℕ
  cell = coordinate ns (row * row_length ns + i)

  abbrev first : ℕ → ℕ
  first = moved (length ns - 1) 0 cell

  last_in_lem : length ns - 1 < length ns
  last_in_lem = omega (arith, (grid_accepted F).some)

  cell-last : cell (length ns - 1) ≡ i
  cell-last =
      coordinate_digit ns (length ns - 1) (row * row_length ns + i) (grid_accepted F).full last_in_lem b
      ∙ ap (λ s. (row * row_length ns + i) / s % row_length ns) (stride_past ns (length ns - 1) (omega arith))
      ∙ ap (λ x. x % row_length ns) (div-one (row * row_length ns + i))
      ∙ digits_mod row h

  first-last : (a : ℕ) → suc a ≡ length ns → first a ≡ 0
  first-last a e = let z : a ≡ length ns - 1 = omega arith in ap first z ∙ moved_at (length ns - 1) 0 cell

  first_off : (a : ℕ) → suc a < length ns → cell a ≡ first a
  first_off a l = sym (moved-off (length ns - 1) a 0 cell (λ z. omega arith))

  cell_at : (a : ℕ) → suc a ≡ length ns → cell a ≡ i
  cell_at a e = let z : a ≡ length ns - 1 = omega arith in ap cell z ∙ cell-last

  first_within : Within ns first
  first_within a l = go (eqb a (length ns - 1)) refl
    where
      own : Within ns cell
      own = coordinate_within ns (row * row_length ns + i) (grid_accepted F).full b

      go : (t : Bool) → eqb a (length ns - 1) ≡ t → first a < length_of ns a
      go true q = omega (arith, first-last a (omega (arith, eqb-true a (length ns - 1) q)), length_pos ns a (grid_accepted F).full)
      go false q = omega (arith, moved-off (length ns - 1) a 0 cell (eqb-false a (length ns - 1) q), own a l)

  first_place : place_of ns first ≡ row * row_length ns
  first_place = same (place_of ns first) (row * row_length ns) (sym step ∙ place_coordinate ns (row * row_length ns + i) (grid_accepted F).full b)
    where
      step : place_of ns cell ≡ place_of ns first + i
      step = place_step ns cell first i (grid_accepted F).some first_off (λ a e. omega (arith, cell_at a e, first-last a e))

      same : (x y : ℕ) → x + i ≡ y + i → x ≡ y
      same x y e = omega arith

  pub target_row : target_of ns lefts ps (row * row_length ns + i) ≡ target_of ns lefts ps (row * row_length ns) + i
  target_row =
      place_step ps (framed_at ns lefts ps F cell) (framed_at ns lefts ps F first) i (omega (arith, F.axes, (grid_accepted F).some))
      (λ a l. ap (λ x. get_or lefts a 0 + x) (first_off a (omega (arith, F.axes)))) (λ a e. on_last a (omega (arith, F.axes)))
      ∙ ap (λ x. x + i) (sym (target_place ns lefts ps F first first_within) ∙ ap (target_of ns lefts ps) first_place)
    where
      on_last : (a : ℕ) → suc a ≡ length ns → get_or lefts a 0 + cell a ≡ get_or lefts a 0 + first a + i
      on_last a e = omega (arith, cell_at a e, first-last a e)
