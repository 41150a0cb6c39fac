-- A border for each axis: bs a is that of axis a. The calls take three borders; those past the axis count are not read.
--   mode_on modes a         the mode of axis a, of three; the third past them
--   borders_of modes a      the border that it names
--   any_axis bad bs ns      whether bad holds of the border and the length of some axis
--   bad_constants bad bs ns    9 of a grid call: a constant of some axis that 3, the test bad of one level, would refuse
--   OneBorder A            document 01's words on the extended grid, which has one border for every axis
use Rattle.std.specs.Prelude.{ℕ, suc, ◌≡◌, Bool, false, ◌||◌, cond, List, [], ◌∷◌, ltb, ℤ, pos, nat_abs, get_or}
use Rattle.array_spec.specs.Grid.{length_of, level_at}
use Rattle.border.specs.Border.{Border, constant, along, cell_for, all_inside, extended_grid}
use Rattle.border.specs.Modes.{border_of, bad_constant_by}
use Rattle.border.specs.declared.BorderMode.{BorderMode}
use Rattle.border.specs.declared.BorderMode.TheVariants as Whole
use Rattle.border.specs.declared.CellBorder.{CellBorder}

abbrev pub mode_on : List BorderMode → ℕ → BorderMode
mode_on modes a = get_or modes (cond (ltb a 2) a 2) (Whole.Constant (pos 0))

abbrev pub borders_of : List BorderMode → ℕ → Border ℤ
borders_of modes a = border_of (mode_on modes a)

abbrev pub any_axis : {A : Type 0} → (Border A → ℕ → Bool) → (ℕ → Border A) → List ℕ → Bool
any_axis bad bs [] = false
any_axis bad bs (n ∷ ns) = bad (bs 0) n || any_axis bad (λ a. bs (suc a)) ns

abbrev pub bad_constants : {A : Type 0} → (A → Bool) → (ℕ → Border A) → List ℕ → Bool
bad_constants bad bs ns = any_axis (λ b n. bad_constant_by bad b) bs ns

-- Under constant a cell is the constant as soon as one coordinate is outside; under other borders each coordinate is
-- mapped by itself.
pub record OneBorder (A : Type 0) : Type 0 where
  pub under_constant : (d c : A) (ns : List ℕ) (cells : List A) (q : ℕ → ℤ)
      → extended_grid d (constant c) ns cells q ≡ cond (all_inside ns q) (level_at d ns cells (λ a. nat_abs (q a))) c
  pub under_cells : (d : A) (m : CellBorder) (ns : List ℕ) (cells : List A) (q : ℕ → ℤ)
      → extended_grid d (along m) ns cells q ≡ level_at d ns cells (λ a. cell_for m (length_of ns a) (q a))
