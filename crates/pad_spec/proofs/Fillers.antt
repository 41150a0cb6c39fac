-- Padding modes and what they fill a lane's rims with: each tells the other.
-- Assumes nothing.
use mathlib.Core.Path.{◌≡◌, refl, sym, ap, ◌∙◌}
use mathlib.Core.List.{List}
use lib.IntN.{ℤ}
use Rattle.border.specs.Border.{constant, along}
use Rattle.border.specs.declared.CellBorder.{CellBorder}
use Rattle.border.specs.declared.PadMode.{PadMode}
use Rattle.border.specs.declared.PadMode.TheVariants.{Constant, Edge, Maximum, Mean, Median, Minimum, Reflect, Symmetric, Wrap}
use Rattle.pad_spec.specs.Fill.{filler_of, level_of, border_by, rim_of, mode_along, mode_taking}
use Rattle.pad_spec.specs.declared.rim.Filler.{Filler}
use Rattle.pad_spec.specs.declared.rim.Statistic.{Statistic}

-- ---- from the filler to the mode and back
pub filler_along : (m : CellBorder) → filler_of (mode_along m) ≡ Filler.Cells m
filler_along CellBorder.Nearest = refl
filler_along CellBorder.Mirror = refl
filler_along CellBorder.Reflect = refl
filler_along CellBorder.Wrap = refl

pub filler_taking : (which : Statistic) → filler_of (mode_taking which) ≡ Filler.Statistic which
filler_taking Statistic.Maximum = refl
filler_taking Statistic.Mean = refl
filler_taking Statistic.Median = refl
filler_taking Statistic.Minimum = refl

pub rim_along : (m : CellBorder) (s : List ℤ) → rim_of (mode_along m) s ≡ along m
rim_along m s = ap (λ f. border_by f s) (filler_along m)

pub rim_taking : (which : Statistic) (s : List ℤ) → rim_of (mode_taking which) s ≡ constant (level_of which s)
rim_taking which s = ap (λ f. border_by f s) (filler_taking which)

-- ---- from the mode to the filler and back
abbrev mode_of : Filler → PadMode
mode_of (Filler.Level c) = Constant c
mode_of (Filler.Cells m) = mode_along m
mode_of (Filler.Statistic which) = mode_taking which

mode_filler : (mode : PadMode) → mode_of (filler_of mode) ≡ mode
mode_filler (Constant c) = refl
mode_filler Edge = refl
mode_filler Maximum = refl
mode_filler Mean = refl
mode_filler Median = refl
mode_filler Minimum = refl
mode_filler Reflect = refl
mode_filler Symmetric = refl
mode_filler Wrap = refl

module _ (mode : PadMode) where
  pub mode_level : {c : ℤ} → filler_of mode ≡ Filler.Level c → mode ≡ Constant c
  mode_level e = sym (mode_filler mode) ∙ ap mode_of e

  pub mode_cells : {m : CellBorder} → filler_of mode ≡ Filler.Cells m → mode ≡ mode_along m
  mode_cells e = sym (mode_filler mode) ∙ ap mode_of e

  pub mode_statistic : {which : Statistic} → filler_of mode ≡ Filler.Statistic which → mode ≡ mode_taking which
  mode_statistic e = sym (mode_filler mode) ∙ ap mode_of e
