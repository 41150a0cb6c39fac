-- The means of the windows as a line filter, and what the workers suppose of a call that was accepted.
--   means_by size p n         the means of the windows of size cells of the padded line p, cells 0 to n − 1
--   MeanAxisNeeds size b cells   the window has at most 65 cells, and the cells and the border's constant are levels
--                                that condition 3 accepts
use Rattle.std.specs.Prelude.{ℕ, ◌≤◌, ◌≡◌, false, List, ℤ}
use Rattle.numbers.specs.Limits.{longest_window}
use Rattle.numbers.specs.Lists.{any_of}
use Rattle.array_spec.specs.Conditions.{bad_level}
use Rattle.border.specs.Border.{Border}
use Rattle.border.specs.Modes.{bad_constant_by}
use Rattle.uniform_spec.specs.Mean.{means}

abbrev pub means_by : ℕ → List ℤ → ℕ → List ℤ
means_by size p n = means p size n

pub record MeanAxisNeeds (size : ℕ) (b : Border ℤ) (cells : List ℤ) : Type 0 where
  pub few : size ≤ longest_window
  pub level : bad_constant_by bad_level b ≡ false
  pub levels : any_of bad_level cells ≡ false
