-- What the sums of each lane suppose of weights and levels.
--   too_large z                  a level that a sum of a pass might leave 64 bits with: outside −2^38..2^38
--   WeightNeeds w b cells          whole weights within condition 6, and the cells and the border's constant within
--                               −2^38..2^38, so that no sum leaves 64 bits; of five weights or more, they are within
--                               condition 3
use Rattle.std.specs.Prelude.{◌≤◌, ◌≡◌, Bool, false, List, ℤ, length}
use Rattle.numbers.specs.Limits.{largest_between}
use Rattle.numbers.specs.Lists.{any_of}
use Rattle.numbers.specs.Ranges.{over}
use Rattle.array_spec.specs.Conditions.{bad_level}
use Rattle.border.specs.Border.{Border}
use Rattle.border.specs.Modes.{bad_constant_by}
use Rattle.correlate_judge_spec.specs.Judge.{bad_weight}

abbrev pub too_large : ℤ → Bool
too_large z = over largest_between z

pub record WeightNeeds (w : List ℤ) (b : Border ℤ) (cells : List ℤ) : Type 0 where
  pub weights : any_of bad_weight w ≡ false
  pub level : bad_constant_by too_large b ≡ false
  pub levels : any_of too_large cells ≡ false
  pub narrow : 5 ≤ length w → (bad_constant_by bad_level b ≡ false) × (any_of bad_level cells ≡ false)
