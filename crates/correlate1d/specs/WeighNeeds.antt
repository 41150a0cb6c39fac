-- What the workers suppose of a call that was accepted.
--   ScaleNeeds cells w out          every cell and the weight w are within their limits, and the output is as long
--   PlaceNeeds b ns a o w cells out two weights or more, of any element, applied with the origin o along axis a, whose
--                               border fills both pads
--   WeighNeeds b ns a o w cells out the same of whole weights, which and whose cells are as the sums of a lane ask
use Rattle.std.specs.Prelude.{ℕ, ◌≤◌, ◌<◌, ◌≡◌, false, List, ℤ, length}
use Rattle.numbers.specs.Limits.{longest_window}
use Rattle.numbers.specs.Lists.{any_of}
use Rattle.array_spec.specs.Conditions.{bad_shape, bad_level}
use Rattle.array_spec.specs.Grid.{cell_count, length_of}
use Rattle.border.specs.Border.{Border}
use Rattle.window_spec.specs.Origin.{bad_origin}
use Rattle.window_spec.specs.Window.{bad_reach}
use Rattle.correlate_judge_spec.specs.Judge.{bad_weight}
use Rattle.correlate_axis.specs.WeightNeeds.{WeightNeeds}

pub record ScaleNeeds (cells : List ℤ) (w : ℤ) (out : List ℤ) : Type 0 where
  pub same : length out ≡ length cells
  pub levels : any_of bad_level cells ≡ false
  pub weight : bad_weight w ≡ false

pub record PlaceNeeds {A : Type 0} (b : Border A) (ns : List ℕ) (a : ℕ) (o : ℤ) (w cells out : List A) : Type 0 where
  pub shape : bad_shape ns ≡ false
  pub axis : a < length ns
  pub count : length cells ≡ cell_count ns
  pub same : length out ≡ length cells
  pub more : 1 < length w
  pub few : length w ≤ longest_window
  pub origin : bad_origin (length w) o ≡ false
  pub reach : bad_reach b (length w) o (length_of ns a) ≡ false

pub record WeighNeeds (b : Border ℤ) (ns : List ℕ) (a : ℕ) (o : ℤ) (w cells out : List ℤ) : Type 0 where
  pub placed : PlaceNeeds b ns a o w cells out
  pub small : WeightNeeds w b cells
