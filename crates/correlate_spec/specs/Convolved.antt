-- Convolution along an axis, from SciPy's page on `convolve1d`, over any element: the sum over j of weight j times the
-- cell at i + floor(len/2) + origin − j. The terms are added from the last weight to the first, which floats can tell.
--   meets len origin i j    the coordinate of the cell that weight j of len meets, for cell i
--   from_end len k           the number of the weight that k others stand behind: the last, the last but one, ..
--   convolved_at o class b origin w s i    the sum for cell i of the lane s, extended by the border b
--   convolved_line o class b origin w s    the sums for every cell of the lane s
--   convolved_by o class b origin w ns a cells
--                                one weight: every cell times it, nothing extended, origin not read; else
--                                convolved_line on every lane of axis a
--   convolve1d_z                  whole numbers: the plain sum
--   convolve1d_f                  floats: summed as the class of the weights says, read from the last to the first
use Rattle.std.specs.Prelude.{ℕ, ◌-◌, ◌/◌, cond, List, map, reverse, eqb, Float, ℤ, pos, ◌+ℤ◌, ◌-ℤ◌, length, get_or}
use Rattle.numbers.specs.Lists.{tabulate}
use Rattle.symmetry_spec.specs.Class.{class_f}
use Rattle.symmetry_spec.specs.declared.SymmetryState.{SymmetryState}
use Rattle.symmetry_spec.specs.declared.SymmetryState.TheVariants.{NonSymmetric}
use Rattle.lanes.specs.Lanes.{along_axis}
use Rattle.border.specs.Border.{Border, extended_lane}
use Rattle.correlate_spec.specs.Weighed.{Ops, whole_ops, float_ops, ordered_sum}

abbrev pub meets : ℕ → ℤ → ℕ → ℕ → ℤ
meets len origin i j = pos i +ℤ pos (len / 2) +ℤ origin -ℤ pos j

abbrev pub from_end : ℕ → ℕ → ℕ
from_end len k = len - 1 - k

unfoldable pub convolved_at : {A : Type 0} → Ops A → SymmetryState → Border A → ℤ → List A → List A → ℕ → A
convolved_at o class b origin w s i =
    let len = length w in
    ordered_sum o class
    (λ k. extended_lane b (length s) (λ c. get_or s c o.past) (meets len origin i (from_end len k)))
    (λ k. get_or w (from_end len k) o.past) len

abbrev pub convolved_line : {A : Type 0} → Ops A → SymmetryState → Border A → ℤ → List A → List A → List A
convolved_line o class b origin w s = tabulate (convolved_at o class b origin w s) 0 (length s)

unfoldable pub convolved_by : {A : Type 0} → Ops A → SymmetryState → Border A → ℤ → List A → List ℕ → ℕ → List A
    → List A
convolved_by o class b origin w ns a cells =
    cond (eqb (length w) 1) (map (λ x. o.product x (get_or w 0 o.past)) cells)
    (along_axis o.past (convolved_line o class b origin w) ns a cells)

abbrev pub convolve1d_z : Border ℤ → ℤ → List ℤ → List ℕ → ℕ → List ℤ → List ℤ
convolve1d_z b origin w ns a cells = convolved_by whole_ops NonSymmetric b origin w ns a cells

abbrev pub convolve1d_f : Border Float → ℤ → List Float → List ℕ → ℕ → List Float → List Float
convolve1d_f b origin w ns a cells = convolved_by float_ops (class_f (reverse w)) b origin w ns a cells
