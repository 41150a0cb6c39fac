-- Correlation along an axis, from SciPy's page on `correlate1d`, over any element.
--   correlated_line o class b left right w s    for each cell of the lane s the weighted sum of its window of the padded
--                                              line
--   correlated_by o class b origin w ns a cells
--                                one weight: every cell times it, nothing padded, origin not read; else
--                                correlated_line on every lane of axis a
--   correlate1d_z                 whole numbers: the plain sum
--   correlate1d_f                 floats: summed as the class of the weights says
use Rattle.std.specs.Prelude.{ℕ, cond, List, map, eqb, Float, ℤ, length, get_or}
use Rattle.symmetry_spec.specs.Class.{class_f}
use Rattle.symmetry_spec.specs.declared.SymmetryState.{SymmetryState}
use Rattle.symmetry_spec.specs.declared.SymmetryState.TheVariants.{NonSymmetric}
use Rattle.lanes.specs.Lanes.{along_axis}
use Rattle.border.specs.Border.{Border}
use Rattle.pad_line.specs.Line.{padded_line}
use Rattle.correlate_spec.specs.Weighed.{Ops, whole_ops, float_ops, weighed_line}
use Rattle.window_spec.specs.Window.{left_pad, right_pad}

abbrev pub correlated_line : {A : Type 0} → Ops A → SymmetryState → Border A → ℕ → ℕ → List A → List A → List A
correlated_line o class b left right w s = weighed_line o class w (padded_line o.past b left right s) (length s)

unfoldable pub correlated_by : {A : Type 0} → Ops A → SymmetryState → Border A → ℤ → List A → List ℕ → ℕ → List A
    → List A
correlated_by o class b origin w ns a cells =
    cond (eqb (length w) 1) (map (λ x. o.product x (get_or w 0 o.past)) cells)
    (along_axis o.past (correlated_line o class b (left_pad (length w) origin) (right_pad (length w) origin) w) ns a
    cells)

abbrev pub correlate1d_z : Border ℤ → ℤ → List ℤ → List ℕ → ℕ → List ℤ → List ℤ
correlate1d_z b origin w ns a cells = correlated_by whole_ops NonSymmetric b origin w ns a cells

abbrev pub correlate1d_f : Border Float → ℤ → List Float → List ℕ → ℕ → List Float → List Float
correlate1d_f b origin w ns a cells = correlated_by float_ops (class_f w) b origin w ns a cells
