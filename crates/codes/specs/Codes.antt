-- What a code stands for, and the refusal of a code that stands for nothing: 100, above the numbers of the filters
-- and judged last.
--   mode_of code c          the border of a code: 0 Constant c, 1 Mirror, 2 Nearest, 3 Reflect, 4 Wrap; Nearest, which
--                          is never refused, for any other
--   mode_of_f64 code c       the same of floats
--   padding_of code c       the padding mode of a code: 0 Constant c, 1 Edge, 2 Maximum, 3 Mean, 4 Median, 5 Minimum,
--                          6 Reflect, 7 Symmetric, 8 Wrap; Edge for any other
--   kernel_of code          the kernel of a code: 0 Star, 1 Ball, 2 Full; Full for any other
--   unknown_border code     whether a code names no border
--   unknown_pad code        whether a code names no padding mode
--   unknown_kernel code     whether a code names no kernel
--   coded js unknown       what a call refuses, and last an unknown code
--   code_of class           the code of a symmetry class: 0 NonSymmetric, 1 Symmetric, 2 AntiSymmetric
use Rattle.std.specs.Prelude.{ℕ, Bool, cond, [], ◌∷◌, ◌++◌, ltb, eqb, Float, ℤ}
use Rattle.numbers.specs.Refusal.{Judged}
use Rattle.border.specs.declared.BorderMode.{BorderMode}
use Rattle.border.specs.declared.BorderMode.TheVariants as Whole
use Rattle.border.specs.declared.BorderModeF64.{BorderModeF64}
use Rattle.border.specs.declared.BorderModeF64.TheVariants as F64
use Rattle.border.specs.declared.PadMode.{PadMode}
use Rattle.border.specs.declared.PadMode.TheVariants as Pad
use Rattle.kernel3d.specs.declared.Kernel3d.{Kernel3d}
use Rattle.kernel3d.specs.declared.Kernel3d.TheVariants as Kernel
use Rattle.symmetry_spec.specs.declared.SymmetryState.{SymmetryState}
use Rattle.symmetry_spec.specs.declared.SymmetryState.TheVariants.{NonSymmetric, Symmetric, AntiSymmetric}

unfoldable pub mode_of : ℕ → ℤ → BorderMode
mode_of code c =
    cond (eqb code 0) (Whole.Constant c) (cond (eqb code 1) Whole.Mirror (cond (eqb code 3) Whole.Reflect
    (cond (eqb code 4) Whole.Wrap Whole.Nearest)))

unfoldable pub mode_of_f64 : ℕ → Float → BorderModeF64
mode_of_f64 code c =
    cond (eqb code 0) (F64.Constant c) (cond (eqb code 1) F64.Mirror (cond (eqb code 3) F64.Reflect
    (cond (eqb code 4) F64.Wrap F64.Nearest)))

unfoldable pub padding_of : ℕ → ℤ → PadMode
padding_of code c =
    cond (eqb code 0) (Pad.Constant c) (cond (eqb code 2) Pad.Maximum (cond (eqb code 3) Pad.Mean
    (cond (eqb code 4) Pad.Median (cond (eqb code 5) Pad.Minimum (cond (eqb code 6) Pad.Reflect
    (cond (eqb code 7) Pad.Symmetric (cond (eqb code 8) Pad.Wrap Pad.Edge)))))))

unfoldable pub kernel_of : ℕ → Kernel3d
kernel_of code = cond (eqb code 0) Kernel.Star (cond (eqb code 1) Kernel.Ball Kernel.Full)

abbrev pub unknown_border : ℕ → Bool
unknown_border code = ltb 4 code

abbrev pub unknown_pad : ℕ → Bool
unknown_pad code = ltb 8 code

abbrev pub unknown_kernel : ℕ → Bool
unknown_kernel code = ltb 2 code

unfoldable pub coded : Judged → Bool → Judged
coded js unknown = js ++ ((unknown, 100) ∷ [])

abbrev pub code_of : SymmetryState → ℕ
code_of NonSymmetric = 0
code_of Symmetric = 1
code_of AntiSymmetric = 2
