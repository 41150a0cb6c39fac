-- No sum of accepted levels and weights leaves 64 bits, so condition 12 is not asked about.
-- Assumes nothing.
use Prim.Native.Nat.{ℕ, ◌+◌, ◌*◌, ◌^◌, ◌<◌}
use mathlib.Core.Path.{◌≡◌, ◌∙◌}
use mathlib.Core.Bool.{Bool, false}
use mathlib.Core.List.{List}
use native.Mathlib.Omega.{arith}
use lib.IntN.{ℤ}
use lib.ListN.{length}
use Rattle.numbers.specs.Lists.{any_of}
use Rattle.array_spec.specs.Conditions.{bad_shape, bad_level}
use Rattle.array_spec.proofs.Judged.{levels_sized}
use Rattle.border.specs.Border.{Border}
use Rattle.border.specs.Modes.{bad_constant_by}
use Rattle.pad_line.proofs.Sizes.{constant_sized}
use Rattle.correlate_spec.proofs.KernelSizes.{kernel_within}
use Rattle.correlate_judge_spec.specs.Judge.{bad_weight}
use Rattle.direction.specs.Direction.{directed}
use Rattle.direction.proofs.Directed.{directed-length, directed_any}
use Rattle.correlate_judge_spec.proofs.Sums.{weights_sized}
use Rattle.correlate_judge_spec.specs.KernelJudge.{bad_kernel, bad_kernel_sums}
use Rattle.correlate_judge_spec.proofs.Equal.{kernel_equal}

pub no_bad_sums : (convolution : Bool) (b : Border ℤ) (o : ℤ) (sides : List ℕ) (w : List ℤ) (ns : List ℕ) (cells : List ℤ) → bad_shape ns ≡ false → any_of bad_level cells ≡ false
    → bad_kernel ns sides (length w) ≡ false → any_of bad_weight w ≡ false → bad_constant_by bad_level b ≡ false → bad_kernel_sums convolution b o sides w ns cells ≡ false
no_bad_sums convolution b o sides w ns cells e l h k c =
    kernel_within 2147483647 65535 b (constant_sized b c) (directed convolution w) (weights_sized (directed convolution w) (directed_any bad_weight convolution w ∙ k)) ns cells
    (levels_sized cells l) _ sides small
  where
    small : (0 + length (directed convolution w) * 1) * (2147483647 * 65535) < 2 ^ 63
    small = omega (arith, directed-length convolution w, (kernel_equal ns sides (length w) e h).few)
