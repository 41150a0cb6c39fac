-- A convolution by a correlation, for every call: on the weights from the last to the first, with the origin negated
-- and, for an even count of weights or an even side, 1 less.
--   ConvolvesAs judged convolved reversed correlated
--                               the call judged as `judged` gets the number of the one judged as `reversed`, and where
--                               it is accepted its levels `convolved` are that one's, `correlated`
--   ConvolutionIsCorrelation    so it is for whole levels and floats along an axis, and for grid kernels. One weight
--                               along an axis reads no origin on either side
-- Floats are equal as values: all NaNs count as one.
use Rattle.std.specs.Prelude.{ℕ, ◌≡◌, true, false, List, reverse, Float, ℤ, length}
use Rattle.numbers.specs.Refusal.{Judged, refusal_of}
use Rattle.border.specs.Border.{Border}
use Rattle.window_spec.specs.Window.{changed_origin}
use Rattle.correlate_spec.specs.Correlated.{correlate1d_z, correlate1d_f}
use Rattle.correlate_spec.specs.Convolved.{convolve1d_z, convolve1d_f}
use Rattle.correlate_spec.specs.Kernel.{side_of_lem, correlate_z, convolve_z}
use Rattle.correlate_judge_spec.specs.Judge.{correlate_judged, correlate_judged_f}
use Rattle.correlate_judge_spec.specs.KernelJudge.{kernel_judged}

pub record ConvolvesAs {A : Type 0} (judged : Judged) (convolved : List A) (reversed : Judged)
    (correlated : List A) : Type 0 where
  pub number : refusal_of judged ≡ refusal_of reversed
  pub levels : refusal_of judged ≡ 0 → convolved ≡ correlated

pub record ConvolutionIsCorrelation : Type 0 where
  pub whole : (b : Border ℤ) (o : ℤ) (w : List ℤ) (ns : List ℕ) (a : ℕ) (cells : List ℤ) (out : ℕ)
      → let changed = changed_origin (length w) o in
      ConvolvesAs (correlate_judged true b o w ns a cells out) (convolve1d_z b o w ns a cells)
      (correlate_judged false b changed (reverse w) ns a cells out) (correlate1d_z b changed (reverse w) ns a cells)
  pub float : (b : Border Float) (o : ℤ) (w : List Float) (ns : List ℕ) (a : ℕ) (cells : List Float) (out : ℕ)
      → let changed = changed_origin (length w) o in
      ConvolvesAs (correlate_judged_f true b o w ns a cells out) (convolve1d_f b o w ns a cells)
      (correlate_judged_f false b changed (reverse w) ns a cells out) (correlate1d_f b changed (reverse w) ns a cells)
  pub kernel : (b : Border ℤ) (o : ℤ) (sides : List ℕ) (w : List ℤ) (ns : List ℕ) (cells : List ℤ) (out : ℕ)
      → let changed = changed_origin (side_of_lem sides) o in
      ConvolvesAs (kernel_judged true b o sides w ns cells out) (convolve_z b o sides w ns cells)
      (kernel_judged false b changed sides (reverse w) ns cells out) (correlate_z b changed sides (reverse w) ns cells)
