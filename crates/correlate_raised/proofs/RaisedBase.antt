-- What raising the cells adds to a sum, taken from 0, on the machine: every step of it fits 64 bits.
-- Assumes nothing.
use Prim.Native.Nat.{ℕ, ◌+◌, ◌*◌, ◌^◌}
use mathlib.Core.Path.{◌≡◌, sym, subst}
use mathlib.Core.List.{List}
use native.Mathlib.Omega.{arith}
use lib.IntN.{ℤ, pos, ◌+ℤ◌, ◌-ℤ◌, ◌*ℤ◌}
use lib.ListN.{length}
use mir.Syntax.{w64}
use mir.Val.{SFits}
use Rattle.numbers.specs.Sums.{sum_of}
use Rattle.numbers.proofs.Any.{none_any, every_imp}
use Rattle.numbers.proofs.Size.{Size, Sized, size_zero, size_add, size_neg, size_mul, size_le, size_sum, inside_sized, tested_sized, fits_size}
use Rattle.correlate_spec.specs.Sizes.{SumNeeds}
use Rattle.correlate_raised.specs.Raised.{raised_base, LiftNeeds}
use Rattle.correlate_spec.proofs.Computed.{read, Computed, size_pos, computed_level, computed_read, computed}

module _ {w : List ℤ} {by : ℕ} (L : LiftNeeds by w) where
  sized : Sized 65535 w
  sized = tested_sized 65535 w L.weights

  pub weights_summable : SumNeeds w
  weights_summable = record {
    few = L.few;
    cells = none_any _ w (every_imp (λ x. Size x 65535) _ w (λ x h. inside_sized (2 ^ 38) x (size_le h (omega arith))) sized);
  }

  sum_small : Size (sum_of w) (65 * 65535)
  sum_small = size_le (size_sum 65535 w sized) (omega (arith, L.few))

  times_small : Size (pos (length w) *ℤ pos by) (65 * 65535)
  times_small = size_mul (size_le (size_pos (length w)) L.few) (size_le (size_pos by) L.low)

  raised_small : Size (sum_of w +ℤ pos (length w) *ℤ pos by) (65 * 65535 + 65 * 65535)
  raised_small = size_add sum_small times_small

  scaled_small : Size ((sum_of w +ℤ pos (length w) *ℤ pos by) *ℤ pos 2147483648) (65 * (2 ^ 38 * 65535))
  scaled_small = size_le (size_mul raised_small (size_pos 2147483648)) (omega arith)

  pub base_small : Size (raised_base by w) (65 * (2 ^ 38 * 65535))
  base_small = size_add (size_zero 0) (size_neg scaled_small)

  pub times_computed : Computed (read (pos (length w)) *ℤ read (pos by)) (pos (length w) *ℤ pos by)
  times_computed = computed ◌*ℤ◌ (computed_level (size_pos (length w)) (omega (arith, L.few))) (computed_level (size_pos by) (omega (arith, L.low))) times_small (omega arith)

  -- the sum of the weights, as it is held
  module _ {t : ℤ} (held : t ≡ sum_of w) where
    pub raised_sum : Computed (read t +ℤ read (read (pos (length w)) *ℤ read (pos by))) (sum_of w +ℤ pos (length w) *ℤ pos by)
    raised_sum = computed ◌+ℤ◌ (record { fits = subst (SFits w64) (sym held) (fits_size sum_small (omega arith)); is = held }) times_computed raised_small (omega arith)

    pub scaled : Computed (read (read t +ℤ read (read (pos (length w)) *ℤ read (pos by))) *ℤ read (pos 2147483648)) ((sum_of w +ℤ pos (length w) *ℤ pos by) *ℤ pos 2147483648)
    scaled = computed ◌*ℤ◌ raised_sum (computed_level (size_pos 2147483648) (omega arith)) scaled_small (omega arith)

    pub base : Computed (read (pos 0) -ℤ read (read (read t +ℤ read (read (pos (length w)) *ℤ read (pos by))) *ℤ read (pos 2147483648))) (raised_base by w)
    base = computed ◌-ℤ◌ (computed_level (size_pos 0) (omega arith)) scaled base_small (omega arith)

    pub base_read : read (read (pos 0) -ℤ read (read (read t +ℤ read (read (pos (length w)) *ℤ read (pos by))) *ℤ read (pos 2147483648))) ≡ raised_base by w
    base_read = computed_read base
