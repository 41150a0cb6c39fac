-- No sum of a window of accepted levels leaves 64 bits, in any pass, since a mean is no larger than the levels: condition 12 never holds where 3, 5 and 9
-- do not. Assumes nothing.
use Prim.Native.Nat.{ℕ, zero, suc, ◌+◌, ◌-◌, ◌*◌, ◌/◌, ◌<◌, ◌≤◌}
use mathlib.Core.Path.{◌≡◌, refl}
use mathlib.Core.Bool.{false}
use mathlib.Core.List.{List}
use native.Mathlib.Omega.{arith}
use lib.IntN.{ℤ, pos}
use lib.ListN.{length}
use Rattle.numbers.specs.Lists.{tabulate, any_of}
use Rattle.numbers.specs.Ranges.{outside, beyond}
use Rattle.numbers.proofs.Any.{none_any, every_imp}
use Rattle.numbers.proofs.Quotient.{size_quot}
use Rattle.numbers.proofs.Size.{Size, Sized, size_zero, size_le, inside_sized, beyond_sized}
use Rattle.numbers.proofs.Tabulate.{every_table}
use Rattle.numbers.proofs.Tests.{or_no}
use Rattle.array_spec.specs.Conditions.{bad_level}
use Rattle.array_spec.proofs.Judged.{levels_sized}
use Rattle.lanes.proofs.Passes.{every_along}
use Rattle.border.specs.Axes.{bad_constants}
use Rattle.border.specs.Border.{Border}
use Rattle.border.specs.Modes.{bad_constant_by}
use Rattle.border.proofs.AnyAxis.{axis-at}
use Rattle.pad_line.proofs.Sizes.{SizedBorder, constant_sized, line_sized}
use Rattle.correlate_spec.specs.WindowSum.{window_sum}
use Rattle.correlate_spec.proofs.Sliding.{sum_size}
use Rattle.uniform_spec.specs.Mean.{cut, means}
use Rattle.uniform_spec.specs.Uniform.{padded_for, window_sums, uniform1d}
use Rattle.uniform_spec.specs.Judge.{bad_uniform_sums, bad_uniform_sums_from}
use Rattle.uniform_spec.proofs.Window.{size_few}

-- the greatest size of a level, and of a sum
abbrev level : ℕ
level = 2147483647

abbrev sum : ℕ
sum = 65 * level

sized_levels : (cells : List ℤ) → Sized level cells → any_of bad_level cells ≡ false
unfolding bad_level
sized_levels cells h = none_any bad_level cells (every_imp (λ x. Size x level) _ cells (λ x s. inside_sized level x s) h)

module _ (b : Border ℤ) (size : ℕ) (ns : List ℕ) (c : SizedBorder level b) where
  padded : (s : List ℤ) → Sized level s → Sized level (padded_for b size s)
  padded s h = line_sized level b c (size / 2) (size - size / 2 - 1) s h

  kept : (a : ℕ) (cells : List ℤ) → Sized level cells → Sized level (uniform1d b size ns a cells)
  kept a cells h =
      every_along (pos 0) (λ x. Size x level) (λ x. Size x level) (λ s. means (padded_for b size s) size (length s)) (size_zero level) (size_zero level)
      (λ s k. every_table (λ x. Size x level) (λ i. cut (window_sum (padded_for b size s) size i) size) 0 (length s) (λ i. size_quot size (sum_size level (padded_for b size s) (padded s k) size i))) ns a
      cells h

  within : size ≤ 65 → (a : ℕ) (cells : List ℤ) → Sized level cells → bad_uniform_sums b size ns a cells ≡ false
  within few a cells h =
      none_any beyond (window_sums b size ns a cells)
      (every_imp (λ x. Size x sum) _ (window_sums b size ns a cells) (λ x s. beyond_sized x s (omega arith))
      (every_along (pos 0) (λ x. Size x level) (λ x. Size x sum) (λ s. tabulate (window_sum (padded_for b size s) size) 0 (length s)) (size_zero level) (size_zero sum)
      (λ s k. every_table (λ x. Size x sum) (window_sum (padded_for b size s) size) 0 (length s) (λ i. size_le (sum_size level (padded_for b size s) (padded s k) size i) (omega arith))) ns a cells h))

-- n passes from axis a on, all of them along axes of the grid
module _ (bs : ℕ → Border ℤ) (size : ℕ) (ns : List ℕ) (few : size ≤ 65) (c : (a : ℕ) → a < length ns → SizedBorder level (bs a)) where
  within_from : (a n : ℕ) (cells : List ℤ) → a + n ≤ length ns → Sized level cells → bad_uniform_sums_from bs size ns a n cells ≡ false
  within_from a zero cells l h = refl
  within_from a (suc n) cells l h =
      let b = c a (omega arith) in
      or_no (bad_uniform_sums (bs a) size ns a cells) (bad_uniform_sums_from bs size ns (suc a) n (uniform1d (bs a) size ns a cells)) (within (bs a) size ns b few a cells h)
      (within_from (suc a) n (uniform1d (bs a) size ns a cells) (omega arith) (kept (bs a) size ns b a cells h))

-- ---- of a call whose conditions 3, 5 and 9 do not hold
module _ (b : Border ℤ) (size : ℕ) (ns : List ℕ) (cells : List ℤ) (l : any_of bad_level cells ≡ false) (c : bad_constant_by bad_level b ≡ false) where
  -- what a pass leaves are levels again
  pub levels-kept : (a : ℕ) → any_of bad_level (uniform1d b size ns a cells) ≡ false
  levels-kept a = sized_levels (uniform1d b size ns a cells) (kept b size ns (constant_sized b c) a cells (levels_sized cells l))

  pub no_bad_sums : outside 1 65 size ≡ false → (a : ℕ) → bad_uniform_sums b size ns a cells ≡ false
  no_bad_sums n a = within b size ns (constant_sized b c) (size_few size n) a cells (levels_sized cells l)

pub no_bad_sums_from : (bs : ℕ → Border ℤ) (size : ℕ) (ns : List ℕ) (cells : List ℤ) → any_of bad_level cells ≡ false → bad_constants bad_level bs ns ≡ false → outside 1 65 size ≡ false
    → bad_uniform_sums_from bs size ns 0 (length ns) cells ≡ false
no_bad_sums_from bs size ns cells l c n =
    within_from bs size ns (size_few size n) (λ a h. constant_sized (bs a) (axis-at (λ b m. bad_constant_by bad_level b) bs ns c a h)) 0 (length ns) cells (omega arith) (levels_sized cells l)
