-- Cell j of every window, one after the other, is the part of the padded line from place j on, as long as the row of sums.
-- Assumes nothing.
use Prim.Native.Nat.{ℕ, ◌+◌, ◌<◌}
use mathlib.Core.Path.{◌≡◌, ap, ◌∙◌}
use mathlib.Core.List.{List}
use native.Mathlib.Nat.{add_comm}
use native.Mathlib.Omega.{arith}
use lib.Ieee.{Float, nan}
use lib.ListN.{length, get_or}
use Rattle.numbers.specs.Windows.{window_of}
use Rattle.numbers.proofs.Window.{length-window, get_d_window}
use Rattle.correlate_spec.specs.Lengths.{Windows}

module _ {w s cells : List Float} {n : ℕ} (W : Windows w s n) (j : ℕ) (h : j < length w) (e : cells ≡ window_of s j n) where
  pub length_part : length cells ≡ n
  length_part = ap length e ∙ length-window s j n (omega (arith, W.long))

  pub get_d_part : (i : ℕ) → i < n → get_or cells i nan ≡ get_or s (i + j) nan
  get_d_part i b =
      ap (λ c. get_or c i nan) e ∙ get_d_window s j n i nan (omega (arith, W.long)) b ∙ ap (λ k. get_or s k nan) (add_comm j i)
