-- The quotient of a sum that fits 32 bits, by way of 32 bits: nothing is lost on the way there and back.
-- Assumes nothing.
use Prim.Native.Nat.{ℕ, ◌≤◌}
use mathlib.Core.Path.{◌≡◌, sym, ap, subst, ◌∙◌}
use mathlib.Core.Bool.{false}
use native.Mathlib.Omega.{arith}
use lib.IntN.{ℤ, pos, neg_ℤ}
use lib.Signed.{quot_z}
use mir.Syntax.{w32, w64}
use mir.Val.{SFits, to_z, of_z}
use mir.ValLaws.{to_z-of_z}
use Rattle.numbers.specs.Ranges.{outside_z}
use Rattle.numbers.proofs.Quotient.{quot_fits, quot_asked, quot_given}
use Rattle.numbers.proofs.Size.{Size, size_inside, fits_at, fits_size}
use Rattle.correlate_spec.proofs.Computed.{read}
use Rattle.uniform_spec.specs.Mean.{cut}

module _ (z : ℤ) (n : ℕ) (few : n ≤ 65) (small : outside_z (neg_ℤ (pos 2147483647)) (pos 2147483647) z ≡ false) where
  size : Size z 2147483647
  size = size_inside 2147483647 z small

  held : read z ≡ z
  held = to_z-of_z w64 z (fits_size size (omega arith))

  pub narrow_fits : SFits w32 (read z)
  narrow_fits = subst (SFits w32) (sym held) (fits_at w32 size (omega arith))

  pub narrow_asked : SFits w32 (quot_z (to_z w32 (of_z w32 (read z))) (to_z w32 n))
  narrow_asked = quot_asked w32 (read z) narrow_fits n (omega arith)

  narrow_given : to_z w32 (of_z w32 (quot_z (to_z w32 (of_z w32 (read z))) (to_z w32 n))) ≡ quot_z z (pos n)
  narrow_given = quot_given w32 (read z) narrow_fits n (omega arith) ∙ ap (λ x. quot_z x (pos n)) held

  pub wide_fits : SFits w64 (to_z w32 (of_z w32 (quot_z (to_z w32 (of_z w32 (read z))) (to_z w32 n))))
  wide_fits = subst (SFits w64) (sym narrow_given) (quot_fits w64 z n (fits_size size (omega arith)))

  pub narrow_read : read (to_z w32 (of_z w32 (quot_z (to_z w32 (of_z w32 (read z))) (to_z w32 n)))) ≡ cut z n
  narrow_read = to_z-of_z w64 _ wide_fits ∙ narrow_given
