-- A partial sum on the machine: of a sum so far and a level that was read, whose sizes together stay below 2^63, it is their sum.
-- Assumes nothing.
use mathlib.Core.Path.{◌≡◌, ap, subst, sym, ◌∙◌}
use Prim.Native.Nat.{ℕ, ◌+◌, ◌^◌, ◌<◌}
use native.Mathlib.Omega.{arith}
use lib.IntN.{ℤ, ◌+ℤ◌}
use mir.Syntax.{w64}
use mir.Val.{SFits, to_z, of_z}
use mir.ValLaws.{to_z-of_z}
use Rattle.numbers.proofs.Size.{Size, size_add, size_read, fits_size}

pub record Partial (s z : ℤ) (p : ℕ) : Type 0 where
  pub fits : SFits w64 (s +ℤ to_z w64 (of_z w64 z))
  pub is : to_z w64 (of_z w64 (s +ℤ to_z w64 (of_z w64 z))) ≡ s +ℤ z
  pub size : Size (to_z w64 (of_z w64 (s +ℤ to_z w64 (of_z w64 z)))) p

pub partial_read : {s z : ℤ} {p q : ℕ} → Size s p → Size z q → p + q < 2 ^ 63 → Partial s z (p + q)
partial_read {s} {z} {p} {q} h k b = record { fits = fits; is = is; size = subst (λ (x : ℤ). Size x (p + q)) (sym is) sum }
  where
    sum : Size (s +ℤ z) (p + q)
    sum = size_add h k

    level : to_z w64 (of_z w64 z) ≡ z
    level = to_z-of_z w64 z (fits_size k (omega arith))

    fits : SFits w64 (s +ℤ to_z w64 (of_z w64 z))
    fits = fits_size (size_add h (size_read k (omega arith))) b

    is : to_z w64 (of_z w64 (s +ℤ to_z w64 (of_z w64 z))) ≡ s +ℤ z
    is = to_z-of_z w64 _ fits ∙ ap (λ (x : ℤ). s +ℤ x) level
