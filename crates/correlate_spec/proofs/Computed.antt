-- What the machine computes: a number x that fits 64 bits and is the number z that is meant. An operation on two such numbers is one again where its result is small enough.
-- Assumes nothing.
use Prim.Native.Nat.{ℕ, ◌^◌, ◌<◌}
use mathlib.Core.Path.{◌≡◌, refl, sym, subst, ◌∙◌}
use native.Mathlib.Omega.{arith}
use lib.IntN.{ℤ, pos}
use mir.Syntax.{w64}
use mir.Val.{SFits, to_z, of_z}
use mir.ValLaws.{to_z-of_z}
use Rattle.numbers.proofs.Size.{Size, fits_size}

-- a number stored in 64 bits and read again
abbrev pub read : ℤ → ℤ
read z = to_z w64 (of_z w64 z)

pub record Computed (x z : ℤ) : Type 0 where
  pub fits : SFits w64 x
  pub is : x ≡ z

pub size_pos : (n : ℕ) → Size (pos n) n
size_pos n = record { size = omega arith }

pub computed_level : {z : ℤ} {p : ℕ} → Size z p → p < 2 ^ 63 → Computed z z
computed_level h b = record { fits = fits_size h b; is = refl }

pub computed_read : {x z : ℤ} → Computed x z → read x ≡ z
computed_read {x} {z} c = to_z-of_z w64 x c.fits ∙ c.is

pub computed : (op : ℤ → ℤ → ℤ) {x y a b : ℤ} {p : ℕ} → Computed x a → Computed y b → Size (op a b) p → p < 2 ^ 63 → Computed (op (read x) (read y)) (op a b)
computed op {x} {y} {a} {b} {p} c d h l = record { fits = subst (SFits w64) (sym is) (fits_size h l); is = is }
  where
    is : op (read x) (read y) ≡ op a b
    is = (λ i. op (computed_read c i) (computed_read d i))
