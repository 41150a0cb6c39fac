-- The answer to an origin that condition 7 accepts, of a window along one axis or of a grid kernel: it is not Refused, and its pads are the two sums.
-- Assumes nothing.
use Prim.Native.Nat.{ℕ}
use mathlib.Core.Path.{◌≡◌, refl, sym, ap, ◌∙◌}
use mathlib.Core.Bool.{Bool, true, false, cond}
use native.Mathlib.Omega.{arith}
use lib.IntN.{ℤ, pos, nat_abs, ◌+ℤ◌, ◌-ℤ◌}
use Rattle.numbers.proofs.Tests.{cond_no}
use Rattle.window_spec.specs.Origin.{bad_origin, origin_pads, refusal_of_origin, OriginAnswers}
use Rattle.window_spec.specs.declared.Origin.{Origin}
use Rattle.window_spec.specs.declared.Origin.TheVariants.{Pads, Refused}

abbrev first : Origin → ℕ
first (Pads x y) = x
first Refused = 0

abbrev last : Origin → ℕ
last (Pads x y) = y
last Refused = 0

module _ (len left right : ℕ) (o : ℤ) (h : bad_origin len o ≡ false) {r : Origin} (e : r ≡ origin_pads len left right o) where
  given : r ≡ Pads (nat_abs (pos left +ℤ o)) (nat_abs (pos right -ℤ o))
  given = e ∙ cond_no (bad_origin len o) Refused (Pads (nat_abs (pos left +ℤ o)) (nat_abs (pos right -ℤ o))) h

  pub not_refused : r ≡ Refused → ⊥
  not_refused q = clash (ap refusal_of_origin (sym q ∙ given))
    where
      clash : ◌≡◌ {A = ℕ} 7 0 → ⊥
      clash z = omega arith

  pub left_is : {l g : ℕ} → r ≡ Pads l g → l ≡ nat_abs (pos left +ℤ o)
  left_is q = ap first (sym q ∙ given)

  pub right_is : {l g : ℕ} → r ≡ Pads l g → g ≡ nat_abs (pos right -ℤ o)
  right_is q = ap last (sym q ∙ given)

-- the answer that the definition gives has document 01's number
pub origin_answers : (len left right : ℕ) (o : ℤ) {r : Origin} → r ≡ origin_pads len left right o → OriginAnswers len left right o r
origin_answers len left right o {r} e = record { number = ap refusal_of_origin e ∙ numbered (bad_origin len o); pads = e }
  where
    numbered : (t : Bool) → refusal_of_origin (cond t Refused (Pads (nat_abs (pos left +ℤ o)) (nat_abs (pos right -ℤ o)))) ≡ cond t 7 0
    numbered true = refl
    numbered false = refl
