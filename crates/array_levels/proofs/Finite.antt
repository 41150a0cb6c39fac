-- A float less itself is 0 where it is finite, and a NaN where it is not: the test of condition 3.
-- Assumes nothing.
use Rattle.std.proofs.Common.{◌≡◌, ℕ, ◌-◌, ◌*◌, ◌<◌, Bool, true, false, cond, not, ◌&&◌, ltb, pos, refl, ◌∙◌, le_refl, mul-pos, arith, le-ltb}
use native.Mathlib.Nat.{sub_self}
use lib.Ieee.{Float, nan, inf, fin, binary64, add, sub, neg, sum, round, eq, ne, of_bits, up, down}
use lib.Ieee.Fits.{down_pos}
use lib.Ieee.Scale.{round_same}
use Rattle.array_spec.specs.Conditions.{bad_float}

round_zero : (d : ℕ) → 0 < d → round binary64 false 0 d ≡ fin false 0 (pos 0)
unfolding round
round_zero d h = round_same binary64 false 0 d 0 1 h (omega arith) (omega arith) ∙ refl

-- ±a / c - ±a / c, as the kit's sum computes it
difference_zero : (s t : Bool) (a c : ℕ) → 0 < c
    → cond (ltb a a) (round binary64 s (a - a) c) (round binary64 (t && ltb a a) (a - a) c) ≡ fin false 0 (pos 0)
difference_zero s true a c h = rw (le-ltb a a (le_refl a), sub_self) (round_zero c h)
difference_zero s false a c h = rw (le-ltb a a (le_refl a), sub_self) (round_zero c h)

eq_zero : (x : Float) → x ≡ fin false 0 (pos 0) → not (eq x (fin false 0 (pos 0))) ≡ false
unfolding eq
eq_zero x h = rw h refl

pub finite_is : (x : Float) → ne (sub binary64 x x) (of_bits binary64 0) ≡ bad_float x
unfolding ne eq sub add neg of_bits sum
finite_is nan = refl
finite_is (inf true) = refl
finite_is (inf false) = refl
finite_is (fin true m e) = eq_zero _ (difference_zero false true (m * up e * down e) (down e * down e) (mul-pos (down_pos e) (down_pos e)))
finite_is (fin false m e) = eq_zero _ (difference_zero true false (m * up e * down e) (down e * down e) (mul-pos (down_pos e) (down_pos e)))
