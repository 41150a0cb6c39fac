-- Worked rows about the class: document 01's cases, and both sides of each test.
--   float s m k     m · 2^−k, negative where s is true
--   zero_f, one_f     0.0 and 1.0
--   SymmetrySpecRows    the rows
use Rattle.std.specs.Prelude.{ℕ, ◌+◌, ◌-◌, ◌^◌, ◌≡◌, Bool, true, false, [], ◌∷◌, Float, pos, neg_ℤ}
use Rattle.std.specs.Float.{nan, inf, fin}
use Rattle.numbers.specs.Rows.{minus}
use Rattle.symmetry_spec.specs.Class.{class_z, class_f}
use Rattle.symmetry_spec.specs.declared.SymmetryState.TheVariants.{NonSymmetric, Symmetric, AntiSymmetric}

abbrev pub float : Bool → ℕ → ℕ → Float
float s m k = fin s m (neg_ℤ (pos k))

abbrev pub zero_f : Float
zero_f = float false 0 0

abbrev pub one_f : Float
one_f = float false 1 0

pub record SymmetrySpecRows : Type 0 where
  -- whole weights
  pub symmetric : class_z (pos 1 ∷ pos 2 ∷ pos 7 ∷ pos 2 ∷ pos 1 ∷ []) ≡ Symmetric
  pub anti : class_z (pos 1 ∷ pos 2 ∷ pos 0 ∷ minus 2 ∷ minus 1 ∷ []) ≡ AntiSymmetric
  pub neither : class_z (pos 1 ∷ pos 2 ∷ pos 0 ∷ minus 2 ∷ pos 1 ∷ []) ≡ NonSymmetric
  -- the middle weight is never looked at
  pub anti_middle : class_z (pos 1 ∷ pos 2 ∷ pos 5 ∷ minus 2 ∷ minus 1 ∷ []) ≡ AntiSymmetric
  -- an even length is neither
  pub empty : class_z [] ≡ NonSymmetric
  pub even : class_z (pos 1 ∷ pos 1 ∷ []) ≡ NonSymmetric
  pub even_anti : class_z (pos 1 ∷ pos 2 ∷ minus 2 ∷ minus 1 ∷ []) ≡ NonSymmetric
  -- a single weight has no pair
  pub single : class_z (pos 3 ∷ []) ≡ Symmetric
  -- Symmetric is tested first
  pub zeros : class_z (pos 0 ∷ pos 0 ∷ pos 0 ∷ []) ≡ Symmetric
  -- −2^63 is equal to itself and to the negative of no weight
  pub extreme : class_z (minus (2 ^ 63) ∷ pos 0 ∷ minus (2 ^ 63) ∷ []) ≡ Symmetric
  pub extreme-one : class_z (minus (2 ^ 63) ∷ pos 0 ∷ pos 1 ∷ []) ≡ NonSymmetric
  pub least_greatest : class_z (minus (2 ^ 63) ∷ pos 0 ∷ pos (2 ^ 63 - 1) ∷ []) ≡ NonSymmetric
  -- float weights: 2^−53 and 2^−52 do not exceed 2^−52, the next float, 2^−52 + 2^−104, does
  pub below-epsilon : class_f (zero_f ∷ one_f ∷ float false 1 53 ∷ []) ≡ Symmetric
  pub at-epsilon : class_f (zero_f ∷ one_f ∷ float false 1 52 ∷ []) ≡ Symmetric
  pub above_epsilon : class_f (zero_f ∷ one_f ∷ float false (2 ^ 52 + 1) 104 ∷ []) ≡ NonSymmetric
  -- 1 and 1 + 2^−52
  pub near_one : class_f (one_f ∷ zero_f ∷ float false (2 ^ 52 + 1) 52 ∷ []) ≡ Symmetric
  -- 2^−52 + 2^−106 is rounded to 2^−52 first
  pub rounded : class_f (float true 1 106 ∷ zero_f ∷ float false 1 52 ∷ []) ≡ Symmetric
  pub anti_float : class_f (one_f ∷ one_f ∷ float true 1 0 ∷ []) ≡ AntiSymmetric
  pub anti_near : class_f (one_f ∷ one_f ∷ float true (2 ^ 52 + 1) 52 ∷ []) ≡ AntiSymmetric
  pub even-float : class_f (one_f ∷ one_f ∷ []) ≡ NonSymmetric
  -- a NaN exceeds nothing, an infinity does
  pub not_a-number : class_f (nan ∷ one_f ∷ zero_f ∷ []) ≡ Symmetric
  pub infinite : class_f (inf false ∷ one_f ∷ zero_f ∷ []) ≡ NonSymmetric
