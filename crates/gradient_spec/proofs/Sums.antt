-- No sum of a pass over accepted levels leaves 64 bits: condition 12 never holds where 1, 3, 8 and 9 do not. Each pass multiplies the greatest size by at most 6.
-- Assumes nothing.
use Prim.Native.Nat.{ℕ, zero, suc, ◌+◌, ◌*◌, ◌^◌, ◌≤◌, ◌<◌}
use mathlib.Core.Path.{◌≡◌, refl, ap}
use mathlib.Core.Bool.{Bool, false}
use mathlib.Core.List.{List}
use native.Mathlib.Omega.{arith}
use lib.Dec.{eqb}
use lib.IntN.{ℤ, pos}
use lib.ListN.{length}
use Rattle.numbers.specs.Lists.{tabulate, any_of}
use Rattle.numbers.specs.Ranges.{beyond}
use Rattle.numbers.proofs.Size.{Sized, tested_sized}
use Rattle.numbers.proofs.Tests.{cond_ind, or_no}
use Rattle.array_spec.specs.Conditions.{bad_shape, bad_level}
use Rattle.array_spec.proofs.Judged.{levels_sized}
use Rattle.array_spec.proofs.Shapes.{shape-accepted}
use Rattle.border.specs.Border.{Border}
use Rattle.border.specs.Axes.{bad_constants}
use Rattle.border.specs.Modes.{bad_constant_by}
use Rattle.border.proofs.AnyAxis.{axis-at}
use Rattle.lanes.specs.Axes.{over_axes}
use Rattle.pad_line.proofs.Sizes.{SizedBorder, constant_sized}
use Rattle.correlate_spec.specs.Correlated.{correlate1d_z}
use Rattle.correlate_spec.proofs.Bounds.{sized_le, border_le, answer_sized, within_sized}
use Rattle.gradient_spec.specs.Gradient.{difference, smoothed, gradient_to}
use Rattle.gradient_spec.specs.Judge.{ThreeSmall, bad_gradient_sums}

-- the greatest size of a level
abbrev level : ℕ
level = 2147483647

-- ---- one pass
pub pass_sized : (b : Border ℤ) {w : List ℤ} → ThreeSmall w → (ns : List ℕ) (p a : ℕ) (g : List ℤ) → SizedBorder p b → Sized p g → Sized (6 * p) (correlate1d_z b (pos 0) w ns a g)
pass_sized b {w} S ns p a g c h =
    sized_le (correlate1d_z b (pos 0) w ns a g) (answer_sized p 2 b w c (tested_sized 2 w S.small) (pos 0) ns a g h)
    (omega (arith, ap (λ n. n * (p * 2)) S.three))

-- n more passes
grown : ℕ → ℕ → ℕ
grown zero p = p
grown (suc n) p = grown n (6 * p)

-- after the difference and at most three passes
few : (k : ℕ) → k < 4 → grown k (6 * level) < 2 ^ 63
unfolding grown
few zero h = omega arith
few (suc zero) h = omega arith
few (suc (suc zero)) h = omega arith
few (suc (suc (suc zero))) h = omega arith
few (suc (suc (suc (suc k)))) h = absurd (omega arith)

-- the border of every axis has a level of size at most p
abbrev pub SizedBorders : ℕ → (ℕ → Border ℤ) → List ℕ → Type 0
SizedBorders p bs ns = (a : ℕ) → a < length ns → SizedBorder p (bs a)

pub constants_sized : (bs : ℕ → Border ℤ) (ns : List ℕ) → bad_constants bad_level bs ns ≡ false → SizedBorders level bs ns
constants_sized bs ns e a h = constant_sized (bs a) (axis-at (λ b n. bad_constant_by bad_level b) bs ns e a h)

module _ (bs : ℕ → Border ℤ) {w : List ℤ} (S : ThreeSmall w) (ns : List ℕ) where
  smoothed_sized : (axis p a : ℕ) (g : List ℤ) → SizedBorder p (bs a) → Sized p g → Sized (6 * p) (smoothed bs w ns axis a g)
  smoothed_sized axis p a g c h = cond_ind (eqb a axis) g (correlate1d_z (bs a) (pos 0) w ns a g) (Sized (6 * p)) (λ t. sized_le g h (omega arith)) (λ t. pass_sized (bs a) S ns p a g c h)

  over_sized : (axis n p a : ℕ) (g : List ℤ) → a + n ≤ length ns → SizedBorders p bs ns → Sized p g → Sized (grown n p) (over_axes (smoothed bs w ns axis) a n g)
  unfolding grown
  over_sized axis zero p a g l c h = h
  over_sized axis (suc n) p a g l c h =
      over_sized axis n (6 * p) (suc a) (smoothed bs w ns axis a g) (omega arith) (λ i m. border_le (bs i) (c i m) (omega arith)) (smoothed_sized axis p a g (c a (omega arith)) h)

  passes_within : (axis : ℕ) (cells : List ℤ) → axis < length ns → SizedBorders level bs ns → Sized level cells → (k : ℕ) → k ≤ length ns → k < 4
      → any_of beyond (gradient_to w bs ns axis cells k) ≡ false
  unfolding gradient_to
  passes_within axis cells x c h k m l =
      within_sized (gradient_to w bs ns axis cells k)
      (over_sized axis k (6 * level) 0 (correlate1d_z (bs axis) (pos 0) difference ns axis cells) (omega arith) (λ i m. border_le (bs i) (c i m) (omega arith))
      (answer_sized level 2 (bs axis) difference (c axis x) (tested_sized 2 difference refl) (pos 0) ns axis cells h)) (few k l)

-- no member of a table passes a test
none_table : {A : Type 0} (t : A → Bool) (f : ℕ → A) (m n : ℕ) → ((k : ℕ) → k < m + n → t (f k) ≡ false) → any_of t (tabulate f m n) ≡ false
unfolding tabulate
none_table t f m zero h = refl
none_table t f m (suc n) h = or_no (t (f m)) (any_of t (tabulate f (suc m) n)) (h m (omega arith)) (none_table t f (suc m) n (λ k l. h k (omega arith)))

-- condition 12 never holds
pub no_gradient_sums : (bs : ℕ → Border ℤ) {w : List ℤ} → ThreeSmall w → (ns : List ℕ) (axis : ℕ) (cells : List ℤ) → bad_shape ns ≡ false → any_of bad_level cells ≡ false → axis < length ns
    → bad_constants bad_level bs ns ≡ false → bad_gradient_sums w bs ns axis cells ≡ false
no_gradient_sums bs {w} S ns axis cells s l x c =
    none_table (any_of beyond) (gradient_to w bs ns axis cells) 0 (suc (length ns)) (λ k h. passes_within bs S ns axis cells x (constants_sized bs ns c) (levels_sized cells l) k
    (omega arith) (omega (arith, (shape-accepted ns s).few)))
