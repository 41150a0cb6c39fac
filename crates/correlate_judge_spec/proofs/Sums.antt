-- No sum of accepted levels and weights leaves 64 bits: condition 12 never holds where 3, 5, 6 and 9 do not.
-- Assumes nothing.
use Prim.Native.Nat.{ℕ, ◌*◌, ◌≤◌}
use mathlib.Core.Path.{◌≡◌, ◌∙◌}
use mathlib.Core.Bool.{Bool, false}
use mathlib.Core.List.{List}
use native.Mathlib.Nat.{mul-le-mul, le_refl}
use native.Mathlib.Omega.{arith}
use borrow.Author.Tests.{ltb-false}
use lib.Dec.{ltb}
use lib.IntN.{ℤ}
use lib.ListN.{length}
use Rattle.numbers.specs.Lists.{any_of}
use Rattle.numbers.specs.Ranges.{outside, beyond}
use Rattle.numbers.proofs.Size.{Size, Sized, tested_sized}
use Rattle.numbers.proofs.Tests.{or_false}
use Rattle.array_spec.specs.Conditions.{bad_level}
use Rattle.array_spec.proofs.Judged.{levels_sized}
use Rattle.border.specs.Border.{Border}
use Rattle.border.specs.Modes.{bad_constant_by}
use Rattle.pad_line.proofs.Sizes.{SizedBorder, constant_sized}
use Rattle.correlate_spec.specs.Correlated.{correlate1d_z}
use Rattle.correlate_spec.proofs.Bounds.{answer_sized, within_sized}
use Rattle.correlate_judge_spec.specs.Judge.{bad_weight, bad_correlate_sums}
use Rattle.direction.specs.Direction.{directed}
use Rattle.direction.proofs.Directed.{directed-length, directed_any}

-- the greatest size of a level and of a weight
abbrev level : ℕ
level = 2147483647

abbrev weight : ℕ
weight = 65535

pub within : (b : Border ℤ) (w : List ℤ) → length w ≤ 65 → SizedBorder level b → Sized weight w
    → (o : ℤ) (ns : List ℕ) (a : ℕ) (cells : List ℤ) → Sized level cells → any_of beyond (correlate1d_z b o w ns a cells) ≡ false
within b w n c k o ns a cells h =
    within_sized (correlate1d_z b o w ns a cells) (answer_sized level weight b w c k o ns a cells h) (omega (arith, mul-le-mul n (le_refl (level * weight))))

pub weights_sized : (w : List ℤ) → any_of bad_weight w ≡ false → Sized weight w
unfolding bad_weight
weights_sized w e = tested_sized weight w e

count_short : (n : ℕ) → outside 1 65 n ≡ false → n ≤ 65
count_short n e = ltb-false 65 n (or_false (ltb n 1) (ltb 65 n) e).1

-- condition 12 never holds
pub no_bad_sums : (convolution : Bool) (b : Border ℤ) (o : ℤ) (w : List ℤ) (ns : List ℕ) (a : ℕ) (cells : List ℤ) → any_of bad_level cells ≡ false
    → outside 1 65 (length w) ≡ false → any_of bad_weight w ≡ false → bad_constant_by bad_level b ≡ false → bad_correlate_sums convolution b o w ns a cells ≡ false
no_bad_sums convolution b o w ns a cells l n k c =
    within b (directed convolution w) (omega (arith, directed-length convolution w, count_short (length w) n)) (constant_sized b c)
    (weights_sized (directed convolution w) (directed_any bad_weight convolution w ∙ k)) _ ns a cells
    (levels_sized cells l)
