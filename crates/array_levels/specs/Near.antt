-- Levels near 0, which 2^30 lifts above it.
--   is_far z     a level outside −2^30..2^30 − 1
--   lift_of z    a level of 64 bits with 2^30 added, modulo 2^64: below 2^31 exactly where z is not far
use Rattle.std.specs.Prelude.{ℕ, suc, ◌+◌, ◌-◌, ◌%◌, ◌^◌, Bool, ℤ, pos, negsuc, neg_ℤ}
use Rattle.numbers.specs.Ranges.{outside_z}

abbrev pub is_far : ℤ → Bool
is_far z = outside_z (neg_ℤ (pos (2 ^ 30))) (pos (2 ^ 30 - 1)) z

-- negsuc k is −(k + 1)
abbrev pub lift_of : ℤ → ℕ
lift_of (pos n) = (n + 2 ^ 30) % 2 ^ 64
lift_of (negsuc k) = (2 ^ 64 + 2 ^ 30 - suc k) % 2 ^ 64
