-- Tests of a range, both ends included, and the range of signed 64 bits.
--   outside lo hi n    whether n is below lo or above hi
--   outside_z lo hi z   the same of whole numbers of either sign
--   over m z           whether the size of z is over m: z is outside −m..m
--   beyond z           whether z is outside signed 64 bits
use Rattle.std.specs.Prelude.{ℕ, ◌-◌, ◌^◌, Bool, ◌||◌, ltb, ℤ, pos, neg_ℤ}
use Rattle.std.specs.Int.Signed.{lt_z}

abbrev pub outside : ℕ → ℕ → ℕ → Bool
outside lo hi n = ltb n lo || ltb hi n

abbrev pub outside_z : ℤ → ℤ → ℤ → Bool
outside_z lo hi z = lt_z z lo || lt_z hi z

abbrev pub over : ℕ → ℤ → Bool
over m z = outside_z (neg_ℤ (pos m)) (pos m) z

abbrev pub beyond : ℤ → Bool
beyond z = outside_z (neg_ℤ (pos (2 ^ 63))) (pos (2 ^ 63 - 1)) z
