-- Worked rows of this crate's definitions. Each holds by computing.
--   tiny                  2^−53
--   minus_one              −1
--   whole n               n as a float: n odd, or 0
--   even n k              n times 2^k as a float: n odd
--   CorrelateLineF64Rows  the rows
use Rattle.std.specs.Prelude.{ℕ, ◌≡◌, false, true, [], ◌∷◌, Float, pos, negsuc}
use Rattle.std.specs.Float.{fin}
use Rattle.correlate_line_f64.specs.Four.{four_more}

abbrev pub tiny : Float
tiny = fin false 1 (negsuc 52)

abbrev pub minus_one : Float
minus_one = fin true 1 (pos 0)

abbrev pub even : ℕ → ℕ → Float
even n k = fin false n (pos k)

abbrev pub whole : ℕ → Float
whole n = even n 0

pub record CorrelateLineF64Rows : Type 0 where
  -- 5, plus 1 · 1000 + 2 · 100 + 3 · 10 + 4 · 1, from place 1 on
  pub four : four_more (whole 5) (whole 9 ∷ whole 1 ∷ even 1 1 ∷ whole 3 ∷ even 1 2 ∷ []) 1
      (even 125 3) (even 25 2) (even 5 1) (whole 1) ≡ whole 1239
  -- 1 and twice 2^−53, one after the other, is 1: each sum is rounded by itself. Joined first they would make 1 + 2^−52
  pub one_by_one : four_more (whole 1) (tiny ∷ tiny ∷ whole 0 ∷ whole 0 ∷ []) 0
      (whole 1) (whole 1) (whole 1) (whole 1) ≡ whole 1
  -- four times −0.0 to −0.0 leaves −0.0
  pub signs : four_more (fin true 0 (pos 0)) (whole 0 ∷ whole 0 ∷ whole 0 ∷ whole 0 ∷ []) 0
      minus_one minus_one minus_one minus_one ≡ fin true 0 (pos 0)
