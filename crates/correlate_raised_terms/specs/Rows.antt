-- Worked rows of this crate's definitions. Each holds by computing.
--   two                         the weights 2 −1
--   low n                       the cell that is n, raised: n − 2^31
--   CorrelateRaisedTermsRows    the rows
use Rattle.std.specs.Prelude.{ℕ, ◌≡◌, List, [], ◌∷◌, map, ℤ, pos, ◌-ℤ◌}
use Rattle.numbers.specs.Rows.{minus, wholes}
use Rattle.correlate_raised_terms.specs.Narrow.{Raised, Narrow, raise_of}
use Rattle.correlate_raised_terms.specs.Products.{lowered, RaisedWeight, product, four_products}

abbrev pub two : List ℤ
two = pos 2 ∷ minus 1 ∷ []

abbrev pub low : ℕ → ℤ
low n = pos n -ℤ pos 2147483648

pub record CorrelateRaisedTermsRows : Type 0 where
  -- weights are raised where one is below 0, also where it is the last, and not where all are 0 or above
  pub raise : map raise_of (wholes (0 ∷ 3 ∷ []) ∷ two ∷ (minus 1 ∷ pos 2 ∷ []) ∷ [] ∷ []) ≡ 0 ∷ 65535 ∷ 65535 ∷ 0 ∷ []
  -- −3 raised by 4 is 1; by 2 it is still below 0; 6 raised by 4 is more than 9
  pub raised : Raised 4 9 (minus 3)
  pub raised_low : Raised 2 9 (minus 3) → ⊥
  pub raised_high : Raised 4 9 (pos 6) → ⊥
  -- both limits of 32 bits, and one more on each side
  pub narrow : Narrow (minus 2147483648 ∷ pos 2147483647 ∷ [])
  pub narrow_low : Narrow (pos 0 ∷ minus 2147483649 ∷ []) → ⊥
  pub narrow_high : Narrow (pos 2147483648 ∷ []) → ⊥
  -- a line of raised cells, as it was
  pub unraised : lowered (wholes (2147483648 ∷ 0 ∷ [])) ≡ pos 0 ∷ minus 2147483648 ∷ []
  -- weight 1 of two, raised by 3
  pub weight : RaisedWeight 3 two 1 2
  pub weight_only : (v : ℕ) → RaisedWeight 3 two 1 v → 2 ≡ v
  -- a raised cell times a raised weight, and four of them: 1 · 1000 + 2 · 100 + 3 · 10 + 4
  pub one_product : product (low 5 ∷ low 7 ∷ []) 1 3 ≡ pos 21
  pub four_products_lem : four_products (low 9 ∷ low 1 ∷ low 2 ∷ low 3 ∷ low 4 ∷ []) 1 1000 100 10 1 ≡ pos 1234
