-- Worked rows of this crate's definitions. Each holds by computing.
--   CorrelatePlainRows   the rows
use Rattle.std.specs.Prelude.{◌+◌, ◌^◌, ◌≡◌, [], ◌∷◌, map, pos}
use Rattle.numbers.specs.Rows.{minus, wholes}
use Rattle.correlate_plain.specs.Added.{plus, three_terms, four_terms, added_to, AddNeeds, Passed}

pub record CorrelatePlainRows : Type 0 where
  -- what is held plus the place; past the end 0 is held
  pub held : map (plus (wholes (10 ∷ 20 ∷ [])) pos) (0 ∷ 1 ∷ 2 ∷ []) ≡ wholes (10 ∷ 21 ∷ 2 ∷ [])
  -- cell 1, weights 10, 100 and 1000: 4, 5 and 6 times
  pub three : three_terms (wholes (1 ∷ 10 ∷ 100 ∷ 1000 ∷ [])) (wholes (2 ∷ 3 ∷ 4 ∷ 5 ∷ 6 ∷ [])) 1 1 ≡ pos 6540
  -- cell 0 under all four weights
  pub four : four_terms (wholes (1 ∷ 10 ∷ 100 ∷ 1000 ∷ [])) (wholes (2 ∷ 3 ∷ 4 ∷ 5 ∷ 6 ∷ [])) 0 0 ≡ pos 5432
  -- 8 is held, and 3 and 40 are added, one after the other
  pub added : map (λ n. added_to (wholes (7 ∷ 8 ∷ [])) (wholes (1 ∷ 10 ∷ [])) (wholes (2 ∷ 3 ∷ 4 ∷ [])) n 1)
      (0 ∷ 1 ∷ 2 ∷ []) ≡ wholes (8 ∷ 11 ∷ 51 ∷ [])
  -- a row may hold 2^61 before the first pass and 2^62 before a later one, and no more
  pub addable : AddNeeds (wholes (2 ∷ 1 ∷ [])) (wholes (1 ∷ 2 ∷ [])) (pos (2 ^ 61) ∷ [])
  pub addable_large : AddNeeds (wholes (2 ∷ 1 ∷ [])) (wholes (1 ∷ 2 ∷ [])) (pos (2 ^ 61 + 1) ∷ []) → ⊥
  pub passed : Passed (wholes (2 ∷ 1 ∷ [])) (wholes (1 ∷ 2 ∷ [])) (minus (2 ^ 62) ∷ [])
  pub passed_large : Passed (wholes (2 ∷ 1 ∷ [])) (wholes (1 ∷ 2 ∷ [])) (minus (2 ^ 62 + 1) ∷ []) → ⊥
