-- Worked rows of this crate's definitions. Each holds by computing.
--   CorrelateRaisedRows    the rows
use Rattle.std.specs.Prelude.{◌≡◌, [], ◌∷◌, pos, replicate}
use Rattle.numbers.specs.Rows.{minus, wholes}
use Rattle.correlate_raised_terms.specs.Rows.{two, low}
use Rattle.correlate_raised.specs.Raised.{raised_base, raised_start, raised_term, raised_to, LiftNeeds, RaiseNeeds}

pub record CorrelateRaisedRows : Type 0 where
  -- raised by 3, 2 −1 are 5 and 2: a sum starts from −7 · 2^31, and where its window is 4 9, from 39 less
  pub base : raised_base 3 two ≡ minus 15032385536
  pub start : raised_start 3 two (wholes (4 ∷ 9 ∷ [])) 0 ≡ minus 15032385575
  -- the cell that is 10, raised, times −1, raised
  pub term : raised_term 3 two (low 0 ∷ low 1 ∷ low 10 ∷ []) 1 1 ≡ pos 20
  -- with all its terms the sum is the plain one: 2 · 4 − 9
  pub sum : raised_to 3 two (wholes (4 ∷ 9 ∷ [])) 2 0 ≡ minus 1
  -- 65 weights within 65,535, raised by at most as much
  pub liftable : LiftNeeds 65535 (minus 65535 ∷ replicate 64 (pos 65535))
  pub liftable_many : LiftNeeds 0 (replicate 66 (pos 1)) → ⊥
  pub liftable_large : LiftNeeds 0 (pos 65536 ∷ []) → ⊥
  pub liftable_far : LiftNeeds 65536 two → ⊥
  -- a raise that serves, and one that leaves −1 below 0
  pub raisable : RaiseNeeds 1 two (wholes (4 ∷ 9 ∷ [])) 1
  pub raisable_not : RaiseNeeds 0 two (wholes (4 ∷ 9 ∷ [])) 1 → ⊥
