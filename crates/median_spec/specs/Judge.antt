-- The conditions of the median of a mask, as document 01 words them.
--   bad_axes ns                1: what condition 1 refuses of every grid, or not three axes
--   bad_single ns              4: an axis of one cell
--   median_judged ns len out   the conditions in rising order, of a mask of len cells and a lent output of out cells
use Rattle.std.specs.Prelude.{ℕ, Bool, not, ◌||◌, List, [], ◌∷◌, eqb, length}
use Rattle.numbers.specs.Lists.{any_of}
use Rattle.numbers.specs.Refusal.{Judged}
use Rattle.array_spec.specs.Conditions.{bad_shape, bad_length}

abbrev pub bad_axes : List ℕ → Bool
bad_axes ns = bad_shape ns || not (eqb (length ns) 3)

abbrev pub bad_single : List ℕ → Bool
bad_single ns = any_of (λ n. eqb n 1) ns

abbrev pub median_judged : List ℕ → ℕ → ℕ → Judged
median_judged ns len out = (bad_axes ns, 1) ∷ (any_of (bad_length ns) (len ∷ out ∷ []), 2) ∷ (bad_single ns, 4) ∷ []
