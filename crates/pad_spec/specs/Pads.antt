-- The pads of a grid: pairs and a count. One pair serves all axes, or there is one for each axis; what stands past the
-- count is not looked at.
--   pair_of pads count a          the pair that serves axis a
--   lefts_of ns pads count        the pad before each axis of a grid of shape ns
--   rights_of ns pads count       the pad after each axis
--   padded_shape ns lefts rights  the shape of the padded grid
--   in_middle ns lefts q a        whether coordinates q of the padded grid are in the middle on axis a: where the grid
--                                itself stands
--   all_from t a n                whether the test t holds of a, a + 1, .., n of them
--   middle_from ns lefts d q      whether they are on every axis from d on
use Rattle.std.specs.Prelude.{ℕ, zero, suc, ◌+◌, ◌-◌, Bool, true, ◌&&◌, cond, List, leb, ltb, eqb, length, get_or}
use Rattle.numbers.specs.Lists.{tabulate}
use Rattle.array_spec.specs.Grid.{length_of}
use Rattle.pad_spec.specs.declared.pairs.Pair.{Pair}

abbrev pub pair_of : List Pair → ℕ → ℕ → Pair
pair_of pads count a = get_or pads (cond (eqb count 1) 0 a) (record { left = 0; right = 0 })

abbrev pub lefts_of : List ℕ → List Pair → ℕ → List ℕ
lefts_of ns pads count = tabulate (λ a. (pair_of pads count a).left) 0 (length ns)

abbrev pub rights_of : List ℕ → List Pair → ℕ → List ℕ
rights_of ns pads count = tabulate (λ a. (pair_of pads count a).right) 0 (length ns)

abbrev pub padded_shape : List ℕ → List ℕ → List ℕ → List ℕ
padded_shape ns lefts rights = tabulate (λ a. get_or lefts a 0 + length_of ns a + get_or rights a 0) 0 (length ns)

abbrev pub in_middle : List ℕ → List ℕ → (ℕ → ℕ) → ℕ → Bool
in_middle ns lefts q a = leb (get_or lefts a 0) (q a) && ltb (q a) (get_or lefts a 0 + length_of ns a)

abbrev pub all_from : (ℕ → Bool) → ℕ → ℕ → Bool
all_from t a zero = true
all_from t a (suc n) = t a && all_from t (suc a) n

abbrev pub middle_from : List ℕ → List ℕ → ℕ → (ℕ → ℕ) → Bool
middle_from ns lefts d q = all_from (in_middle ns lefts q) d (length ns - d)
