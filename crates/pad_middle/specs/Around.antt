-- A padded grid of shape ps around its middle, where a grid of shape ns stands, lefts cells from the start on each
-- axis.
--   gap_set level from to g           g with the level at each place from from on, up to to
--   around_set level ns lefts ps g    g, such a grid, with the level at every place that is not in the middle
use Rattle.std.specs.Prelude.{ℕ, ◌&&◌, cond, List, leb, ltb, ℤ, pos, length, get_or}
use Rattle.numbers.specs.Lists.{tabulate}
use Rattle.array_spec.specs.Grid.{coordinate}
use Rattle.pad_spec.specs.Pads.{middle_from}

unfoldable pub gap_set : ℤ → ℕ → ℕ → List ℤ → List ℤ
gap_set level from to g = tabulate (λ k. cond (leb from k && ltb k to) level (get_or g k (pos 0))) 0 (length g)

unfoldable pub around_set : ℤ → List ℕ → List ℕ → List ℕ → List ℤ → List ℤ
around_set level ns lefts ps g =
    tabulate (λ k. cond (middle_from ns lefts 0 (coordinate ps k)) (get_or g k (pos 0)) level) 0 (length g)
