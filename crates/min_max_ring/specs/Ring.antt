-- The ring: an array of 65 pairs, read from a start round its end.
--   ring_place k          the place k places from the array's start, at most once round its end
--   no_pair             stands for the pair past an end
--   items_from ps s n   the n pairs of the array ps from place s on, round its end
use Rattle.std.specs.Prelude.{ℕ, zero, suc, ◌+◌, ◌-◌, ◌%◌, cond, List, [], ◌∷◌, ltb, pos, get_or}
use Rattle.numbers.specs.Limits.{longest_window}
use Rattle.min_max_ring.specs.declared.Pair.{Pair}

unfoldable pub ring_place : ℕ → ℕ
ring_place k = cond (ltb k longest_window) k (k - longest_window)

abbrev pub no_pair : Pair
no_pair = record { val = pos 0; death = 0 }

unfoldable pub items_from : List Pair → ℕ → ℕ → List Pair
items_from ps s zero = []
items_from ps s (suc n) = get_or ps (s % longest_window) no_pair ∷ items_from ps (s + 1) n
