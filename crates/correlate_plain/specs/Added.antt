-- A row that holds sums, and what is added to it, cell by cell.
--   plus held f i         cell i of what is held, plus f i
--   three_terms w s i j    the terms of cells j, j + 1 and j + 2 of the window of cell i, in one sum
--   four_terms w s i j     those of cells j to j + 3
--   added_to held w s n i  cell i of what is held, plus the first n terms of its window
--   AddNeeds w s held      weights, line and row are as the sums ask, and the row holds at most 2^61 in size
--   Passed w s out        the same for one pass along the row, which then holds at most 2^62
use Rattle.std.specs.Prelude.{ℕ, ◌+◌, ◌^◌, ◌≡◌, false, List, ℤ, pos, neg_ℤ, ◌+ℤ◌, length, get_or}
use Rattle.numbers.specs.Lists.{any_of}
use Rattle.numbers.specs.Ranges.{outside_z}
use Rattle.correlate_spec.specs.Weighed.{whole_ops, cell_term, plain_to}
use Rattle.correlate_spec.specs.Sizes.{LineSumNeeds}

abbrev pub plus : List ℤ → (ℕ → ℤ) → ℕ → ℤ
plus held f i = get_or held i (pos 0) +ℤ f i

abbrev pub three_terms : List ℤ → List ℤ → ℕ → ℕ → ℤ
three_terms w s i j = cell_term whole_ops w s i j +ℤ cell_term whole_ops w s i (j + 1) +ℤ cell_term whole_ops w s i (j + 2)

abbrev pub four_terms : List ℤ → List ℤ → ℕ → ℕ → ℤ
four_terms w s i j = three_terms w s i j +ℤ cell_term whole_ops w s i (j + 3)

abbrev pub added_to : List ℤ → List ℤ → List ℤ → ℕ → ℕ → ℤ
added_to held w s n = plus held (plain_to whole_ops w s n)

pub record AddNeeds (w s held : List ℤ) : Type 0 where
  pub line : LineSumNeeds w s (length held)
  pub small : any_of (outside_z (neg_ℤ (pos (2 ^ 61))) (pos (2 ^ 61))) held ≡ false

pub record Passed (w s out : List ℤ) : Type 0 where
  pub line : LineSumNeeds w s (length out)
  pub small : any_of (outside_z (neg_ℤ (pos (2 ^ 62))) (pos (2 ^ 62))) out ≡ false
