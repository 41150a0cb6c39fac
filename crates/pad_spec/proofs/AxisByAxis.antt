-- The pads and padded lengths axis by axis, as a frame is set.
-- Assumes nothing.
use mathlib.Core.Path.{◌≡◌, sym}
use mathlib.Core.List.{List}
use Prim.Native.Nat.{ℕ, ◌+◌, ◌<◌}
use native.Mathlib.Omega.{arith}
use lib.ListN.{length, get_or}
use Rattle.numbers.specs.Lists.{tabulate}
use Rattle.numbers.proofs.Tabulate.{get_d_tabulate, tabulate_agree}
use Rattle.array_spec.specs.Grid.{length_of}
use Rattle.pad_spec.specs.Pads.{pair_of, lefts_of, rights_of, padded_shape}
use Rattle.pad_spec.specs.declared.pairs.Pair.{Pair}

abbrev pub left_at : List Pair → ℕ → ℕ → ℕ
left_at pads count a = (pair_of pads count a).left

abbrev pub padded_length_at : List ℕ → List Pair → ℕ → ℕ → ℕ
padded_length_at ns pads count a = (pair_of pads count a).left + length_of ns a + (pair_of pads count a).right

pub padded_table : (ns : List ℕ) (pads : List Pair) (count : ℕ) → tabulate (padded_length_at ns pads count) 0 (length ns) ≡ padded_shape ns (lefts_of ns pads count) (rights_of ns pads count)
padded_table ns pads count =
    tabulate_agree (padded_length_at ns pads count) (λ a. get_or (lefts_of ns pads count) a 0 + length_of ns a + get_or (rights_of ns pads count) a 0) 0 (length ns) (λ a h. at (0 + a) (less a h))
  where
    less : (a : ℕ) → a < length ns → 0 + a < length ns
    less a h = omega arith

    at : (a : ℕ) → a < length ns → padded_length_at ns pads count a ≡ get_or (lefts_of ns pads count) a 0 + length_of ns a + get_or (rights_of ns pads count) a 0
    at a h = sym (λ j. get_d_tabulate (λ k. (pair_of pads count k).left) (length ns) a 0 h j + length_of ns a + get_d_tabulate (λ k. (pair_of pads count k).right) (length ns) a 0 h j)
