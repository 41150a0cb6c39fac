-- What the entry points read from and write to slices where the libraries take and give values.
--   pair_at lefts rights i     the pads at place i of two slices, 0 past the end of either
--   pairs_of lefts rights      the three pairs of pads that `pad` takes
--   kernel_cell k i            cell i of the 27 of a kernel, the last axis fastest
--   kernel_cells k             all of them
--   cells_judged len           what `kernel3d` refuses: 2, a lent slice that has not 27 cells
use Rattle.std.specs.Prelude.{ℕ, ◌/◌, ◌%◌, Bool, false, not, List, [], ◌∷◌, eqb, get_or}
use Rattle.numbers.specs.Lists.{tabulate}
use Rattle.numbers.specs.Refusal.{Judged}
use Rattle.pad_spec.specs.declared.pairs.Pair.{Pair}
use Rattle.kernel3d.specs.Shape.{shape}
use Rattle.kernel3d.specs.declared.Kernel3d.{Kernel3d}

abbrev pub pair_at : List ℕ → List ℕ → ℕ → Pair
pair_at lefts rights i = record { left = get_or lefts i 0; right = get_or rights i 0 }

abbrev pub pairs_of : List ℕ → List ℕ → List Pair
pairs_of lefts rights = pair_at lefts rights 0 ∷ pair_at lefts rights 1 ∷ pair_at lefts rights 2 ∷ []

abbrev pub kernel_cell : Kernel3d → ℕ → Bool
kernel_cell k i = get_or (get_or (get_or (shape k) (i / 9) []) (i / 3 % 3) []) (i % 3) false

abbrev pub kernel_cells : Kernel3d → List Bool
kernel_cells k = tabulate (kernel_cell k) 0 27

abbrev pub cells_judged : ℕ → Judged
cells_judged len = (not (eqb len 27), 2) ∷ []
