-- The votes of a row are its medians: the sums over three axes in another order, at the coordinates of a place.
-- Assumes nothing.
use mathlib.Core.Path.{◌≡◌, sym, ap, ◌∙◌}
use mathlib.Core.Bool.{Bool, true, false}
use mathlib.Core.List.{List, [], ◌∷◌}
use Prim.Native.Nat.{ℕ, zero, suc, ◌+◌, ◌-◌, ◌*◌, ◌/◌, ◌%◌, ◌≤◌, ◌<◌, min}
use native.Mathlib.Nat.{mul-one, mul_assoc, add-mul, mod-lt, div-add-mod', div-lt_iff_lt-mul}
use native.Mathlib.Omega.{arith}
use borrow.Author.Tests.{ltb-true, ltb-false, not-true}
use lib.Dec.{ltb}
use lib.ListN.{length, get_or}
use Rattle.numbers.proofs.Tests.{and_true}
use Rattle.array_spec.specs.Grid.{place_of, coordinate, level_at}
use Rattle.array_spec.proofs.Places.{Within, coordinate_place}
use Rattle.median_spec.specs.declared.Span.{Span}
use Rattle.median_spec.specs.Around.{around, total, one, cells_around, true_around, median_at}
use Rattle.median_spec.specs.ByRows.{span_of, cell_of, column_count, voted_at, in_row, median_of_place}
use Rattle.median_spec.proofs.Totals.{length-up_to, total_agree, total_swap}

module _ (planes rows n : ℕ) (mask : List Bool) where
  abbrev ns : List ℕ
  ns = planes ∷ rows ∷ n ∷ []

  abbrev three : ℕ → ℕ → ℕ → ℕ → ℕ
  three x y z a = get_or (x ∷ y ∷ z ∷ []) a 0

  place_three : (x y z : ℕ) → place_of ns (three x y z) ≡ (x * rows + y) * n + z
  unfolding place_of
  place_three x y z = (λ j. x * (rows * mul-one n j) + (y * mul-one n j + (z * 1 + 0))) ∙ omega (arith, add-mul (x * rows) y n, mul_assoc x rows n)

  -- the three sums, the row's own axis first
  column_sum : (xs ys zs : List ℕ) → total (λ x. total (λ y. total (λ z. one (level_at false ns mask (three x y z))) zs) ys) xs
      ≡ total (λ z. total (λ x. total (λ y. cell_of mask rows n x y z) ys) xs) zs
  column_sum xs ys zs =
      (λ i. total (λ x. total (λ y. total (λ z. one (get_or mask (place_three x y z i) false)) zs) ys) xs)
      ∙ (λ i. total (λ x. total_swap (λ y z. cell_of mask rows n x y z) ys zs i) xs)
      ∙ total_swap (λ x z. total (λ y. cell_of mask rows n x y z) ys) xs zs

  -- the median at three coordinates
  abbrev votes : ℕ → ℕ → ℕ → Bool
  votes x y z = ltb ((length (around planes x) * length (around rows y) * length (around n z) - 1) / 2) (total (column_count mask rows n (span_of planes x) (span_of rows y)) (around n z))

  median_at_lem : (p : ℕ → ℕ) → median_at ns mask p ≡ votes (p 0) (p 1) (p 2)
  unfolding cells_around true_around
  median_at_lem p = ap (ltb ((length (around planes (p 0)) * length (around rows (p 1)) * length (around n (p 2)) - 1) / 2)) (column_sum (around planes (p 0)) (around rows (p 1)) (around n (p 2)))

  module _ (x y z : ℕ) (hx : x < planes) (hy : y < rows) (hz : z < n) where
    within : Within ns (three x y z)
    within zero l = hx
    within (suc zero) l = hy
    within (suc (suc zero)) l = hz
    within (suc (suc (suc a))) l = absurd (omega arith)

    at : (a : ℕ) → a < 3 → coordinate ns ((x * rows + y) * n + z) a ≡ three x y z a
    at a l = ap (λ (k : ℕ). coordinate ns k a) (sym (place_three x y z)) ∙ coordinate_place ns (three x y z) within a l

    median_three : median_of_place planes rows n mask ((x * rows + y) * n + z) ≡ votes x y z
    median_three = median_at_lem (coordinate ns ((x * rows + y) * n + z)) ∙ (λ i. votes (at 0 (omega arith) i) (at 1 (omega arith) i) (at 2 (omega arith) i))

  -- ---- row r, from the counts of its columns
  module _ (r : ℕ) (h : r < planes * rows) (some : 0 < rows) {xs ys : Span} (ex : xs ≡ span_of planes (r / rows)) (ey : ys ≡ span_of rows (r % rows))
      (c : List ℕ) (long : length c ≡ n) (cells : (z : ℕ) → z < n → get_or c z 0 ≡ column_count mask rows n xs ys z) where
    abbrev m : ℕ
    m = (xs.to - xs.from) * (ys.to - ys.from)

    rows-around : m ≡ length (around planes (r / rows)) * length (around rows (r % rows))
    rows-around =
        (λ i. ((ex i).to - (ex i).from) * ((ey i).to - (ey i).from))
        ∙ sym (λ i. length-up_to (r / rows - 1) (min (r / rows + 2) planes) i * length-up_to (r % rows - 1) (min (r % rows + 2) rows) i)

    column_is : (z : ℕ) → total (λ j. get_or c j 0) (around n z) ≡ total (column_count mask rows n (span_of planes (r / rows)) (span_of rows (r % rows))) (around n z)
    column_is z =
        total_agree _ _ (z - 1) (min (z + 2) n)
        (λ j b. cells j (below j b) ∙ (λ i. column_count mask rows n (ex i) (ey i) j))
      where
        below : (j : ℕ) → j < min (z + 2) n → j < n
        below j b = omega arith

    voted_median : (z : ℕ) → z < n → voted_at c m z ≡ median_of_place planes rows n mask (r * n + z)
    voted_median z b =
        (λ i. ltb ((m * length (around (long i) z) - 1) / 2) (total (λ j. get_or c j 0) (around (long i) z)))
        ∙ (λ i. ltb ((rows-around i * length (around n z) - 1) / 2) (column_is z i))
        ∙ sym (median_three (r / rows) (r % rows) z ((div-lt_iff_lt-mul some).1 h) (mod-lt r some) b)
        ∙ ap (λ (q : ℕ). median_of_place planes rows n mask (q * n + z)) (div-add-mod' r rows)

    pub row_median : (k : ℕ) → in_row (r * n) n k ≡ true → voted_at c ((xs.to - xs.from) * (ys.to - ys.from)) (k - r * n) ≡ median_of_place planes rows n mask k
    row_median k e =
        let p = and_true _ _ e in
        let lo : r * n ≤ k = ltb-false k (r * n) (not-true _ p.0) in
        let hi : k < r * n + n = ltb-true k (r * n + n) p.1 in
        let g : r * n + (k - r * n) ≡ k = omega arith in
        voted_median (k - r * n) (omega arith) ∙ ap (median_of_place planes rows n mask) g
