-- The sums row by row are the sums of the definition: on three axes, and on fewer, where an outer axis of one cell is added.
-- Assumes nothing.
use mathlib.Core.Path.{◌≡◌, refl, sym, ap, subst, ◌∙◌}
use mathlib.Core.List.{List, [], ◌∷◌, ◌++◌}
use Prim.Native.Nat.{ℕ, zero, suc, ◌+◌, ◌*◌, ◌/◌, ◌%◌, ◌<◌}
use native.Mathlib.Nat.{mul-one, mul_comm, mul_assoc, div-one, div-div-eq-div-mul, mod-eq_of_lt, div-eq_of_lt, suc-mul, add-zero, add-suc}
use native.Mathlib.Omega.{arith}
use lib.Arith.{digits_lt, digits_div, digits_mod}
use lib.IntN.{ℤ, pos, ◌+ℤ◌, ◌-ℤ◌, ◌*ℤ◌, +ℤ_idr, +ℤ_assoc}
use lib.ListN.{length, get_or}
use Rattle.array_spec.specs.Grid.{cell_count, length_of, place_of, coordinate}
use Rattle.array_spec.proofs.Places.{Positive}
use Rattle.array_spec.proofs.Strides.{coordinate_digit}
use Rattle.border.specs.Border.{Border, constant, along, cell_for, own_constant, outer_constants, cell_under, extended_grid_by, extended_grid}
use Rattle.correlate_spec.specs.Weighed.{summed}
use Rattle.correlate_spec.proofs.Summed.{summed_agree}
use Rattle.correlate_grid_axes.specs.declared.axes.Axis.{Axis}
use Rattle.correlate_grid_axes.specs.Axes.{read_at, KernelNeeds}
use Rattle.correlate_grid_row.specs.ByRows.{three, row_sum, rows_to}
use Rattle.correlate_grid.proofs.EveryRow.{sum_at}

-- ---- summing over all cells is summing row by row
sum_split : (f : ℕ → ℤ) (m n : ℕ) → summed ◌+ℤ◌ (pos 0) f (m + n) ≡ summed ◌+ℤ◌ (pos 0) f m +ℤ summed ◌+ℤ◌ (pos 0) (λ j. f (m + j)) n
unfolding summed
sum_split f m zero = ap (summed ◌+ℤ◌ (pos 0) f) (add-zero m) ∙ sym (+ℤ_idr (summed ◌+ℤ◌ (pos 0) f m))
sum_split f m (suc n) =
    ap (summed ◌+ℤ◌ (pos 0) f) (add-suc m n)
    ∙ ap (λ (x : ℤ). x +ℤ f (m + n)) (sum_split f m n)
    ∙ +ℤ_assoc (summed ◌+ℤ◌ (pos 0) f m) (summed ◌+ℤ◌ (pos 0) (λ j. f (m + j)) n) (f (m + n))

sum_rows : (f : ℕ → ℤ) (n m : ℕ) → summed ◌+ℤ◌ (pos 0) f (m * n) ≡ summed ◌+ℤ◌ (pos 0) (λ q. summed ◌+ℤ◌ (pos 0) (λ j. f (q * n + j)) n) m
unfolding summed
sum_rows f n zero = ap (summed ◌+ℤ◌ (pos 0) f) (none n)
  where
    none : (n : ℕ) → 0 * n ≡ 0
    none n = omega arith
sum_rows f n (suc m) =
    ap (summed ◌+ℤ◌ (pos 0) f) (suc-mul m n) ∙ sum_split f (m * n) n
    ∙ ap (λ (x : ℤ). x +ℤ summed ◌+ℤ◌ (pos 0) (λ j. f (m * n + j)) n) (sum_rows f n m)

-- the sum of a window that starts lefts a places before the cell on axis a
abbrev pub sum_by : Border ℤ → (ℕ → ℕ) → List ℕ → List ℤ → List ℕ → List ℤ → ℕ → ℤ
sum_by b lefts sides w ns cells k =
    summed ◌+ℤ◌ (pos 0) (λ t. extended_grid (pos 0) b ns cells (λ a. pos (coordinate ns k a) -ℤ pos (lefts a) +ℤ pos (coordinate sides t a)) *ℤ get_or w t (pos 0)) (length w)

-- ---- three axes
module _ (a b c k : ℕ) (pa : 0 < a) (pb : 0 < b) (pc : 0 < c) (h : k < a * (b * (c * 1))) where
  full : Positive (a ∷ b ∷ c ∷ [])
  full = (pa, (pb, (pc, tt)))

  first-coordinate : coordinate (a ∷ b ∷ c ∷ []) k 0 ≡ k / c / b
  unfolding coordinate
  first-coordinate = ap (λ (x : ℕ). k / (b * x)) (mul-one c) ∙ ap (λ (x : ℕ). k / x) (mul_comm b c) ∙ sym (div-div-eq-div-mul k c b)

  second-coordinate : coordinate (a ∷ b ∷ c ∷ []) k 1 ≡ k / c % b
  second-coordinate = coordinate_digit (a ∷ b ∷ c ∷ []) 1 k full (omega arith) h ∙ ap (λ (x : ℕ). k / x % b) (mul-one c)

  third_coordinate : coordinate (a ∷ b ∷ c ∷ []) k 2 ≡ k % c
  third_coordinate = coordinate_digit (a ∷ b ∷ c ∷ []) 2 k full (omega arith) h ∙ ap (λ (x : ℕ). x % c) (div-one k)

-- a level on three axes depends on three coordinates
level-three : (b : Border ℤ) (n m l : ℕ) (cells : List ℤ) (q : ℕ → ℤ) → extended_grid (pos 0) b (n ∷ m ∷ l ∷ []) cells q ≡ extended_grid (pos 0) b (n ∷ m ∷ l ∷ []) cells (three (q 0) (q 1) (q 2))
unfolding extended_grid_by outer_constants place_of
level-three b n m l cells q = refl

pub count_three : (a b c : ℕ) → a * (b * (c * 1)) ≡ a * b * c
count_three a b c = ap (λ (x : ℕ). a * (b * x)) (mul-one c) ∙ sym (mul_assoc a b c)

module _ {b : Border ℤ} {x y z : Axis} {w cells : List ℤ} (L : KernelNeeds b x y z w cells) (lefts : ℕ → ℕ) (ex : lefts 0 ≡ x.left) (ey : lefts 1 ≡ y.left) (ez : lefts 2
    ≡ z.left) (k : ℕ) (h : k < x.len * y.len * z.len) where
  abbrev ns : List ℕ
  ns = x.len ∷ y.len ∷ z.len ∷ []

  abbrev sides : List ℕ
  sides = x.side ∷ y.side ∷ z.side ∷ []

  in_grid : k < x.len * (y.len * (z.len * 1))
  in_grid = subst (λ (m : ℕ). k < m) (sym (count_three x.len y.len z.len)) h

  -- the term of cell j of kernel row q
  module _ (q j : ℕ) (hq : q < x.side * y.side) (hj : j < z.side) where
    abbrev t : ℕ
    t = q * z.side + j

    in_kernel : t < x.side * (y.side * (z.side * 1))
    in_kernel = subst (λ (m : ℕ). t < m) (sym (count_three x.side y.side z.side)) (digits_lt hq hj)

    on_first_lem : pos (coordinate ns k 0) -ℤ pos (lefts 0) +ℤ pos (coordinate sides t 0) ≡ read_at x (k / z.len / y.len) (q / y.side)
    on_first_lem =
        (λ i. pos (first-coordinate x.len y.len z.len k L.planes.some L.rows.some L.row.some in_grid i) -ℤ pos (ex i)
        +ℤ pos ((first-coordinate x.side y.side z.side t L.planes.some_side L.rows.some_side L.row.some_side in_kernel ∙ ap (λ (m : ℕ). m / y.side) (digits_div q hj)) i))

    on_second : pos (coordinate ns k 1) -ℤ pos (lefts 1) +ℤ pos (coordinate sides t 1) ≡ read_at y (k / z.len % y.len) (q % y.side)
    on_second =
        (λ i. pos (second-coordinate x.len y.len z.len k L.planes.some L.rows.some L.row.some in_grid i) -ℤ pos (ey i)
        +ℤ pos ((second-coordinate x.side y.side z.side t L.planes.some_side L.rows.some_side L.row.some_side in_kernel ∙ ap (λ (m : ℕ). m % y.side) (digits_div q hj)) i))

    on_third : pos (coordinate ns k 2) -ℤ pos (lefts 2) +ℤ pos (coordinate sides t 2) ≡ read_at z (k % z.len) j
    on_third =
        (λ i. pos (third_coordinate x.len y.len z.len k L.planes.some L.rows.some L.row.some in_grid i) -ℤ pos (ez i)
        +ℤ pos ((third_coordinate x.side y.side z.side t L.planes.some_side L.rows.some_side L.row.some_side in_kernel ∙ digits_mod q hj) i))

    term_is : extended_grid (pos 0) b ns cells (λ a. pos (coordinate ns k a) -ℤ pos (lefts a) +ℤ pos (coordinate sides t a)) *ℤ get_or w t (pos 0)
        ≡ extended_grid (pos 0) b ns cells (three (read_at x (k / z.len / y.len) (q / y.side)) (read_at y (k / z.len % y.len) (q % y.side)) (read_at z (k % z.len) j)) *ℤ get_or w t (pos 0)
    term_is =
        ap (λ (v : ℤ). v *ℤ get_or w t (pos 0))
        (level-three b x.len y.len z.len cells (λ a. pos (coordinate ns k a) -ℤ pos (lefts a) +ℤ pos (coordinate sides t a))
        ∙ (λ i. extended_grid (pos 0) b ns cells (three (on_first_lem i) (on_second i) (on_third i))))

  pub sum-three : sum_by b lefts (x.side ∷ y.side ∷ z.side ∷ []) w (x.len ∷ y.len ∷ z.len ∷ []) cells k ≡ sum_at b x y z w cells k
  unfolding rows_to row_sum
  sum-three =
      ap (summed ◌+ℤ◌ (pos 0) _) L.many
      ∙ sum_rows _ z.side (x.side * y.side)
      ∙ summed_agree ◌+ℤ◌ (pos 0) _ _ (x.side * y.side) (λ q hq. summed_agree ◌+ℤ◌ (pos 0) _ _ z.side (λ j hj. term_is q j hq hj))

-- ---- an outer axis of one cell
level-lifted : (b : Border ℤ) (ns : List ℕ) (cells : List ℤ) (q : ℕ → ℤ) → q 0 ≡ pos 0 → extended_grid (pos 0) b (1 ∷ ns) cells q ≡ extended_grid (pos 0) b ns cells (λ a. q (suc a))
unfolding extended_grid_by outer_constants place_of cell_for
level-lifted b ns cells q e = (λ i. level (e i)) ∙ at_front_lem b
  where
    others : List ℤ
    others = outer_constants (λ _. b) ns (λ a. q (suc a))

    place : ℕ
    place = place_of ns (λ a. cell_under b (length_of ns a) (q (suc a)))

    level : ℤ → ℤ
    level u = get_or (own_constant b 1 u ++ others) 0 (get_or cells (cell_under b 1 u * cell_count ns + place) (pos 0))

    front : (m p : ℕ) → 0 * m + p ≡ p
    front m p = omega arith

    at_front_lem : (b : Border ℤ) → get_or (own_constant b 1 (pos 0) ++ others) 0 (get_or cells (cell_under b 1 (pos 0) * cell_count ns + place) (pos 0)) ≡ get_or others 0 (get_or cells place (pos 0))
    at_front_lem (constant c) = ap (λ (k : ℕ). get_or others 0 (get_or cells k (pos 0))) (front (cell_count ns) place)
    at_front_lem (along m) = ap (λ (k : ℕ). get_or others 0 (get_or cells k (pos 0))) (front (cell_count ns) place)

abbrev pub lifted : (ℕ → ℕ) → ℕ → ℕ
lifted lefts zero = 0
lifted lefts (suc a) = lefts a

module _ (b : Border ℤ) (lefts : ℕ → ℕ) (sides : List ℕ) (w : List ℤ) (ns : List ℕ) (cells : List ℤ) (k : ℕ) (h : k < cell_count ns) (many : length w ≡ cell_count sides) where
  abbrev at : ℕ → ℕ → ℤ
  at t a = pos (coordinate (1 ∷ ns) k a) -ℤ pos (lifted lefts a) +ℤ pos (coordinate (1 ∷ sides) t a)

  at_front_lem : (t : ℕ) → t < cell_count sides → at t 0 ≡ pos 0
  unfolding coordinate
  at_front_lem t l = (λ i. pos (div-eq_of_lt h i) -ℤ pos 0 +ℤ pos (div-eq_of_lt l i))

  at_later : (t : ℕ) → t < cell_count sides → (a : ℕ) → at t (suc a) ≡ pos (coordinate ns k a) -ℤ pos (lefts a) +ℤ pos (coordinate sides t a)
  unfolding coordinate
  at_later t l a = (λ i. pos (coordinate ns (mod-eq_of_lt h i) a) -ℤ pos (lefts a) +ℤ pos (coordinate sides (mod-eq_of_lt l i) a))

  pub sum-lifted : sum_by b (lifted lefts) (1 ∷ sides) w (1 ∷ ns) cells k ≡ sum_by b lefts sides w ns cells k
  sum-lifted =
      summed_agree ◌+ℤ◌ (pos 0) _ _ (length w)
      (λ t l. let c = subst (λ (m : ℕ). t < m) many l in
      ap (λ (v : ℤ). v *ℤ get_or w t (pos 0)) (level-lifted b ns cells (at t) (at_front_lem t c) ∙ (λ i. extended_grid (pos 0) b ns cells (λ a. at_later t c a i))))
