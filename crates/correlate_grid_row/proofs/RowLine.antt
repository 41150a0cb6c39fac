-- The padded row, or the constant all along: how it is loaded, how long it is, that its cells are those of the extended grid, and that it is small enough for the sums of a line.
-- Assumes nothing.
use mathlib.Core.Path.{◌≡◌, refl, sym, ap, subst, ◌∙◌}
use mathlib.Core.Bool.{Bool, true, false, ◌&&◌, cond, and-true, true≢false}
use mathlib.Core.List.{List, [], ◌∷◌, ◌++◌, append-nil}
use Prim.Native.Nat.{ℕ, ◌+◌, ◌*◌, ◌≤◌, ◌<◌, ◌-◌, ◌^◌}
use native.Mathlib.Nat.{add-mul, mul_assoc, mul-one}
use native.Mathlib.Omega.{arith}
use borrow.Author.Tests.{eq-eqb, ne_eqb, ltb-true}
use lib.Arith.{digits_lt}
use lib.Dec.{eqb}
use lib.IntN.{ℤ, pos, negsuc, nat_abs, ◌-ℤ◌, neg_ℤ}
use lib.ListN.{length, get_or, replicate, length-replicate, get_or-replicate, drop, drop_of_length-le}
use Rattle.numbers.specs.Lists.{any_of}
use Rattle.numbers.proofs.Tabulate.{tabulate-replicate}
use Rattle.numbers.proofs.Tests.{cond_yes, cond_no, or_false, or_no}
use Rattle.array_spec.specs.Grid.{place_of}
use Rattle.lanes.specs.Lanes.{lane, lane_base, lane_at}
use Rattle.lanes.proofs.Cells.{length-lane_at, base_neighbours}
use Rattle.border.specs.Border.{Border, constant, along, cell_for, inside, all_inside, extended_lane, extended_grid}
use Rattle.border.specs.Modes.{bad_constant_by}
use Rattle.border.proofs.OneBorder.{under_constant, under_cells}
use Rattle.pad_line.specs.Line.{padded_at, padded_line, PadNeeds}
use Rattle.pad_line.proofs.Padded.{length-padded, get_d_padded}
use Rattle.pad_line.proofs.EveryPadded.{any_table, any_padded}
use Rattle.correlate_grid_axes.specs.declared.axes.Axis.{Axis}
use Rattle.correlate_grid_axes.specs.Axes.{Serves, source_for, KernelNeeds}
use Rattle.correlate_grid_row.specs.ByRows.{three, row_for, constant_of, row_line}
use Rattle.correlate_grid_axes.proofs.Lines.{lane_row}
use Rattle.correlate_grid_axes.proofs.Sources.{ReadsIn}
use Rattle.numbers.specs.Ranges.{outside_z}
use Rattle.numbers.proofs.Size.{size_le, size_inside, inside_sized}
use Rattle.array_spec.specs.Conditions.{bad_level}
use Rattle.correlate_spec.specs.Sizes.{LineSumNeeds}

module _ (b : Border ℤ) (z : Axis) (none row : ℕ) (cells : List ℤ) where
  abbrev total : ℕ
  total = z.left + z.len + z.right

  abbrev padded : List ℤ
  padded = padded_line (pos 0) b z.left z.right (lane (pos 0) z.len 1 row cells)

  long : length padded ≡ total
  long =
      let s = lane (pos 0) z.len 1 row cells in
      length-padded (pos 0) z.left s b z.right ∙ ap (λ (n : ℕ). z.left + n + z.right) (length-lane_at (pos 0) cells (lane_base z.len 1 row) 1 z.len)

  -- ---- which line it is
  line-none : row ≡ none → row_line b z none row cells ≡ replicate total (constant_of b)
  unfolding row_line
  line-none e = cond_yes (eqb row none) (replicate total (constant_of b)) padded (eq-eqb row none e)

  line_some : (row ≡ none → ⊥) → row_line b z none row cells ≡ padded
  unfolding row_line
  line_some h = cond_no (eqb row none) (replicate total (constant_of b)) padded (ne_eqb row none h)

  -- ---- as the code loads it
  pub loaded_none : {c : ℤ} (line : List ℤ) {filled : List ℤ} → row ≡ none → length line ≡ z.left + z.len + z.right → c ≡ constant_of b → filled ≡ replicate (length line) c → filled
      ≡ row_line b z none row cells
  loaded_none line h k q e = e ∙ (λ j. replicate (k j) (q j)) ∙ sym (line-none h)

  -- what padding the row supposes
  pub row_padding : (line : List ℤ) → Serves b z → row * z.len + z.len ≤ length cells → length line
      ≡ z.left + z.len + z.right → PadNeeds b z.len 1 (row * z.len) z.left z.right cells line
  row_padding line S i k = record { some = S.some; inside = omega (arith, S.some, mul-one z.len); fits = omega arith; fills_left = S.fills_left; fills_right = S.fills_right }

  pub loaded_some : (line : List ℤ) {new : List ℤ} → (row ≡ none → ⊥) → length line ≡ z.left + z.len + z.right
      → new ≡ padded_line (pos 0) b z.left z.right (lane_at (pos 0) cells (row * z.len) 1 z.len) ++ drop (z.left + z.len + z.right) line → new ≡ row_line b z none row cells
  loaded_some line {new} h k e =
      e ∙ (λ j. padded_line (pos 0) b z.left z.right (lane_at (pos 0) cells (sym (base_neighbours z.len row) j) 1 z.len)
      ++ drop_of_length-le line {i = z.left + z.len + z.right} (omega arith) j)
      ∙ append-nil padded ∙ sym (line_some h)

  -- ---- its length, and a test that fails of all its cells
  pub length-line : length (row_line b z none row cells) ≡ z.left + z.len + z.right
  unfolding row_line
  length-line = go (eqb row none)
    where
      go : (t : Bool) → length (cond t (replicate total (constant_of b)) padded) ≡ total
      go true = length-replicate total (constant_of b)
      go false = long

  pub any_line : (t : ℤ → Bool) → t (pos 0) ≡ false → bad_constant_by t b ≡ false → any_of t cells ≡ false → any_of t (row_line b z none row cells) ≡ false
  unfolding row_line
  any_line t o q e = go (eqb row none)
    where
      level : (b : Border ℤ) → bad_constant_by t b ≡ false → t (constant_of b) ≡ false
      level (constant c) h = h
      level (along m) h = o

      go : (s : Bool) → any_of t (cond s (replicate total (constant_of b)) padded) ≡ false
      go true = subst (λ (l : List ℤ). any_of t l ≡ false) (tabulate-replicate (constant_of b) 0 total) (any_table t (λ k. constant_of b) 0 total (λ k. level b q))
      go false = any_padded t (pos 0) b z.left z.right z.len 1 (lane_base z.len 1 row) cells o q e

-- ---- the cells of a row that is in the grid
module _ (n : ℕ) (s : List ℤ) (long : length s ≡ n) (f : ℕ → ℤ) (own : (i : ℕ) → i < n → get_or s i (pos 0) ≡ f i) where
  held : (y : ℤ) (c : ℤ) (t : Bool) → inside n y ≡ t → cond t (get_or s (nat_abs y) (pos 0)) c ≡ cond t (f (nat_abs y)) c
  held (pos i) c true e = own i (ltb-true i n e)
  held (negsuc i) c true e = absurd (true≢false (sym e))
  held y c false e = refl

  extended_row : (b : Border ℤ) (y : ℤ) → ReadsIn b n y → extended_lane b (length s) (λ i. get_or s i (pos 0)) y ≡ extended_lane b n f y
  unfolding extended_lane
  extended_row (constant c) y r = ap (λ (x : ℕ). cond (inside x y) (get_or s (nat_abs y) (pos 0)) c) long ∙ held y c (inside n y) refl
  extended_row (along m) y r = ap (λ (x : ℕ). get_or s (cell_for m x y) (pos 0)) long ∙ own (cell_for m n y) r

row_cell : (b : Border ℤ) (z : Axis) (none row : ℕ) (cells : List ℤ) (k : ℕ) → k < z.left + z.len + z.right → ReadsIn b z.len (pos k -ℤ pos z.left) → (row ≡ none → ⊥)
    → get_or (row_line b z none row cells) k (pos 0) ≡ extended_lane b z.len (λ i. get_or cells (row * z.len + i) (pos 0)) (pos k -ℤ pos z.left)
unfolding padded_at
row_cell b z none row cells k h r o =
    let s = lane (pos 0) z.len 1 row cells in
    let e = length-lane_at (pos 0) cells (lane_base z.len 1 row) 1 z.len in
    ap (λ (x : List ℤ). get_or x k (pos 0)) (line_some b z none row cells o) ∙ get_d_padded (pos 0) z.left s b z.right k (omega (arith, e))
    ∙ extended_row z.len s e (λ i. get_or cells (row * z.len + i) (pos 0)) (λ i l. lane_row (pos 0) z.len row cells i l) b (pos k -ℤ pos z.left) r

-- ---- the cells of the extended grid
place_row : (x y i b c : ℕ) → (x * b + y) * c + i ≡ x * (b * (c * 1)) + (y * (c * 1) + (i * 1 + 0))
place_row x y i b c = omega (arith, add-mul (x * b) y c, mul_assoc x b c) ∙ (λ j. x * (b * sym (mul-one c) j) + (y * sym (mul-one c) j + (i * 1 + 0)))

below : {i j n m : ℕ} → i < n → j < m → i * m + j ≡ n * m → ⊥
below h l e = omega (arith, digits_lt h l)

module _ (z : Axis) (n m : ℕ) (cells : List ℤ) (k : ℕ) (h : k < z.left + z.len + z.right) where
  abbrev y : ℤ
  y = pos k -ℤ pos z.left

  none-cell : (c : ℤ) → get_or (row_line (constant c) z (n * m) (n * m) cells) k (pos 0) ≡ c
  none-cell c = ap (λ (x : List ℤ). get_or x k (pos 0)) (line-none (constant c) z (n * m) (n * m) cells refl) ∙ get_or-replicate (z.left + z.len + z.right) k c (pos 0) h

  constant_cell : (c : ℤ) (i j : ℕ) → i < n → j < m
      → get_or (row_line (constant c) z (n * m) (i * m + j) cells) k (pos 0) ≡ cond (inside z.len y && true) (get_or cells (i * (m * (z.len * 1)) + (j * (z.len * 1) + (nat_abs y * 1 + 0))) (pos 0)) c
  unfolding extended_lane
  constant_cell c i j p q =
      row_cell (constant c) z (n * m) (i * m + j) cells k h tt (below p q)
      ∙ (λ t. cond (sym (and-true (inside z.len y)) t) (get_or cells (place_row i j (nat_abs y) m z.len t) (pos 0)) c)

  constant_level : (c u v : ℤ) (s t : Bool) → inside n u ≡ s → inside m v ≡ t → get_or (row_line (constant c) z (n * m) (row_for (cond s u (negsuc 0)) (cond t v (negsuc 0)) m (n * m)) cells) k (pos 0)
      ≡ cond (s && (t && (inside z.len y && true))) (get_or cells (nat_abs u * (m * (z.len * 1)) + (nat_abs v * (z.len * 1) + (nat_abs y * 1 + 0))) (pos 0)) c
  constant_level c u v false t p q = none-cell c
  constant_level c (negsuc i) v true t p q = absurd (true≢false (sym p))
  constant_level c (pos i) v true false p q = none-cell c
  constant_level c (pos i) (negsuc j) true true p q = absurd (true≢false (sym q))
  constant_level c (pos i) (pos j) true true p q = constant_cell c i j (ltb-true i n p) (ltb-true j m q)

  -- the row that the sources of u and v name holds the extended grid at u and v
  pub row_level : (b : Border ℤ) (u v : ℤ) → ReadsIn b n u → ReadsIn b m v → ReadsIn b z.len (pos k -ℤ pos z.left)
      → get_or (row_line b z (n * m) (row_for (source_for b n u) (source_for b m v) m (n * m)) cells) k (pos 0) ≡ extended_grid (pos 0) b (n ∷ m ∷ z.len ∷ []) cells (three u v (pos k -ℤ pos z.left))
  unfolding source_for all_inside place_of extended_lane
  row_level (constant c) u v p q r = constant_level c u v (inside n u) (inside m v) refl refl ∙ sym (under_constant (pos 0) c (n ∷ m ∷ z.len ∷ []) cells (three u v y))
  row_level (along a) u v p q r =
      row_cell (along a) z (n * m) (cell_for a n u * m + cell_for a m v) cells k h r (below p q)
      ∙ ap (λ (i : ℕ). get_or cells i (pos 0)) (place_row (cell_for a n u) (cell_for a m v) (cell_for a z.len y) m z.len)
      ∙ sym (under_cells (pos 0) a (n ∷ m ∷ z.len ∷ []) cells (three u v y))

-- ---- a level is within the limit of a line's cells
any_imp : {A : Type 0} (t u : A → Bool) → ((x : A) → t x ≡ false → u x ≡ false) → (s : List A) → any_of t s ≡ false → any_of u s ≡ false
any_imp t u f [] e = refl
any_imp t u f (x ∷ s) e = let p = or_false (t x) (any_of t s) e in or_no (u x) (any_of u s) (f x p.0) (any_imp t u f s p.1)

level_wide : (x : ℤ) → bad_level x ≡ false → outside_z (neg_ℤ (pos (2 ^ 38))) (pos (2 ^ 38)) x ≡ false
unfolding bad_level
level_wide x e = inside_sized (2 ^ 38) x (size_le (size_inside (2 ^ 31 - 1) x e) (omega arith))

constant_wide : (b : Border ℤ) → bad_constant_by bad_level b ≡ false → bad_constant_by (outside_z (neg_ℤ (pos (2 ^ 38))) (pos (2 ^ 38))) b ≡ false
constant_wide (constant c) e = level_wide c e
constant_wide (along m) e = refl

-- a padded row and the weights v of a kernel row
pub row_weighable : {b : Border ℤ} {x y z : Axis} {w cells : List ℤ} → KernelNeeds b x y z w cells → (none row : ℕ) (v s : List ℤ) (n : ℕ) → length v ≡ z.side
    → any_of (outside_z (neg_ℤ (pos 65535)) (pos 65535)) v ≡ false → s ≡ row_line b z none row cells → n ≡ z.len → LineSumNeeds v s n
row_weighable {b} {x} {y} {z} {w} {cells} L none row v s n many small e k =
    let S = L.row in
    let l : length s ≡ z.left + z.len + z.right = ap length e ∙ length-line b z none row cells in record {
      some = omega (arith, S.some_side);
      few = omega (arith, S.wide, S.pads);
      long = omega (arith, S.wide);
      short = omega (arith, S.short, S.pads);
      weights = small;
      cells =
          ap (any_of (outside_z (neg_ℤ (pos (2 ^ 38))) (pos (2 ^ 38)))) e
          ∙ any_line b z none row cells _ refl (constant_wide b L.level) (any_imp bad_level _ level_wide cells L.levels);
    }
