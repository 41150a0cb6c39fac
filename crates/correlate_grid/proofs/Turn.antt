-- Row j of kernel plane i on row s of plane p: the tables name the row that is read, and its sums are added to those of the kernel rows before it.
-- Assumes nothing.
use mathlib.Core.Path.{◌≡◌, refl, sym, ap, subst, ◌∙◌}
use mathlib.Core.List.{List, [], ◌∷◌}
use Prim.Native.Nat.{ℕ, ◌+◌, ◌*◌, ◌/◌, ◌%◌, ◌≤◌, ◌<◌}
use native.Mathlib.Nat.{le_of_lt}
use native.Mathlib.Omega.{arith}
use lib.Arith.{digits_lt, digits_div, digits_mod}
use lib.IntN.{ℤ, pos, negsuc, nat_abs, ◌+ℤ◌, ◌*ℤ◌}
use lib.ListN.{length, get_or}
use Rattle.numbers.specs.Lists.{tabulate}
use Rattle.numbers.proofs.Size.{Size}
use Rattle.numbers.proofs.Tabulate.{length-tabulate, get_d_tabulate, tabulate_agree}
use Rattle.border.specs.Border.{Border, extended_grid}
use Rattle.correlate_spec.proofs.Summed.{summed_agree, summed-more}
use Rattle.correlate_spec.proofs.Computed.{read, computed_level, computed_read}
use Rattle.correlate_grid_axes.specs.declared.axes.Axis.{Axis}
use Rattle.correlate_grid_axes.specs.Axes.{read_at, source_for, KernelNeeds}
use Rattle.correlate_grid_row.specs.ByRows.{three, row_for, row_line, line_sum, row_sum, rows_to, Mapped, RowSumNeeds, Reading}
use Rattle.correlate_grid_row.proofs.RowLine.{row_level}
use Rattle.correlate_grid_axes.proofs.Sources.{Known, ReadsIn, reads_in, read_place, read_in, table_is, table_known, table_small}
use Rattle.correlate_grid.proofs.SumSizes.{sums_small}

row_below : (n m : ℕ) (s t : ℤ) → Known n s → Known m t → (row_for s t m (n * m) ≡ n * m → ⊥) → row_for s t m (n * m) < n * m
row_below n m (pos i) (pos j) h l o = digits_lt h l
row_below n m (pos i) (negsuc j) h l o = absurd (o refl)
row_below n m (negsuc i) t h l o = absurd (o refl)

small_read : (k : ℤ) → nat_abs k ≤ 1024 → read k ≡ k
small_read k h = let l : Size k 1024 = record { size = h } in computed_read (computed_level l (omega arith))

module _ {b : Border ℤ} {x y z : Axis} {w cells first second : List ℤ} (M : Mapped b x y z w cells first second) {p s i j : ℕ}
    (hp : p < x.len) (hs : s < y.len) (hi : i < x.side) (hj : j < y.side) where
  L : KernelNeeds b x y z w cells
  L = M.laid

  abbrev r : ℕ
  r = p * y.len + s

  abbrev q : ℕ
  q = i * y.side + j

  abbrev u : ℤ
  u = read_at x p i

  abbrev v : ℤ
  v = read_at y s j

  reads_u : ReadsIn b x.len u
  reads_u = read_in b x L.planes p i hp hi

  reads_v : ReadsIn b y.len v
  reads_v = read_in b y L.rows s j hs hj

  pub kernel_in : q < x.side * y.side
  kernel_in = digits_lt hi hj

  -- ---- the row f that the tables name
  module _ {f : ℕ} (e : f ≡ row_for (read (get_or first (p + i) (pos 0))) (read (get_or second (s + j) (pos 0))) y.len (x.len * y.len)) where
    found : f ≡ row_for (get_or first (p + i) (pos 0)) (get_or second (s + j) (pos 0)) y.len (x.len * y.len)
    found =
        e ∙ (λ t. row_for (small_read (get_or first (p + i) (pos 0)) (table_small L.planes M.planes hp hi) t) (small_read (get_or second (s + j) (pos 0)) (table_small L.rows M.rows hs hj) t)
        y.len (x.len * y.len))

    source : f ≡ row_for (source_for b x.len u) (source_for b y.len v) y.len (x.len * y.len)
    source = found ∙ (λ t. row_for (table_is L.planes M.planes hp hi t) (table_is L.rows M.rows hs hj t) y.len (x.len * y.len))

    below : (f ≡ x.len * y.len → ⊥) → f < x.len * y.len
    below o =
        subst (λ (g : ℕ). g < x.len * y.len) (sym found)
        (row_below x.len y.len (get_or first (p + i) (pos 0)) (get_or second (s + j) (pos 0)) (table_known L.planes M.planes hp hi) (table_known L.rows M.rows hs hj)
        (λ d. o (found ∙ d)))

    -- ---- what adding it supposes
    pub reading : {line out : List ℤ} → RowSumNeeds b x y z w cells r q line out → Reading x y z f q line out
    reading S = record {
      inside = below;
      kernel = kernel_in;
      line_long = S.line_long;
      out_long = ap length S.sums ∙ length-tabulate (rows_to b x y z w cells r q) 0 z.len;
      small = sums_small L r q z.len (le_of_lt kernel_in) S.sums;
    }

    -- ---- its sums
    line_is : (c k : ℕ) → c < z.len → k < z.side
        → get_or (row_line b z (x.len * y.len) f cells) (c + k) (pos 0)
        ≡ extended_grid (pos 0) b (x.len ∷ y.len ∷ z.len ∷ []) cells (three (read_at x (r / y.len) (q / y.side)) (read_at y (r % y.len) (q % y.side)) (read_at z c k))
    line_is c k h l =
        let m : c + k < z.left + z.len + z.right = omega (arith, L.row.wide) in
        ap (λ (g : ℕ). get_or (row_line b z (x.len * y.len) g cells) (c + k) (pos 0)) source
        ∙ row_level z x.len y.len cells (c + k) m b u v reads_u reads_v (reads_in b z L.row (c + k) m)
        ∙ (λ t. extended_grid (pos 0) b (x.len ∷ y.len ∷ z.len ∷ []) cells
        (three (read_at x (sym (digits_div p hs) t) (sym (digits_div i hj) t)) (read_at y (sym (digits_mod p hs) t) (sym (digits_mod i hj) t)) (read_place z c k t)))

    sum_is : (c : ℕ) → c < z.len → line_sum b x y z w cells f q c ≡ row_sum b x y z w cells r q c
    unfolding line_sum row_sum
    sum_is c h = summed_agree ◌+ℤ◌ (pos 0) _ _ z.side (λ k l t. line_is c k h l t *ℤ get_or w (q * z.side + k) (pos 0))

    -- one kernel row more
    pub summing_more : {line line' out new : List ℤ} → RowSumNeeds b x y z w cells r q line out → length line' ≡ length line
        → new ≡ tabulate (λ c. get_or out c (pos 0) +ℤ line_sum b x y z w cells f q c) 0 z.len → RowSumNeeds b x y z w cells r (i * y.side + (j + 1)) line' new
    unfolding rows_to
    summing_more {out = out} S l a = record {
      line_long = l ∙ S.line_long;
      sums = a ∙ tabulate_agree _ (rows_to b x y z w cells r (i * y.side + (j + 1))) 0 z.len
          (λ c h. at (0 + c) (omega arith));
    }
      where
        next : q + 1 ≡ i * y.side + (j + 1)
        next = omega arith

        at : (c : ℕ) → c < z.len → get_or out c (pos 0) +ℤ line_sum b x y z w cells f q c ≡ rows_to b x y z w cells r (i * y.side + (j + 1)) c
        at c h =
            (λ t. get_or (S.sums t) c (pos 0) +ℤ sum_is c h t)
            ∙ ap (λ (a : ℤ). a +ℤ row_sum b x y z w cells r q c) (get_d_tabulate (rows_to b x y z w cells r q) z.len c (pos 0) h)
            ∙ summed-more ◌+ℤ◌ (pos 0) (λ q. row_sum b x y z w cells r q c) q
            ∙ ap (λ (m : ℕ). rows_to b x y z w cells r m c) next
