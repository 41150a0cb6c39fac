-- The two loops: the kernel rows on one row, then every row of the grid, one after the other.
-- Assumes nothing.
use mathlib.Core.Path.{◌≡◌, refl, sym, ap, subst, ◌∙◌}
use mathlib.Core.Bool.{Bool, true, false}
use mathlib.Core.List.{List}
use Prim.Native.Nat.{ℕ, ◌+◌, ◌-◌, ◌*◌, ◌/◌, ◌%◌, ◌≤◌, ◌<◌}
use native.Mathlib.Nat.{add-zero, add-mul, div-add-mod'}
use native.Mathlib.Omega.{arith}
use borrow.Author.Tests.{ltb-true, ltb-false}
use borrow.Rule.Slice.PartMut.{put_mid, mid_of, mid_len}
use lib.Arith.{digits_div, digits_mod}
use lib.Dec.{ltb}
use lib.IntN.{ℤ, pos}
use lib.ListN.{length, get_or, replicate}
use Rattle.numbers.specs.Lists.{tabulate}
use Rattle.numbers.proofs.Stored.{Stored}
use Rattle.numbers.proofs.Tabulate.{length-tabulate, get_d_tabulate, tabulate_unique, tabulate-replicate}
use Rattle.numbers.proofs.Tests.{cond_yes, cond_no}
use Rattle.lanes.proofs.Cells.{step_le}
use Rattle.lanes.proofs.Part.{on_row, row_yes, row_no, part_put}
use Rattle.border.specs.Border.{Border}
use Rattle.correlate_spec.specs.Weighed.{summed}
use Rattle.correlate_grid_axes.specs.declared.axes.Axis.{Axis}
use Rattle.correlate_grid_axes.specs.Axes.{KernelNeeds}
use Rattle.correlate_grid_row.specs.ByRows.{rows_to, RowSumNeeds}

-- ---- the first m kernel rows are summed
module _ {b : Border ℤ} {x y z : Axis} {w cells : List ℤ} {r : ℕ} where
  pub summing_none : {line out : List ℤ} (out₀ : List ℤ) → length line ≡ z.left + z.len + z.right → length out₀ ≡ z.len → out ≡ replicate (length out₀) (pos 0)
      → RowSumNeeds b x y z w cells r (0 * y.side) line out
  unfolding rows_to summed
  summing_none out₀ l o e = record {
    line_long = l;
    sums = e ∙ ap (λ (n : ℕ). replicate n (pos 0)) o ∙ sym (tabulate-replicate (pos 0) 0 z.len)
        ∙ ap (λ (m : ℕ). tabulate (rows_to b x y z w cells r m) 0 z.len) none;
  }
    where
      none : 0 ≡ 0 * y.side
      none = omega arith

  pub summing_length : {m : ℕ} {line out : List ℤ} → RowSumNeeds b x y z w cells r m line out → length out ≡ z.len
  summing_length {m} S = ap length S.sums ∙ length-tabulate (rows_to b x y z w cells r m) 0 z.len

  pub summing_start : {m : ℕ} {line out : List ℤ} → RowSumNeeds b x y z w cells r m line out → RowSumNeeds b x y z w cells r (m + 0) line out
  summing_start {m} {line} {out} S = subst (λ (k : ℕ). RowSumNeeds b x y z w cells r k line out) (sym (add-zero m)) S

  -- the sums of as many kernel rows
  pub summing_to : {m : ℕ} {line out : List ℤ} → RowSumNeeds b x y z w cells r m line out → (k : ℕ) → m ≡ k → out ≡ tabulate (rows_to b x y z w cells r k) 0 z.len
  summing_to S k e = S.sums ∙ ap (λ (m : ℕ). tabulate (rows_to b x y z w cells r m) 0 z.len) e

-- ---- the rows below r are stored
abbrev pub sum_at : Border ℤ → Axis → Axis → Axis → List ℤ → List ℤ → ℕ → ℤ
sum_at b x y z w cells k = rows_to b x y z w cells (k / z.len) (x.side * y.side) (k % z.len)

pub record Storing (b : Border ℤ) (x y z : Axis) (w cells : List ℤ) (r : ℕ) (line out : List ℤ) : Type 0 where
  pub line_long : length line ≡ z.left + z.len + z.right
  pub kept : length out ≡ length cells
  pub sums : (k : ℕ) → k < r * z.len → get_or out k (pos 0) ≡ sum_at b x y z w cells k

-- v are the weights as the caller has them
module _ {b : Border ℤ} {x y z : Axis} {v w cells : List ℤ} (L : KernelNeeds b x y z v cells) where
  pub storing_none : {line out : List ℤ} → length line ≡ z.left + z.len + z.right → length out ≡ length cells → Storing b x y z w cells 0 line out
  storing_none l o = record { line_long = l; kept = o; sums = λ k h. absurd (omega arith) }

  module _ {r : ℕ} {line out : List ℤ} (S : Storing b x y z w cells r line out) where
    abbrev a : ℕ
    a = r * z.len

    pub row_room : r < x.len * y.len → r * z.len + z.len ≤ length out
    row_room h = omega (arith, step_le z.len h, S.kept, L.count)

    pub part_long : r < x.len * y.len → length (mid_of (r * z.len) (r * z.len + z.len - r * z.len) out) ≡ z.len
    part_long h = mid_len a (a + z.len) out (row_room h) ∙ omega arith

    -- one row more
    pub storing_more : {line' part out' : List ℤ} → r < x.len * y.len → length line' ≡ length line
        → part ≡ tabulate (rows_to b x y z w cells (r / y.len * y.len + r % y.len) (x.side * y.side)) 0 z.len → out' ≡ put_mid (r * z.len) (r * z.len + z.len - r * z.len) out part
        → Storing b x y z w cells (r + 1) line' out'
    storing_more {line'} {part} {out'} h l f e = record {
      line_long = l ∙ S.line_long;
      kept = ap length e ∙ put.kept ∙ S.kept;
      sums = λ k c. ap (λ (o : List ℤ). get_or o k (pos 0)) e ∙ at k c (ltb k a) refl;
    }
      where
        p : part ≡ tabulate (rows_to b x y z w cells r (x.side * y.side)) 0 z.len
        p = f ∙ ap (λ (m : ℕ). tabulate (rows_to b x y z w cells m (x.side * y.side)) 0 z.len) (div-add-mod' r y.len)

        long : length part ≡ z.len
        long = ap length p ∙ length-tabulate (rows_to b x y z w cells r (x.side * y.side)) 0 z.len

        own : (i : ℕ) → i < z.len → get_or part i (pos 0) ≡ sum_at b x y z w cells (a + i)
        own i c =
            ap (λ (o : List ℤ). get_or o i (pos 0)) p ∙ get_d_tabulate (rows_to b x y z w cells r (x.side * y.side)) z.len i (pos 0) c
            ∙ (λ j. rows_to b x y z w cells (sym (digits_div r c) j) (x.side * y.side) (sym (digits_mod r c) j))

        put : Stored (pos 0) (on_row a z.len) (λ k. get_or part (k - a) (pos 0)) out (put_mid a (a + z.len - a) out part)
        put = part_put (pos 0) a z.len out part (row_room h) long

        at : (k : ℕ) → k < (r + 1) * z.len → (t : Bool) → ltb k a ≡ t → get_or (put_mid a (a + z.len - a) out part) k (pos 0) ≡ sum_at b x y z w cells k
        at k c true q =
            let g = ltb-true k a q in
            put.cells k (omega (arith, row_room h)) ∙ cond_no (on_row a z.len k) _ _ (row_no a z.len k (λ i j. omega arith)) ∙ S.sums k g
        at k c false q =
            let d = ltb-false k a q in
            let i : k - a < z.len = omega (arith, add-mul r 1 z.len) in
            let g : a + (k - a) ≡ k = omega arith in
            put.cells k (omega (arith, row_room h)) ∙ cond_yes (on_row a z.len k) _ _ (row_yes a z.len k d (omega arith)) ∙ own (k - a) i ∙ ap (sum_at b x y z w cells) g

    pub storing_all : x.len * y.len ≡ r → out ≡ tabulate (sum_at b x y z w cells) 0 (length cells)
    storing_all last = tabulate_unique (pos 0) (sum_at b x y z w cells) out (length cells) S.kept (λ k c. S.sums k (subst (λ (m : ℕ). k < m) (L.count ∙ ap (λ (m : ℕ). m * z.len) last) c))
