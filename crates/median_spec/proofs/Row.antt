-- One row, counted and voted: what the two suppose, and that the votes are the row's medians.
-- Assumes nothing.
use mathlib.Core.Path.{◌≡◌, sym, ap, subst, ◌∙◌}
use mathlib.Core.Bool.{Bool, true, false}
use mathlib.Core.List.{List}
use Prim.Native.Nat.{ℕ, ◌+◌, ◌-◌, ◌*◌, ◌/◌, ◌%◌, ◌≤◌, ◌<◌}
use native.Mathlib.Omega.{arith}
use lib.ListN.{length, get_or}
use Rattle.numbers.proofs.Stored.{stored_agree, stored_table, table_stored}
use Rattle.median_spec.specs.declared.Span.{Span}
use Rattle.median_spec.specs.ByRows.{span_of, column_count, MaskRowNeeds, Room, added, voted_at, Counted, in_row, set_row, median_of_place, MaskNeeds, Blank}
use Rattle.median_spec.proofs.Adding.{length-added}
use Rattle.median_spec.proofs.Spans.{Short, span_short, around_some, around_few, blank_room, blank_added, added_few, plane-below, row_below, row_room, planes_reach}
use Rattle.median_spec.proofs.ThreeAxes.{row_median}

module _ {planes rows : ℕ} {mask : List Bool} {c : List ℕ} (blank : Blank c) (L : MaskNeeds planes rows (length c) mask) (r : ℕ) (h : r < planes * rows)
    {xs ys : Span} (ex : xs ≡ span_of planes (r / rows)) (ey : ys ≡ span_of rows (r % rows)) where
  planes_short : Short planes xs
  planes_short = span_short (plane-below L r h) ex

  rows_short : Short rows ys
  rows_short = span_short (row_below L r h) ey

  pub planes_ordered : xs.from ≤ xs.to
  planes_ordered = omega (arith, planes_short.some)

  pub rows_ordered : ys.from ≤ ys.to
  rows_ordered = omega (arith, rows_short.some)

  pub rows_nine : (xs.to - xs.from) * (ys.to - ys.from) ≤ 9
  rows_nine = around_few planes_short rows_short

  pub row_adds : MaskRowNeeds mask (length c) (xs.to * rows) × (1 ≤ rows) × (ys.to ≤ rows) × Room (column_count mask rows (length c) xs ys) c
  row_adds = (planes_reach L planes_short, L.some_rows, rows_short.inside, blank_room planes_short rows_short mask blank)

  module _ {c' : List ℕ} (e : c' ≡ added (column_count mask rows (length c) xs ys) c) where
    counts_long : length c' ≡ length c
    counts_long = ap length e ∙ length-added (column_count mask rows (length c) xs ys) c

    pub voted_room : r * length c' + length c' ≤ length mask
    voted_room = subst (λ (n : ℕ). r * n + n ≤ length mask) (sym counts_long) (row_room L r h)

    pub row_counted : Counted c' ((xs.to - xs.from) * (ys.to - ys.from))
    row_counted = record {
      two = omega (arith, counts_long, L.two);
      short = omega (arith, counts_long, L.short);
      some = around_some planes_short rows_short;
      few = rows_nine;
      small = subst (λ (s : List ℕ). (z : ℕ) → get_or s z 0 ≤ 9) (sym e) (added_few planes_short rows_short mask blank);
    }

    pub row_voted : (out : List Bool) {out' : List Bool} → out' ≡ set_row (r * length c') (length c') (λ k. voted_at c' ((xs.to - xs.from) * (ys.to - ys.from)) (k - r * length c')) out
        → out' ≡ set_row (r * length c) (length c) (median_of_place planes rows (length c) mask) out
    row_voted out {out'} v =
        stored_table false (median_of_place planes rows (length c) mask) (in_row (r * length c) (length c))
        (stored_agree false votes (in_row (r * length c) (length c)) (median_of_place planes rows (length c) mask) same (table_stored false votes (in_row (r * length c) (length c)) out out' moved))
      where
        votes : ℕ → Bool
        votes k = voted_at c' ((xs.to - xs.from) * (ys.to - ys.from)) (k - r * length c)

        moved : out' ≡ set_row (r * length c) (length c) votes out
        moved = v ∙ ap (λ (n : ℕ). set_row (r * n) n (λ k. voted_at c' ((xs.to - xs.from) * (ys.to - ys.from)) (k - r * n)) out) counts_long

        cells : (z : ℕ) → z < length c → get_or c' z 0 ≡ column_count mask rows (length c) xs ys z
        cells z b = ap (λ (s : List ℕ). get_or s z 0) e ∙ blank_added planes_short rows_short mask blank z b

        same : (k : ℕ) → in_row (r * length c) (length c) k ≡ true → votes k ≡ median_of_place planes rows (length c) mask k
        same = row_median planes rows (length c) mask r h L.some_rows ex ey c' counts_long cells
