-- The loop over lanes of neighbouring cells, over any element and line filter: each lane is filtered straight into its part of out.
-- Assumes nothing.
use mathlib.Core.Path.{◌≡◌, sym, ◌∙◌}
use mathlib.Core.List.{List}
use Prim.Native.Nat.{ℕ, ◌+◌, ◌-◌, ◌*◌, ◌≤◌, ◌<◌}
use native.Mathlib.Nat.{add-mul}
use native.Mathlib.Omega.{arith}
use borrow.Rule.Slice.PartMut.{mid_of, put_mid, mid_len}
use lib.ListN.{length}
use Rattle.array_spec.specs.Grid.{stride_of}
use Rattle.lanes.specs.Lanes.{lane_base, lane_at, along_axis, lanes_of}
use Rattle.lanes.specs.declared.Lanes.{Lanes}
use Rattle.lanes.proofs.Cells.{inside-whole, base_neighbours}
use Rattle.lanes.proofs.Part.{row_written}
use Rattle.border.specs.Border.{Border}
use Rattle.pad_line.specs.Lane.{filtered_lane, LineNeeds, AxisNeeds}
use Rattle.pad_line.proofs.EveryLane.{axis_lanes, Sweeping, sweeping_none, sweeping_inside, sweeping_long, lane_needs, sweeping_more, sweeping_all}

-- the loop at lane l, which starts at place base
pub record RowLoop {A : Type 0} (d : A) (f : List A → ℕ → List A) (b : Border A) (ns : List ℕ) (a left right : ℕ) (cells out₀ : List A) (n count : ℕ) (line out : List A) (base l : ℕ) : Type 0 where
  pub sweeping : Sweeping d f b ns a left right cells out₀ n 1 count l line out
  pub at : base ≡ l * n

pub row_none : {A : Type 0} {d : A} {f : List A → ℕ → List A} {b : Border A} {ns : List ℕ} {a left right : ℕ} {cells out line : List A} {r : Lanes}
    → AxisNeeds b ns a left right cells out → length line ≡ 1088 → stride_of ns a ≡ 1 → r ≡ lanes_of ns a → RowLoop d f b ns a left right cells out r.len r.count line out 0 0
row_none N h e q = let o = axis_lanes N q in record { sweeping = sweeping_none N (record { cells = o.cells; apart = sym e; many = o.many }) h; at = omega arith }

module _ {A : Type 0} {d : A} {f : List A → ℕ → List A} {b : Border A} {ns : List ℕ} {a left right : ℕ} {cells out₀ : List A} {n count : ℕ} {line out : List A} {base l : ℕ}
    (L : RowLoop d f b ns a left right cells out₀ n count line out base l) where
  pub row_all : count ≤ l → out ≡ along_axis d (filtered_lane d f b left right) ns a cells
  row_all h = sweeping_all L.sweeping h

  module _ (h : l < count) where
    first : base ≡ lane_base n 1 l
    first = L.at ∙ sym (base_neighbours n l)

    pub row_in_grid : base + n ≤ length out
    row_in_grid = omega (arith, inside-whole (sweeping_inside L.sweeping h), first, (sweeping_long L.sweeping).0)

    pub row_small : base + n ≤ 8192
    row_small = omega (arith, row_in_grid, (sweeping_long L.sweeping).1)

    long : length (mid_of base (base + n - base) out) ≡ n
    long = mid_len base (base + n) out row_in_grid ∙ omega arith

    -- what padding and filtering suppose of as many cells from a place no further than the lane's first
    pub row_needs : {from : ℕ} → from ≤ base → LineNeeds b (length (mid_of base (base + n - base) out)) 1 from left right cells line
    row_needs p = lane_needs L.sweeping h (omega (arith, first)) long

    -- one lane more: the row is the lane, read from its first place and filtered, and stands in out where the lane does
    pub row_more : {from : ℕ} {line' row out' : List A} → from ≡ base → length line' ≡ length line → length row ≡ length (mid_of base (base + n - base) out)
        → row ≡ filtered_lane d f b left right (lane_at d cells from 1 (length (mid_of base (base + n - base) out))) → out' ≡ put_mid base (base + n - base) out row
        → RowLoop d f b ns a left right cells out₀ n count line' out' (base + n) (l + 1)
    row_more {row = row} o p q r e = record {
      sweeping = sweeping_more L.sweeping h (o ∙ first) long p r (e ∙ row_written d l out row (sweeping_inside L.sweeping h).some L.at row_in_grid (q ∙ long));
      at = omega (arith, L.at, add-mul l 1 n);
    }
