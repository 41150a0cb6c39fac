-- The loop over the lanes of any axis, over any element and line filter: each lane is filtered into a row, and the row is written to the cells of the lane.
-- Assumes nothing.
use mathlib.Core.Path.{◌≡◌, sym, ap, ◌∙◌}
use mathlib.Core.List.{List}
use Prim.Native.Nat.{ℕ, ◌+◌, ◌*◌, ◌≤◌, ◌<◌}
use native.Mathlib.Omega.{arith}
use lib.ListN.{length}
use Rattle.array_spec.specs.Grid.{length_of}
use Rattle.lanes.specs.Starts.{Starts}
use Rattle.lanes.specs.declared.Start.{Start}
use Rattle.lanes.specs.Lanes.{lane_base, lane_at, with_lane, along_axis, lanes_of}
use Rattle.lanes.specs.declared.Lanes.{Lanes}
use Rattle.border.specs.Border.{Border}
use Rattle.pad_line.specs.Lane.{filtered_lane, LineNeeds, AxisNeeds}
use Rattle.pad_line.proofs.EveryLane.{axis_lanes, axis_starts, Sweeping, sweeping_none, lane_needs, write_needs, start_needs, sweeping_more, sweeping_all}

-- the loop at lane l, which starts at t; the row is as long as the lane
pub record ColumnLoop {A : Type 0} (d : A) (f : List A → ℕ → List A) (b : Border A) (ns : List ℕ) (a left right : ℕ) (cells out₀ : List A)
    (n stride count : ℕ) (line row out : List A) (t : Start) (l : ℕ) : Type 0 where
  pub sweeping : Sweeping d f b ns a left right cells out₀ n stride count l line out
  pub starts : Starts n stride l t
  pub long : length row ≡ n

pub column_none : {A : Type 0} {d : A} {f : List A → ℕ → List A} {b : Border A} {ns : List ℕ} {a left right : ℕ} {cells out line row : List A} {r : Lanes}
    → AxisNeeds b ns a left right cells out → length line ≡ 1088 → length row ≡ length_of ns a → r ≡ lanes_of ns a
    → ColumnLoop d f b ns a left right cells out r.len r.stride r.count line row out (record { place = 0; offset = 0 }) 0
column_none N h k q = let o = axis_lanes N q in record { sweeping = sweeping_none N o h; starts = axis_starts N o; long = k ∙ sym o.cells }

module _ {A : Type 0} {d : A} {f : List A → ℕ → List A} {b : Border A} {ns : List ℕ} {a left right : ℕ} {cells out₀ : List A} {n stride count : ℕ} {line row out : List A} {t : Start} {l : ℕ}
    (L : ColumnLoop d f b ns a left right cells out₀ n stride count line row out t l) where
  pub column_all : count ≤ l → out ≡ along_axis d (filtered_lane d f b left right) ns a cells
  column_all h = sweeping_all L.sweeping h

  -- the row and the line as they were lent
  pub column_row : {m : ℕ} → m ≡ length_of ns a → length row ≡ m
  column_row e = L.long ∙ L.sweeping.on.cells ∙ sym e

  module _ (h : l < count) where
    -- what padding and filtering suppose of as many cells from a place no further than the lane's first, what writing the row supposes, and the step to where the next lane starts
    pub column_needs : {from : ℕ} → from ≤ t.place → LineNeeds b (length row) stride from left right cells line
    column_needs p = lane_needs L.sweeping h (omega (arith, L.starts.place)) L.long

    pub column_write : {m : ℕ} → m ≡ length row → (0 < m) × (0 < stride) × (t.place ≡ lane_base m stride l) × (t.place + m * stride < length out + stride)
    column_write e = write_needs L.sweeping h L.starts.place (e ∙ L.long)

    pub column_step : Starts n stride l t × (0 < n) × (n ≤ 32768) × (0 < stride) × (stride ≤ 32768) × (t.place ≤ 32768)
    column_step = start_needs L.sweeping h L.starts

    -- one lane more: the row is the lane, read from its first place and filtered, and is written to it
    pub column_more : {from : ℕ} {t' : Start} {line' row' out' : List A} → from ≡ t.place → length line' ≡ length line → length row' ≡ length row
        → row' ≡ filtered_lane d f b left right (lane_at d cells from stride (length row))
        → out' ≡ with_lane d (length row') stride l row' out → Starts n stride (l + 1) t' → ColumnLoop d f b ns a left right cells out₀ n stride count line' row' out' t' (l + 1)
    column_more {row' = row'} o p k r e T = record {
      sweeping = sweeping_more L.sweeping h (o ∙ L.starts.place) L.long p r (e ∙ ap (λ (x : ℕ). with_lane d x stride l row' out) (k ∙ L.long));
      starts = T;
      long = k ∙ L.long;
    }
