-- Every lane of an axis, one after the other, over any element and line filter: each can be padded, and the loop over them leaves the filtered lanes.
-- Assumes nothing.
use mathlib.Core.Path.{◌≡◌, sym, ap, subst, ◌∙◌}
use mathlib.Core.List.{List}
use Prim.Native.Nat.{ℕ, ◌+◌, ◌*◌, ◌/◌, ◌≤◌, ◌<◌}
use native.Mathlib.Omega.{arith}
use lib.Dec.{ltb}
use lib.ListN.{length}
use Rattle.numbers.proofs.Tests.{cond_no}
use Rattle.numbers.proofs.Stored.{Stored}
use Rattle.array_spec.specs.Conditions.{bad_shape}
use Rattle.array_spec.specs.Grid.{cell_count, length_of, stride_of}
use Rattle.array_spec.proofs.Shapes.{Accepted, shape-accepted}
use Rattle.array_spec.proofs.Strides.{stride_pos}
use Rattle.lanes.specs.Starts.{Starts}
use Rattle.lanes.specs.declared.Start.{Start}
use Rattle.lanes.specs.Lanes.{lane_base, lane_at, lane, lane_of, lane_inside, with_lane, along_axis, lanes_of}
use Rattle.lanes.specs.declared.Lanes.{Lanes}
use Rattle.lanes.proofs.AlongAxis.{lanes_inside, along_loop}
use Rattle.lanes.proofs.Cells.{Inside, lane_inside_lem, inside-whole}
use Rattle.lanes.proofs.Next.{starts_none}
use Rattle.lanes.proofs.Stores.{level_along, lanes_none, lanes_more}
use Rattle.border.specs.Border.{Border}
use Rattle.border.specs.Reach.{bad_pad}
use Rattle.pad_line.specs.Lane.{filtered_lane, LineNeeds, AxisNeeds}

-- ---- the axis
-- the lanes of an axis, as a worker has them
pub record OnAxis (ns : List ℕ) (a n stride count : ℕ) : Type 0 where
  pub cells : n ≡ length_of ns a
  pub apart : stride ≡ stride_of ns a
  pub many : count ≡ cell_count ns / length_of ns a

module _ {A : Type 0} {b : Border A} {ns : List ℕ} {a left right : ℕ} {cells out : List A} (N : AxisNeeds b ns a left right cells out) where
  accepted : Accepted ns
  accepted = shape-accepted ns N.shape

  pub axis_lanes : {r : Lanes} → r ≡ lanes_of ns a → OnAxis ns a r.len r.stride r.count
  axis_lanes {r} e = record { cells = ap (λ (x : Lanes). x.len) p; apart = ap (λ (x : Lanes). x.stride) p; many = ap (λ (x : Lanes). x.count) p }
    where
      p : r ≡ record { len = length_of ns a; stride = stride_of ns a; count = cell_count ns / length_of ns a }
      p = e ∙ cond_no (bad_shape ns) (record { len = 0; stride = 0; count = 0 }) (record { len = length_of ns a; stride = stride_of ns a; count = cell_count ns / length_of ns a }) N.shape

  pub axis_starts : {n stride count : ℕ} → OnAxis ns a n stride count → Starts n stride 0 (record { place = 0; offset = 0 })
  axis_starts {n} {stride} o = starts_none n stride (subst (λ (k : ℕ). 0 < k) (sym o.apart) (stride_pos ns a accepted.full))

  -- what `lanes::stride_of` supposes, and that a buffer of 1,024 cells holds a lane
  pub stride_needs : (length ns ≤ 3) × ((i : ℕ) → length_of ns i ≤ 1152)
  stride_needs = (accepted.few, λ i. omega (arith, accepted.short i))

  pub axis_short : {n : ℕ} → n ≡ length_of ns a → n ≤ 1024
  axis_short e = omega (arith, accepted.short a)

-- ---- the loop at lane l: the line is as long as it was, and the lanes below l are written
pub record Sweeping {A : Type 0} (d : A) (f : List A → ℕ → List A) (b : Border A) (ns : List ℕ) (a left right : ℕ) (cells out₀ : List A) (n stride count l : ℕ) (line out : List A) : Type 0 where
  pub needs : AxisNeeds b ns a left right cells out₀
  pub on : OnAxis ns a n stride count
  pub buffer : length line ≡ 1088
  pub below : l ≤ count
  pub stored : Stored d (λ k. ltb (lane_of (length_of ns a) (stride_of ns a) k) l) (level_along d (filtered_lane d f b left right) (length_of ns a) (stride_of ns a) cells) out₀ out

pub sweeping_none : {A : Type 0} {d : A} {f : List A → ℕ → List A} {b : Border A} {ns : List ℕ} {a left right : ℕ} {cells out line : List A} {n stride count : ℕ}
    → AxisNeeds b ns a left right cells out → OnAxis ns a n stride count → length line ≡ 1088 → Sweeping d f b ns a left right cells out n stride count 0 line out
sweeping_none {d = d} {f} {b} {ns} {a} {left} {right} {cells} {out} N o h =
    record { needs = N; on = o; buffer = h; below = omega arith; stored = lanes_none d (filtered_lane d f b left right) (length_of ns a) (stride_of ns a) cells out }

module _ {A : Type 0} {d : A} {f : List A → ℕ → List A} {b : Border A} {ns : List ℕ} {a left right : ℕ} {cells out₀ : List A} {n stride count l : ℕ} {line out : List A}
    (W : Sweeping d f b ns a left right cells out₀ n stride count l line out) where
  shape_in_lem : Accepted ns
  shape_in_lem = accepted W.needs

  pub sweeping_inside : l < count → Inside n stride l (cell_count ns)
  sweeping_inside h =
      lane_inside_lem n stride l (cell_count ns)
      ((λ j. lane_inside (W.on.cells j) (W.on.apart j) l (cell_count ns)) ∙ lanes_inside ns a l shape_in_lem W.needs.axis (subst (λ (x : ℕ). l < x) W.on.many h))

  pub sweeping_long : (length out ≡ cell_count ns) × (length out ≤ 8192)
  sweeping_long = let e = W.stored.kept ∙ W.needs.same ∙ W.needs.count in (e, omega (arith, shape_in_lem.small))

  -- what padding and filtering suppose of as many cells as the lane has, from a place no further than the lane's first
  pub lane_needs : {base m : ℕ} → l < count → base ≤ lane_base n stride l → m ≡ n → LineNeeds b m stride base left right cells line
  lane_needs {base} {m} h at e = record {
    padding = record {
      some = omega (arith, (sweeping_inside h).some);
      inside = omega (arith, inside-whole (sweeping_inside h), ap (λ (k : ℕ). k * stride) e, W.needs.count);
      fits = omega (arith, shape_in_lem.short a, W.needs.narrow, W.buffer, W.on.cells);
      fills_left = ap (λ (k : ℕ). bad_pad b k left) (e ∙ W.on.cells) ∙ W.needs.fills_left;
      fills_right = ap (λ (k : ℕ). bad_pad b k right) (e ∙ W.on.cells) ∙ W.needs.fills_right;
    };
    buffer = W.buffer;
    narrow = W.needs.narrow;
  }

  -- what writing as many cells as the lane has supposes, and the step to where the next lane starts
  pub write_needs : {base m : ℕ} → l < count → base ≡ lane_base n stride l → m ≡ n → (0 < m) × (0 < stride) × (base ≡ lane_base m stride l) × (base + m * stride < length out + stride)
  write_needs {base} h at e =
      subst (λ (k : ℕ). (0 < k) × (0 < stride) × (base ≡ lane_base k stride l) × (base + k * stride < length out + stride)) (sym e)
      ((sweeping_inside h).some, (sweeping_inside h).apart, at, omega (arith, inside-whole (sweeping_inside h), sweeping_long.0))

  pub start_needs : {t : Start} → l < count → Starts n stride l t → Starts n stride l t × (0 < n) × (n ≤ 32768) × (0 < stride) × (stride ≤ 32768) × (t.place ≤ 32768)
  start_needs h T =
      let I = sweeping_inside h in
      let e = T.place in
      (T, I.some, omega (arith, shape_in_lem.short a, W.on.cells), I.apart, omega (arith, I.short, I.small), omega (arith, I.last, I.small, e))

  -- one lane more: row is the filtered lane, and out' is out with the row written to the lane
  pub sweeping_more : {base m : ℕ} {line' row out' : List A} → l < count → base ≡ lane_base n stride l → m ≡ n → length line' ≡ length line
      → row ≡ filtered_lane d f b left right (lane_at d cells base stride m) → out' ≡ with_lane d n stride l row out → Sweeping d f b ns a left right cells out₀ n stride count (l + 1) line' out'
  sweeping_more h at q p r e = record {
    needs = W.needs;
    on = W.on;
    buffer = p ∙ W.buffer;
    below = omega arith;
    stored =
        lanes_more d (filtered_lane d f b left right) (length_of ns a) (stride_of ns a) cells l W.stored
        (e ∙ ap (λ (x : List A). with_lane d n stride l x out) (r ∙ (λ j. filtered_lane d f b left right (lane_at d cells (at j) stride (q j))))
        ∙ (λ j. with_lane d (W.on.cells j) (W.on.apart j) l (filtered_lane d f b left right (lane d (W.on.cells j) (W.on.apart j) l cells)) out));
  }

  pub sweeping_all : count ≤ l → out ≡ along_axis d (filtered_lane d f b left right) ns a cells
  sweeping_all h =
      along_loop d (filtered_lane d f b left right) ns a cells shape_in_lem.full W.needs.axis W.needs.count W.needs.same
      (subst (λ (x : ℕ). Stored d (λ k. ltb (lane_of (length_of ns a) (stride_of ns a) k) x) (level_along d (filtered_lane d f b left right) (length_of ns a) (stride_of ns a) cells) out₀ out)
      (last ∙ W.on.many) W.stored)
    where
      last : l ≡ count
      last = omega (arith, W.below)
