-- One lane of the padded grid while an axis is filled: its own cells hold the levels that belong there, so padding the lane in place gives each of its cells its level.
-- Assumes nothing.
use mathlib.Core.Path.{◌≡◌, refl, sym, ap, subst, ◌∙◌}
use mathlib.Core.Bool.{Bool, true, false, ◌&&◌}
use mathlib.Core.List.{List}
use Prim.Native.Nat.{ℕ, zero, suc, ◌+◌, ◌-◌, ◌*◌, ◌/◌, ◌%◌, ◌≤◌, ◌<◌}
use native.Mathlib.Omega.{arith}
use borrow.Author.Tests.{eqb-true, eqb-false}
use lib.Dec.{leb, ltb, eqb}
use lib.IntN.{ℤ, pos}
use lib.ListN.{length, get_or}
use Rattle.numbers.specs.Lists.{tabulate}
use Rattle.numbers.proofs.Tabulate.{tabulate_unique}
use Rattle.array_spec.specs.Grid.{cell_count, length_of, stride_of, place_of, coordinate, moved}
use Rattle.array_spec.proofs.Places.{Within, Positive, length_pos, place_lt, coordinate_place, coordinate_within}
use Rattle.array_spec.proofs.Strides.{stride_pos, coordinate_digit, place_moved}
use Rattle.lanes.specs.Lanes.{lane_of, lane_base}
use Rattle.lanes.proofs.Cells.{base_of}
use Rattle.border.specs.declared.PadMode.{PadMode}
use Rattle.pad_line.specs.Line.{padded_at}
use Rattle.pad_spec.specs.Fill.{rim_of}
use Rattle.pad_spec.proofs.Rims.{own_of, length_own, get_d_own}
use Rattle.pad_spec.specs.Levels.{level_to}
use Rattle.pad_spec.specs.Pads.{in_middle, all_from, middle_from}
use Rattle.pad_spec.proofs.Levels.{moved_at, moved-off, level_ext, middle-moved, level-axis}

-- ---- coordinates that agree on the grid's own axes are in the middle together
all-below : (ns lefts : List ℕ) (n d : ℕ) (p q : ℕ → ℕ) → ((a : ℕ) → a < d + n → p a ≡ q a) → all_from (in_middle ns lefts p) d n ≡ all_from (in_middle ns lefts q) d n
all-below ns lefts zero d p q e = refl
all-below ns lefts (suc n) d p q e =
    (λ j. (leb (get_or lefts d 0) (e d (here d n) j) && ltb (e d (here d n) j) (get_or lefts d 0 + length_of ns d)) && all-below ns lefts n (suc d) p q (λ a h. e a (later d n a h)) j)
  where
    here : (d n : ℕ) → d < d + suc n
    here d n = omega arith

    later : (d n a : ℕ) → a < suc d + n → a < d + suc n
    later d n a h = omega arith

pub middle_ext : (ns lefts : List ℕ) (d : ℕ) → d ≤ length ns → (p q : ℕ → ℕ) → ((a : ℕ) → a < length ns → p a ≡ q a) → middle_from ns lefts d p ≡ middle_from ns lefts d q
middle_ext ns lefts d h p q e = all-below ns lefts (length ns - d) d p q (λ a b. e a (omega arith))

-- a padded shape: as many axes as the grid, each with room for the grid's own cells
pub record Frame (ns lefts ps : List ℕ) : Type 0 where
  pub full : Positive ps
  pub axes : length ps ≡ length ns
  pub room : (a : ℕ) → a < length ns → get_or lefts a 0 + length_of ns a ≤ length_of ps a

module _ (mode : PadMode) (ns lefts ps : List ℕ) (cells : List ℤ) (F : Frame ns lefts ps) where
  -- the level that belongs at a place
  abbrev pub final : ℕ → ℤ
  final k = level_to mode ns lefts cells (length ns) (coordinate ps k)

  module _ (d : ℕ) (h : d < length ns) (k : ℕ) (b : k < cell_count ps) where
    axis : d < length ps
    axis = omega (arith, F.axes)

    -- the cell of the lane through place k that has another coordinate on the axis
    moved_within : (j : ℕ) → j < length_of ps d → Within ps (moved d j (coordinate ps k))
    moved_within j u a l = go (eqb a d) refl
      where
        go : (t : Bool) → eqb a d ≡ t → moved d j (coordinate ps k) a < length_of ps a
        go true q = let e : a ≡ d = eqb-true a d q in subst (λ (x : ℕ). moved d j (coordinate ps k) x < length_of ps x) (sym e)
            (subst (λ (x : ℕ). x < length_of ps d) (sym (moved_at d j (coordinate ps k))) u)
        go false q = subst (λ (x : ℕ). x < length_of ps a) (sym (moved-off d a j (coordinate ps k) (eqb-false a d q))) (coordinate_within ps k F.full b a l)

    pub lane_place : (j : ℕ) → lane_base (length_of ps d) (stride_of ps d) (lane_of (length_of ps d) (stride_of ps d) k) + j * stride_of ps d ≡ place_of ps (moved d j (coordinate ps k))
    lane_place j =
        ap (λ x. x + j * stride_of ps d) (base_of (length_of ps d) (stride_of ps d) (length_pos ps d F.full) (stride_pos ps d F.full) k)
        ∙ sym (place_moved ps d k j F.full axis b)

    pub same_coordinates : (j : ℕ) → j < length_of ps d → (a : ℕ) → a < length ns → coordinate ps (place_of ps (moved d j (coordinate ps k))) a ≡ moved d j (coordinate ps k) a
    same_coordinates j u a l = coordinate_place ps (moved d j (coordinate ps k)) (moved_within j u) a (omega (arith, F.axes))

    module _ (out : List ℤ) (m : middle_from ns lefts (suc d) (coordinate ps k) ≡ true)
        (S : (j : ℕ) → j < cell_count ps → middle_from ns lefts d (coordinate ps j) ≡ true → get_or out j (pos 0) ≡ final j) where
      less : d ≤ length ns
      less = omega arith

      own_cell : (i : ℕ) → i < length_of ns d
          → get_or out (lane_base (length_of ps d) (stride_of ps d) (lane_of (length_of ps d) (stride_of ps d) k) + (get_or lefts d 0 + i) * stride_of ps d) (pos 0)
          ≡ level_to mode ns lefts cells (length ns) (moved d (get_or lefts d 0 + i) (coordinate ps k))
      own_cell i u =
          let j = get_or lefts d 0 + i in
          let w : j < length_of ps d = omega (arith, F.room d h) in
          let q = moved d j (coordinate ps k) in
          ap (λ x. get_or out x (pos 0)) (lane_place j)
          ∙ S (place_of ps q) (place_lt ps q (moved_within j w)) (middle_ext ns lefts d less (coordinate ps (place_of ps q)) q (same_coordinates j w)
          ∙ middle-moved mode ns lefts cells d i h u (coordinate ps k) m)
          ∙ level_ext mode ns lefts cells (length ns) (whole ns) (coordinate ps (place_of ps q)) q (same_coordinates j w)
        where
          whole : (l : List ℕ) → length l ≤ length l
          whole l = omega arith

      pub own_lane : own_of (pos 0) (length_of ps d) (stride_of ps d) (lane_of (length_of ps d) (stride_of ps d) k) (get_or lefts d 0) (length_of ns d) out
          ≡ tabulate (λ i. level_to mode ns lefts cells (length ns) (moved d (get_or lefts d 0 + i) (coordinate ps k))) 0 (length_of ns d)
      own_lane =
          let N = length_of ps d in
          let s = stride_of ps d in
          tabulate_unique (pos 0) _ (own_of (pos 0) N s (lane_of N s k) (get_or lefts d 0) (length_of ns d) out) (length_of ns d)
          (length_own (pos 0) N s (lane_of N s k) (get_or lefts d 0) (length_of ns d) out (F.room d h))
          (λ i u. get_d_own (pos 0) N s (lane_of N s k) (get_or lefts d 0) (length_of ns d) out (F.room d h) i u ∙ own_cell i u)

      -- the level that belongs at place k is that of its lane, padded
      pub final-lane : let own = own_of (pos 0) (length_of ps d) (stride_of ps d) (lane_of (length_of ps d) (stride_of ps d) k) (get_or lefts d 0) (length_of ns d) out in
          final k ≡ padded_at (pos 0) (rim_of mode own) (get_or lefts d 0) own (k / stride_of ps d % length_of ps d)
      final-lane =
          let N = length_of ps d in
          let s = stride_of ps d in
          let own = own_of (pos 0) N s (lane_of N s k) (get_or lefts d 0) (length_of ns d) out in
          level-axis mode ns lefts cells d h (coordinate ps k) m own own_lane
          ∙ ap (padded_at (pos 0) (rim_of mode own) (get_or lefts d 0) own) (coordinate_digit ps d k F.full axis b)
