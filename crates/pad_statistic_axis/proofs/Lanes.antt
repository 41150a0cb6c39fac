-- Every lane of an axis, one after the other: a lane whose later coordinates are in the middle is filled from its own cells, which hold their levels, and so gets its levels; the others stay.
-- Assumes nothing.
use mathlib.Core.Path.{◌≡◌, refl, sym, ap, subst, ◌∙◌}
use mathlib.Core.Bool.{Bool, true, false, ◌&&◌, ◌||◌, cond, true≢false}
use mathlib.Core.List.{List, []}
use Prim.Native.Nat.{ℕ, suc, ◌+◌, ◌-◌, ◌*◌, ◌/◌, ◌%◌, ◌≤◌, ◌<◌, zero-le}
use native.Mathlib.Nat.{mod-lt, div-le_self}
use native.Mathlib.Omega.{arith}
use borrow.Author.Tests.{le-ltb, lt-ltb, le-leb, eqb-true}
use lib.Dec.{ltb, eqb}
use lib.IntN.{ℤ, pos}
use lib.ListN.{length, get_or}
use Rattle.numbers.specs.Lists.{any_of}
use Rattle.numbers.proofs.Size.{Sized}
use Rattle.numbers.proofs.Tabulate.{length-tabulate, get_d_tabulate, every_table}
use Rattle.numbers.proofs.Tests.{and_true, cond_yes, cond_no, ltb-more}
use Rattle.array_spec.specs.Conditions.{bad_level}
use Rattle.array_spec.specs.Grid.{cell_count, length_of, stride_of, coordinate, moved}
use Rattle.array_spec.proofs.Judged.{levels_sized}
use Rattle.array_spec.proofs.Places.{length_pos, coordinate_within}
use Rattle.array_spec.proofs.Strides.{outer_of, count_split}
use Rattle.lanes.specs.Lanes.{lane_of, lane_base, with_lane}
use Rattle.lanes.proofs.AlongAxis.{lanes_within, count_lanes}
use Rattle.lanes.proofs.Cells.{lane_below}
use Rattle.border.specs.Border.{constant}
use Rattle.border.specs.declared.PadMode.{PadMode}
use Rattle.pad_line.specs.Line.{padded_at, padded_line}
use Rattle.pad_line.proofs.Padded.{get_d_padded}
use Rattle.statistics_spec.specs.Statistics.{mean_of, median_of, unserved}
use Rattle.statistics_spec.proofs.Served.{sized_served, answered_served}
use Rattle.pad_spec.specs.Fill.{level_of, rim_of, carries, mode_taking, statistic_of, lane_serves, filled_lane}
use Rattle.pad_spec.specs.declared.rim.Statistic.{Statistic}
use Rattle.pad_spec.specs.declared.rim.Statistic.TheVariants as Statistic
use Rattle.pad_spec.proofs.Fillers.{filler_taking, rim_taking}
use Rattle.pad_spec.proofs.Rims.{own_of, length_own}
use Rattle.pad_spec.specs.Levels.{level_to}
use Rattle.pad_spec.specs.Pads.{in_middle, all_from, middle_from}
use Rattle.pad_spec.proofs.Axis.{middle_ext, final, lane_place, same_coordinates, own_lane, final-lane}
use Rattle.pad_spec.proofs.Levels.{middle_in, moved-off, all_agree}
use Rattle.pad_spec.proofs.Sizes.{limit, size_level}
use Rattle.pad_spec.specs.Frame.{Framed}
use Rattle.pad_spec.specs.Filled.{Filled}
use Rattle.pad_spec.proofs.Room.{grid_accepted, padded-full, frame, axis-length, axis_stride}

-- a line that the statistics serve is padded with the statistic itself
level-answered : (which : Statistic) (s : List ℤ) → unserved s ≡ false → statistic_of which s ≡ level_of which s
level-answered Statistic.Maximum s e = refl
level-answered Statistic.Mean s e = answered_served mean_of s e
level-answered Statistic.Median s e = answered_served median_of s e
level-answered Statistic.Minimum s e = refl

rim_answered : (which : Statistic) (s : List ℤ) → unserved s ≡ false → constant (statistic_of which s) ≡ rim_of (mode_taking which) s
rim_answered which s e = ap constant (level-answered which s e) ∙ sym (rim_taking which s)

-- the middle from axis d on: of that axis and from the next on
pub middle-both : (ns lefts : List ℕ) (d : ℕ) → d < length ns → (q : ℕ → ℕ) → middle_from ns lefts d q ≡ in_middle ns lefts q d && middle_from ns lefts (suc d) q
middle-both ns lefts d h q = let m : length ns - d ≡ suc (length ns - suc d) = omega arith in ap (all_from (in_middle ns lefts q) d) m

module _ (which : Statistic) {ns lefts ps : List ℕ} (F : Framed ns lefts ps) (d : ℕ) (h : d < length ns) where
  abbrev N : ℕ
  N = length_of ps d

  abbrev s : ℕ
  s = stride_of ps d

  on : d < length ps
  on = omega (arith, F.axes)

  pub lane_serves_lem : (l : ℕ) → l < cell_count ps / length_of ps d → lane_serves (length_of ps d) (stride_of ps d) l (cell_count ps) (get_or lefts d 0) (length_of ns d) ≡ true
  unfolding lane_serves
  lane_serves_lem l b =
      simp (
        lanes_within ps d l (padded-full F) F.small on b,
        le-leb (length_of ps d) 1152 (F.short d),
        le-leb 1 (length_of ns d) (length_some),
        le-leb (get_or lefts d 0 + length_of ns d) (length_of ps d) (F.room d h),
      ) refl
    where
      length_some : 1 ≤ length_of ns d
      length_some = length_pos ns d (grid_accepted F).full

  -- the coordinates on later axes are the same along a lane
  lane-middle : (l k : ℕ) → k < cell_count ps → lane_of N s k ≡ l → middle_from ns lefts (suc d) (coordinate ps (lane_base N s l)) ≡ middle_from ns lefts (suc d) (coordinate ps k)
  lane-middle l k b e =
      ap (λ x. middle_from ns lefts (suc d) (coordinate ps x)) (first ∙ lane_place (mode_taking which) ns lefts ps [] (frame F) d h k b 0)
      ∙ middle_ext ns lefts (suc d) h _ _ (same_coordinates (mode_taking which) ns lefts ps [] (frame F) d h k b 0 (axis-length F d))
      ∙ all_agree (mode_taking which) ns lefts [] (length ns - suc d) (suc d) (moved d 0 (coordinate ps k)) (coordinate ps k) (λ a g. moved-off d a 0 (coordinate ps k) (apart a g))
    where
      first : lane_base N s l ≡ lane_base N s (lane_of N s k) + 0 * s
      first = ap (lane_base N s) (sym e) ∙ none (lane_base N s (lane_of N s k)) s
        where
          none : (x y : ℕ) → x ≡ x + 0 * y
          none x y = omega arith

      apart : (a : ℕ) → suc d ≤ a → a ≡ d → ⊥
      apart a g z = omega arith

  -- the loop at lane l: of the places whose later coordinates are in the middle, those in the middle on this axis and those of the lanes below l hold their levels
  pub record Reached (cells : List ℤ) (l : ℕ) (out : List ℤ) : Type 0 where
    pub levels : any_of bad_level cells ≡ false
    pub count : length out ≡ cell_count ps
    pub finals : (k : ℕ) → k < cell_count ps → middle_from ns lefts (suc d) (coordinate ps k) ≡ true → in_middle ns lefts (coordinate ps k) d || ltb (lane_of (length_of ps d) (stride_of ps d) k) l ≡ true
        → get_or out k (pos 0) ≡ level_to (mode_taking which) ns lefts cells (length ns) (coordinate ps k)

  module _ {cells : List ℤ} where
    pub reached_none : {out : List ℤ} → Filled (mode_taking which) ns lefts ps cells d out → Reached cells 0 out
    reached_none {out} A = record { levels = A.levels; count = A.count; finals = λ k b m t. A.finals k b (middle-both ns lefts d h (coordinate ps k) ∙ (λ j. own k t j && m j)) }
      where
        own : (k : ℕ) → in_middle ns lefts (coordinate ps k) d || ltb (lane_of N s k) 0 ≡ true → in_middle ns lefts (coordinate ps k) d ≡ true
        own k t = last (in_middle ns lefts (coordinate ps k) d) (ap (λ u. in_middle ns lefts (coordinate ps k) d || u) (sym (le-ltb (lane_of N s k) 0 zero-le)) ∙ t)
          where
            last : (u : Bool) → u || false ≡ true → u ≡ true
            last true e = refl
            last false e = e

    pub reached_all : {l : ℕ} {out : List ℤ} → cell_count ps / length_of ps d ≤ l → Reached cells l out → Filled (mode_taking which) ns lefts ps cells (suc d) out
    reached_all {l} {out} g R = record { levels = R.levels; count = R.count; finals = λ k b m. R.finals k b m (any (in_middle ns lefts (coordinate ps k) d) (lt-ltb (lane_of N s k) l (below k b))) }
      where
        any : (u : Bool) {v : Bool} → v ≡ true → u || v ≡ true
        any true e = refl
        any false e = e

        below : (k : ℕ) → k < cell_count ps → lane_of N s k < l
        below k b =
            omega (arith, count_lanes ps d (padded-full F) on, lane_below N s (axis-length F d) (axis_stride F d) (outer_of ps d) k (subst (λ (m : ℕ). k < m) (count_split ps d on) b))

    module _ {l : ℕ} {out : List ℤ} (R : Reached cells l out) where
      -- what is reached with one lane more, at places of other lanes
      earlier : (k : ℕ) → eqb (lane_of N s k) l ≡ false → in_middle ns lefts (coordinate ps k) d || ltb (lane_of N s k) (l + 1) ≡ true → in_middle ns lefts (coordinate ps k) d || ltb (lane_of N s k) l
          ≡ true
      earlier k e t = ap (λ u. in_middle ns lefts (coordinate ps k) d || u) (sym (ltb-more (lane_of N s k) l ∙ ap (λ u. u || ltb (lane_of N s k) l) e)) ∙ t

      pub reached_skipped : middle_from ns lefts (suc d) (coordinate ps (lane_base (length_of ps d) (stride_of ps d) l)) ≡ false → Reached cells (l + 1) out
      reached_skipped o = record { levels = R.levels; count = R.count; finals = λ k b m t. at k b m t (eqb (lane_of N s k) l) refl }
        where
          at : (k : ℕ) → k < cell_count ps → middle_from ns lefts (suc d) (coordinate ps k) ≡ true → in_middle ns lefts (coordinate ps k) d || ltb (lane_of N s k) (l + 1) ≡ true
              → (u : Bool) → eqb (lane_of N s k) l ≡ u → get_or out k (pos 0) ≡ level_to (mode_taking which) ns lefts cells (length ns) (coordinate ps k)
          at k b m t true e = absurd (true≢false (sym m ∙ sym (lane-middle l k b (eqb-true (lane_of N s k) l e)) ∙ o))
          at k b m t false e = R.finals k b m (earlier k e t)

      -- the places in the middle on this axis too hold their levels
      held : (j : ℕ) → j < cell_count ps → middle_from ns lefts d (coordinate ps j) ≡ true → get_or out j (pos 0) ≡ final (mode_taking which) ns lefts ps cells (frame F) j
      held j b m =
          let p = and_true (in_middle ns lefts (coordinate ps j) d) (middle_from ns lefts (suc d) (coordinate ps j)) (sym (middle-both ns lefts d h (coordinate ps j)) ∙ m) in
          R.finals j b p.1 (ap (λ u. u || ltb (lane_of N s j) l) p.0)

      -- the own cells of such a lane are levels, so the statistics serve them
      own_served : (k : ℕ) → k < cell_count ps → middle_from ns lefts (suc d) (coordinate ps k) ≡ true → unserved (own_of (pos 0) N s (lane_of N s k) (get_or lefts d 0) (length_of ns d) out) ≡ false
      own_served k b m =
          let own = own_of (pos 0) N s (lane_of N s k) (get_or lefts d 0) (length_of ns d) out in
          let f : ℕ → ℤ = λ i. level_to (mode_taking which) ns lefts cells (length ns) (moved d (get_or lefts d 0 + i) (coordinate ps k)) in
          sized_served own (omega (arith, length_own (pos 0) N s (lane_of N s k) (get_or lefts d 0) (length_of ns d) out (F.room d h), (grid_accepted F).short d))
          (subst (Sized limit) (sym (own_lane (mode_taking which) ns lefts ps cells (frame F) d h k b out m held))
          (every_table _ f 0 (length_of ns d)
          (λ i. size_level (mode_taking which) ns lefts cells (ap (carries bad_level) (filler_taking which)) (levels_sized cells R.levels) (length ns)
          (moved d (get_or lefts d 0 + i) (coordinate ps k)))))

      pub reached_filled : {out' : List ℤ} → l < cell_count ps / length_of ps d → out' ≡ filled_lane which (length_of ps d) (stride_of ps d) l (get_or lefts d 0) (length_of ns d) out
          → middle_from ns lefts (suc d) (coordinate ps (lane_base (length_of ps d) (stride_of ps d) l)) ≡ true → Reached cells (l + 1) out'
      unfolding filled_lane with_lane
      reached_filled {out'} b₀ e o = record {
        levels = R.levels;
        count = ap length e' ∙ length-tabulate _ 0 (length out) ∙ R.count;
        finals = λ k b m t. read k b
            ∙ at k b m t (eqb (lane_of N s k) l) refl;
      }
        where
          left : ℕ
          left = get_or lefts d 0

          n : ℕ
          n = length_of ns d

          own : List ℤ
          own = own_of (pos 0) N s l left n out

          line : List ℤ
          line = padded_line (pos 0) (constant (statistic_of which own)) left (N - (left + n)) own

          e' : out' ≡ with_lane (pos 0) N s l line out
          e' = e ∙ cond_yes (lane_serves N s l (length out) left n) _ out (ap (λ (x : ℕ). lane_serves N s l x left n) R.count ∙ lane_serves_lem l b₀)

          read : (k : ℕ) → k < cell_count ps → get_or out' k (pos 0) ≡ cond (eqb (lane_of N s k) l) (get_or line (k / s % N) (pos 0)) (get_or out k (pos 0))
          read k b = ap (λ x. get_or x k (pos 0)) e' ∙ get_d_tabulate _ (length out) k (pos 0) (omega (arith, R.count))

          padded : (k : ℕ) → k < cell_count ps → get_or line (k / s % N) (pos 0) ≡ padded_at (pos 0) (constant (statistic_of which own)) left own (k / s % N)
          padded k b =
              get_d_padded (pos 0) left own (constant (statistic_of which own)) (N - (left + n)) (k / s % N)
              (omega (arith, length_own (pos 0) N s l left n out (F.room d h), F.room d h, mod-lt (k / s) (axis-length F d)))

          lane-level : (k : ℕ) → k < cell_count ps → middle_from ns lefts (suc d) (coordinate ps k) ≡ true → lane_of N s k ≡ l
              → padded_at (pos 0) (constant (statistic_of which own)) left own (k / s % N) ≡ level_to (mode_taking which) ns lefts cells (length ns) (coordinate ps k)
          lane-level k b m q =
              let own' = own_of (pos 0) N s (lane_of N s k) left n out in
              ap (λ (x : ℕ). padded_at (pos 0) (constant (statistic_of which (own_of (pos 0) N s x left n out))) left (own_of (pos 0) N s x left n out) (k / s % N)) (sym q)
              ∙ ap (λ r. padded_at (pos 0) r left own' (k / s % N)) (rim_answered which own' (own_served k b m))
              ∙ sym (final-lane (mode_taking which) ns lefts ps cells (frame F) d h k b out m held)

          at : (k : ℕ) → k < cell_count ps → middle_from ns lefts (suc d) (coordinate ps k) ≡ true → in_middle ns lefts (coordinate ps k) d || ltb (lane_of N s k) (l + 1) ≡ true
              → (u : Bool) → eqb (lane_of N s k) l ≡ u → cond u (get_or line (k / s % N) (pos 0)) (get_or out k (pos 0)) ≡ level_to (mode_taking which) ns lefts cells (length ns) (coordinate ps k)
          at k b m t true q = padded k b ∙ lane-level k b m (eqb-true (lane_of N s k) l q)
          at k b m t false q = R.finals k b m (earlier k q t)

-- an axis without pads has no rim
pub axis-full : {mode : PadMode} {ns lefts ps : List ℕ} {out : List ℤ} (F : Framed ns lefts ps) (d : ℕ) → d < length ns → length_of ps d ≡ length_of ns d
    → (cells : List ℤ) → Filled mode ns lefts ps cells d out → Filled mode ns lefts ps cells (suc d) out
axis-full {ns = ns} {lefts} {ps} F d h e cells A = record {
  levels = A.levels;
  count = A.count;
  finals = λ k b m. A.finals k b
      (middle-both ns lefts d h (coordinate ps k) ∙ (λ j. within k b j && m j));
}
  where
    within : (k : ℕ) → k < cell_count ps → in_middle ns lefts (coordinate ps k) d ≡ true
    within k b =
        let l = coordinate_within ps k (padded-full F) b d (omega (arith, F.axes)) in
        let r = F.room d h in
        middle_in ns lefts (coordinate ps k) d (omega arith) (omega arith)

-- ---- the loop over the lanes of an axis, whatever grid was laid in the middle
pub record OnAxis (ps : List ℕ) (a p s count : ℕ) : Type 0 where
  pub long : p ≡ length_of ps a
  pub apart : s ≡ stride_of ps a
  pub many : count ≡ cell_count ps / length_of ps a
  pub split : count ≡ cell_count ps / p
  pub few : count ≤ 32768

pub on_axis_lem : {ns lefts ps : List ℕ} {a p s k : ℕ} → Framed ns lefts ps → p ≡ length_of ps a → s ≡ stride_of ps a → k ≡ cell_count ps → OnAxis ps a p s (k / p)
on_axis_lem {p = p} {k = k} F e f g = record { long = e; apart = f; many = (λ j. g j / e j); split = ap (λ (x : ℕ). x / p) g; few = omega (arith, div-le_self k p, g, F.small) }

pub record CellBorder (which : Statistic) (ns lefts ps : List ℕ) (d : ℕ) (out₀ : List ℤ) (l : ℕ) (out : List ℤ) : Type 0 where
  pub count : length out ≡ cell_count ps
  pub reached : (F : Framed ns lefts ps) (h : d < length ns) (cells : List ℤ) → Filled (mode_taking which) ns lefts ps cells d out₀ → Reached which F d h cells l out

module _ {which : Statistic} {ns lefts ps : List ℕ} {d : ℕ} {out₀ : List ℤ} where
  pub along_none : length out₀ ≡ cell_count ps → CellBorder which ns lefts ps d out₀ 0 out₀
  along_none e = record { count = e; reached = λ F h cells A. reached_none which F d h A }

  pub along_all : Framed ns lefts ps → d < length ns → {p s count l : ℕ} {out : List ℤ} → OnAxis ps d p s count → count ≤ l → CellBorder which ns lefts ps d out₀ l out
      → (cells : List ℤ) → Filled (mode_taking which) ns lefts ps cells d out₀ → Filled (mode_taking which) ns lefts ps cells (suc d) out
  along_all F h O b W cells A = reached_all which F d h (omega (arith, O.many)) (W.reached F h cells A)

  pub along_more : {p s count l : ℕ} {out out' : List ℤ} → OnAxis ps d p s count → l < count → CellBorder which ns lefts ps d out₀ l out → length out' ≡ length out
      → out' ≡ cond (middle_from ns lefts (suc d) (coordinate ps (lane_base p s l))) (filled_lane which p s l (get_or lefts d 0) (length_of ns d) out) out
      → CellBorder which ns lefts ps d out₀ (l + 1) out'
  along_more {p} {s} {count} {l} {out} {out'} O b W k e = record {
    count = k ∙ W.count;
    reached = λ F h cells A. go F h cells (W.reached F h cells A) (middle_from ns lefts (suc d) (coordinate ps (lane_base (length_of ps d) (stride_of ps d) l))) refl;
  }
    where
      e' : out' ≡ cond (middle_from ns lefts (suc d) (coordinate ps (lane_base (length_of ps d) (stride_of ps d) l)))
          (filled_lane which (length_of ps d) (stride_of ps d) l (get_or lefts d 0) (length_of ns d) out) out
      e' = e ∙ (λ j. cond (middle_from ns lefts (suc d) (coordinate ps (lane_base (O.long j) (O.apart j) l))) (filled_lane which (O.long j) (O.apart j) l (get_or lefts d 0) (length_of ns d) out) out)

      go : (F : Framed ns lefts ps) (h : d < length ns) (cells : List ℤ) → Reached which F d h cells l out → (t : Bool)
          → middle_from ns lefts (suc d) (coordinate ps (lane_base (length_of ps d) (stride_of ps d) l)) ≡ t → Reached which F d h cells (l + 1) out'
      go F h cells R true q = reached_filled which F d h R (omega (arith, O.many)) (e' ∙ cond_yes _ _ out q) q
      go F h cells R false q = subst (Reached which F d h cells (l + 1)) (sym (e' ∙ cond_no _ _ out q)) (reached_skipped which F d h R q)
