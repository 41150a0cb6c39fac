-- What an accepted call fills, lane by lane: on every lane of its axis the first level of each window of the padded line; with length 1, a copy.
-- Assumes nothing.
use mathlib.Core.Path.{◌≡◌, refl, sym, ap, subst, ◌∙◌}
use mathlib.Core.Bool.{Bool, true, false, not, ◌&&◌, cond}
use mathlib.Core.List.{List, map}
use Prim.Native.Nat.{ℕ, ◌+◌, ◌-◌, ◌≤◌, ◌<◌}
use native.Mathlib.Nat.{zero-add}
use native.Mathlib.Omega.{arith}
use borrow.Author.Tests.{ltb-true, eqb-true, not-false, lt-ltb}
use lib.Dec.{ltb, eqb}
use lib.IntN.{ℤ, pos, nat_abs, neg_ℤ, ◌+ℤ◌, ◌-ℤ◌, +ℤ_assoc, +ℤ_comm, neg_ℤ-+ℤ}
use lib.ListN.{length, get_or, take}
use lib.Seq.{ext_get_or}
use Rattle.numbers.specs.Lists.{tabulate, up_from}
use Rattle.numbers.specs.Order.{extreme}
use Rattle.numbers.specs.Windows.{window_of}
use Rattle.numbers.proofs.Range.{up_mem, map-up}
use Rattle.numbers.proofs.Tabulate.{length-tabulate, get_d_tabulate, drop-tabulate, take-tabulate}
use Rattle.numbers.proofs.Tests.{cond_yes, cond_no}
use Rattle.numbers.proofs.Window.{window_in}
use Rattle.array_spec.specs.Grid.{cell_count, coordinate, moved, level_at}
use Rattle.array_spec.proofs.Places.{Positive, place_coordinate, place_ext, coordinate_within}
use Rattle.array_spec.proofs.Shapes.{shape-accepted}
use Rattle.lanes.specs.Lanes.{along_axis}
use Rattle.lanes.proofs.AlongAxis.{length_along, get_d_along}
use Rattle.border.specs.Border.{Border, constant, along, cell_for, inside, extended_lane}
use Rattle.window_spec.specs.Origin.{bad_origin}
use Rattle.window_spec.proofs.Origins.{SignedPads, axis-accepted}
use Rattle.pad_line.specs.Line.{padded_at, padded_line}
use Rattle.window_spec.proofs.Reach.{pads_size as window-pads}
use Rattle.min_max_spec.specs.Call.{Call, left, right, alone, first_in, window, axis_length, number_of}
use Rattle.window_spec.specs.Window.{left_pad, right_pad}
use Rattle.min_max_spec.specs.Run.{lane_level, answer_of}
use Rattle.min_max_spec.proofs.Passed.{Passed, passed, length_answer}
use Rattle.min_max_spec.proofs.Sweep.{inside_lt}
use Rattle.min_max_spec.proofs.Windows.{Lands, in_window, cell-inside, lands}

-- for each cell of a lane the first level, in the order, of its window of the padded line
abbrev pub line_of : (ℤ → ℤ → Bool) → Call → List ℤ → List ℤ
line_of le c s = tabulate (λ i. extreme le (pos 0) (window_of (padded_line (pos 0) c.border (left_pad c.size c.origin) (right_pad c.size c.origin) s) i c.size)) 0 (length s)

-- two lanes that agree on the axis have the same extension where it lands on the axis
lane_agree : {A : Type 0} (b : Border A) (n : ℕ) (h h' : ℕ → A) (z : ℤ) → ((j : ℕ) → j < n → h j ≡ h' j) → Lands b n z → extended_lane b n h z ≡ extended_lane b n h' z
unfolding extended_lane
lane_agree (constant v) n h h' z f l = go (inside n z) refl
  where
    go : (t : Bool) → inside n z ≡ t → cond t (h (nat_abs z)) v ≡ cond t (h' (nat_abs z)) v
    go true t = f (nat_abs z) (inside_lt n z t)
    go false t = refl
lane_agree (along m) n h h' z f l = f (cell_for m n z) l

lane_inside_lem : {A : Type 0} (b : Border A) (n : ℕ) (h : ℕ → A) (i : ℕ) → i < n → extended_lane b n h (pos i) ≡ h i
unfolding extended_lane
lane_inside_lem (constant v) n h i l = cond_yes _ (h i) v (lt-ltb i n l)
lane_inside_lem (along m) n h i l = ap h (cell-inside m n i l)

-- i − l − o + t is i + t less the pad l + o
first_is : (i t : ℕ) (l o : ℤ) → (pos i -ℤ l -ℤ o) +ℤ pos t ≡ pos (i + t) -ℤ (l +ℤ o)
first_is i t l o =
    ap (λ (x : ℤ). x +ℤ pos t) (+ℤ_assoc (pos i) (neg_ℤ l) (neg_ℤ o) ∙ ap (λ (x : ℤ). pos i +ℤ x) (sym (neg_ℤ-+ℤ l o)))
    ∙ +ℤ_assoc (pos i) (neg_ℤ (l +ℤ o)) (pos t) ∙ ap (λ (x : ℤ). pos i +ℤ x) (+ℤ_comm (neg_ℤ (l +ℤ o)) (pos t)) ∙ sym (+ℤ_assoc (pos i) (pos t) (neg_ℤ (l +ℤ o)))

first-padded : (c : Call) (i : ℤ) → alone c ≡ false → first_in c i ≡ i -ℤ pos (left c) -ℤ c.origin
unfolding first_in
first-padded c i e = cond_no (alone c) i (i -ℤ pos (left c) -ℤ c.origin) e

first_alone : (c : Call) (i : ℤ) → alone c ≡ true → first_in c i ≡ i
unfolding first_in
first_alone c i e = cond_yes (alone c) i (i -ℤ pos (left c) -ℤ c.origin) e

-- ---- the pads of an accepted call that is not alone
module _ (cells : List ℤ) (c : Call) (P : Passed cells c) (padded : alone c ≡ false) where
  origin_in : bad_origin c.size c.origin ≡ false
  origin_in = ap (λ t. not t && bad_origin c.size c.origin) (sym padded) ∙ P.origin

  signed : SignedPads (left c) (right c) c.origin
  signed = axis-accepted c.size c.origin origin_in

  pub pads_size : left_pad c.size c.origin + right_pad c.size c.origin + 1 ≡ c.size
  pads_size = window-pads c.size c.origin origin_in

  -- the window of cell i of a lane s, as coordinates and as a part of the padded line
  module _ (h : ℕ → ℤ) (s : List ℤ) (i : ℕ) (len : length s ≡ axis_length c) (l : i < axis_length c) (same : (j : ℕ) → j < axis_length c → h j ≡ get_or s j (pos 0)) where
    at_place : (t : ℕ) → t < c.size → extended_lane c.border (axis_length c) h (first_in c (pos i) +ℤ pos t) ≡ padded_at (pos 0) c.border (left_pad c.size c.origin) s (i + t)
    unfolding padded_at
    at_place t m =
        lane_agree c.border (axis_length c) h (λ j. get_or s j (pos 0)) (first_in c (pos i) +ℤ pos t) same
        (lands cells c P i l (first_in c (pos i) +ℤ pos t) (in_window c (pos i) (first_in c (pos i) +ℤ pos t) (up_mem (first_in c (pos i)) c.size t m)))
        ∙ (λ j. extended_lane c.border (sym len j) (λ j. get_or s j (pos 0)) (coordinate_is j))
      where
        coordinate_is : first_in c (pos i) +ℤ pos t ≡ pos (i + t) -ℤ pos (left_pad c.size c.origin)
        coordinate_is =
            ap (λ (x : ℤ). x +ℤ pos t) (first-padded c (pos i) padded) ∙ first_is i t (pos (left c)) c.origin ∙ ap (λ (x : ℤ). pos (i + t) -ℤ x) (sym signed.left_pad_lem)

    same_window : map (extended_lane c.border (axis_length c) h) (window c (pos i)) ≡ window_of (padded_line (pos 0) c.border (left_pad c.size c.origin) (right_pad c.size c.origin) s) i
        c.size
    unfolding padded_line
    same_window =
        let p = left_pad c.size c.origin in
        let q = right_pad c.size c.origin in
        let g = padded_at (pos 0) c.border p s in
        let total = p + length s + q in
        let fits : i + c.size ≤ length (tabulate g 0 total) = omega (arith, length-tabulate g 0 total, pads_size) in
        map-up (extended_lane c.border (axis_length c) h) g (first_in c (pos i)) i c.size at_place
        ∙ sym (window_in (tabulate g 0 total) i c.size fits
        ∙ ap (take c.size) (drop-tabulate g 0 total i ∙ ap (λ x. tabulate g x (total - i)) (zero-add i))
        ∙ take-tabulate g i (total - i) c.size (omega (arith, pads_size)))

-- ---- the whole grid
module _ (le : ℤ → ℤ → Bool) (cells : List ℤ) (c : Call) (accept : number_of cells c ≡ 0) where
  P : Passed cells c
  P = passed cells c accept

  on : c.axis < length c.shape
  on = ltb-true c.axis (length c.shape) (not-false (ltb c.axis (length c.shape)) P.axis)

  count : length cells ≡ cell_count c.shape
  count = P.grid.count

  full : Positive c.shape
  full = (shape-accepted c.shape P.grid.shape).full

  -- the level that the call gives at place k
  given : (k : ℕ) → k < length cells → get_or (answer_of le cells c) k (pos 0) ≡ extreme le (pos 0) (map (lane_level cells c k) (window c (pos (coordinate c.shape k c.axis))))
  unfolding answer_of
  given k h = get_d_tabulate (λ k. extreme le (pos 0) (map (lane_level cells c k) (window c (pos (coordinate c.shape k c.axis))))) (length cells) k (pos 0) h

  pub answer_lanes : alone c ≡ false → answer_of le cells c ≡ along_axis (pos 0) (line_of le c) c.shape c.axis cells
  answer_lanes padded =
      ext_get_or (pos 0) (answer_of le cells c) (along_axis (pos 0) (line_of le c) c.shape c.axis cells)
      (length_answer le cells c ∙ sym (length_along (pos 0) (line_of le c) c.shape c.axis cells))
      (λ k h. at k (subst (λ (n : ℕ). k < n) (length_answer le cells c) h))
    where
      at : (k : ℕ) → k < length cells → get_or (answer_of le cells c) k (pos 0) ≡ get_or (along_axis (pos 0) (line_of le c) c.shape c.axis cells) k (pos 0)
      at k h =
          let b : k < cell_count c.shape = subst (λ (n : ℕ). k < n) count h in
          let p = coordinate c.shape k in
          let n = axis_length c in
          let f : ℕ → ℤ = λ j. level_at (pos 0) c.shape cells (moved c.axis j p) in
          let s = tabulate f 0 n in
          let ls : length s ≡ n = length-tabulate f 0 n in
          let m : p c.axis < n = coordinate_within c.shape k full b c.axis on in
          given k h
          ∙ ap (extreme le (pos 0)) (same_window cells c P padded f s (p c.axis) ls m (λ j l. sym (get_d_tabulate f n j (pos 0) l)))
          ∙ sym (ap (λ x. get_or (along_axis (pos 0) (line_of le c) c.shape c.axis cells) x (pos 0)) (sym (place_coordinate c.shape k full b))
          ∙ get_d_along (pos 0) (line_of le c) c.shape c.axis cells p full on (coordinate_within c.shape k full b) count
          ∙ get_d_tabulate (λ i. extreme le (pos 0) (window_of (padded_line (pos 0) c.border (left_pad c.size c.origin) (right_pad c.size c.origin) s) i c.size)) (length s) (p c.axis)
          (pos 0) (subst (λ (x : ℕ). p c.axis < x) (sym ls) m))

  pub answer_copied : alone c ≡ true → answer_of le cells c ≡ cells
  answer_copied one =
      ext_get_or (pos 0) (answer_of le cells c) cells (length_answer le cells c) (λ k h. at k (subst (λ (n : ℕ). k < n) (length_answer le cells c) h))
    where
      own : (k x : ℕ) (t : Bool) → eqb x c.axis ≡ t → cond t (coordinate c.shape k c.axis) (coordinate c.shape k x) ≡ coordinate c.shape k x
      own k x true t = ap (coordinate c.shape k) (sym (eqb-true x c.axis t))
      own k x false t = refl

      at : (k : ℕ) → k < length cells → get_or (answer_of le cells c) k (pos 0) ≡ get_or cells k (pos 0)
      at k h =
          let b : k < cell_count c.shape = subst (λ (n : ℕ). k < n) count h in
          let i = coordinate c.shape k c.axis in
          let m : i < axis_length c = coordinate_within c.shape k full b c.axis on in
          given k h
          ∙ (λ j. extreme le (pos 0) (map (lane_level cells c k) (up_from (first_alone c (pos i) one j) (eqb-true c.size 1 one j))))
          ∙ lane_inside_lem c.border (axis_length c) (λ j. level_at (pos 0) c.shape cells (moved c.axis j (coordinate c.shape k))) i m
          ∙ ap (λ x. get_or cells x (pos 0)) (place_ext c.shape (moved c.axis i (coordinate c.shape k)) (coordinate c.shape k) (λ x l. own k x (eqb x c.axis) refl)
          ∙ place_coordinate c.shape k full b)
