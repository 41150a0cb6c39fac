-- A line function on every lane of an axis: its length, its level at a place, and that a loop over the lanes computes it.
-- Assumes nothing.
use mathlib.Core.Path.{◌≡◌, sym, ap, subst, ◌∙◌}
use mathlib.Core.Bool.{true, cond}
use mathlib.Core.List.{List}
use Prim.Native.Nat.{ℕ, zero, suc, ◌+◌, ◌*◌, ◌-◌, ◌/◌, ◌≤◌, ◌<◌}
use native.Mathlib.Nat.{not-suc-le-zero, suc-mul, mod-lt, div-lt_iff_lt-mul, mul_assoc, mul_comm, mul-div_cancel}
use lib.Dec.{ltb, eqb}
use native.Mathlib.Omega.{arith}
use lib.ListN.{length, get_or}
use Rattle.numbers.specs.Lists.{tabulate}
use Rattle.numbers.proofs.Stored.{Stored}
use Rattle.numbers.proofs.Tabulate.{length-tabulate, get_d_tabulate, tabulate_agree}
use Rattle.array_spec.specs.Grid.{cell_count, length_of, stride_of, place_of, coordinate, moved, level_at}
use Rattle.lanes.specs.Lanes.{lane_of, lane_base, lane_at, lane, lane_inside, lane_through, along_axis}
use Rattle.array_spec.proofs.Places.{Within, Positive, length_pos, place_lt, coordinate_place, place_ext}
use Rattle.array_spec.proofs.Shapes.{Accepted}
use Rattle.array_spec.proofs.Strides.{outer_of, count_split, stride_pos, coordinate_digit, place_moved}
use Rattle.lanes.proofs.Cells.{base_of, lane_below, step_le, inside_yes}
use Rattle.lanes.proofs.Stores.{level_along, lanes_all}

pub length_along : {A : Type 0} (d : A) (f : List A → List A) (ns : List ℕ) (a : ℕ) (g : List A) → length (along_axis d f ns a g) ≡ length g
unfolding along_axis
length_along d f ns a g = length-tabulate _ 0 (length g)

-- the cells over the cells of a lane are the lanes
pub count_lanes : (ns : List ℕ) (a : ℕ) → Positive ns → a < length ns → cell_count ns / length_of ns a ≡ outer_of ns a * stride_of ns a
count_lanes ns a p h =
    let n = length_of ns a in
    let e : cell_count ns ≡ outer_of ns a * stride_of ns a * n = count_split ns a h ∙ ap (λ x. outer_of ns a * x) (mul_comm n (stride_of ns a)) ∙ sym (mul_assoc (outer_of ns a) (stride_of ns a) n) in
    ap (λ x. x / n) e ∙ mul-div_cancel (outer_of ns a * stride_of ns a) (length_pos ns a p)

-- every lane of a grid of at most 32,768 cells is inside it
pub lanes_within : (ns : List ℕ) (a l : ℕ) → Positive ns → cell_count ns ≤ 32768 → a < length ns → l < cell_count ns / length_of ns a → lane_inside (length_of ns a) (stride_of ns a) l (cell_count ns) ≡ true
lanes_within ns a l full small h b = inside_yes (record { small = small; some = pn; apart = ps; short = short; last = last })
  where
    n : ℕ
    n = length_of ns a

    s : ℕ
    s = stride_of ns a

    pn : 0 < n
    pn = length_pos ns a full

    ps : 0 < s
    ps = stride_pos ns a full

    run : l / s * (n * s) + n * s ≤ cell_count ns
    run = subst (λ (m : ℕ). l / s * (n * s) + n * s ≤ m) (sym (count_split ns a h)) (step_le (n * s) ((div-lt_iff_lt-mul ps).1 (subst (λ (m : ℕ). l < m) (count_lanes ns a full h) b)))

    whole : (n : ℕ) → 0 < n → n * s ≡ (n - 1) * s + s
    whole zero h = absurd (not-suc-le-zero h)
    whole (suc m) h = let e : m ≡ suc m - 1 = omega arith in suc-mul m s ∙ ap (λ x. x * s + s) e

    short : s ≤ cell_count ns
    short = omega (arith, run, whole n pn)

    last : lane_base n s l + (n - 1) * s < cell_count ns
    last = omega (arith, run, whole n pn, mod-lt l ps)

-- of an accepted shape too
pub lanes_inside : (ns : List ℕ) (a l : ℕ) → Accepted ns → a < length ns → l < cell_count ns / length_of ns a → lane_inside (length_of ns a) (stride_of ns a) l (cell_count ns) ≡ true
lanes_inside ns a l A h b = lanes_within ns a l A.full (omega (arith, A.small)) h b

-- ---- the lane through a place, and by strides
module _ {A : Type 0} (d : A) (ns : List ℕ) (a : ℕ) (g : List A) (full : Positive ns) (on : a < length ns) where
  abbrev n : ℕ
  n = length_of ns a

  abbrev s : ℕ
  s = stride_of ns a

  lane-through : (k : ℕ) → k < cell_count ns → lane d n s (lane_of n s k) g ≡ lane_through d ns a g k
  unfolding lane_at
  lane-through k b = tabulate_agree (λ i. get_or g (lane_base n s (lane_of n s k) + i * s) d) (λ i. level_at d ns g (moved a i (coordinate ns k))) 0 n (λ i _. at (0 + i))
    where
      at : (i : ℕ) → get_or g (lane_base n s (lane_of n s k) + i * s) d ≡ level_at d ns g (moved a i (coordinate ns k))
      at i = ap (λ x. get_or g x d) (ap (λ x. x + i * s) (base_of n s (length_pos ns a full) (stride_pos ns a full) k) ∙ sym (place_moved ns a k i full on b))

  -- along_axis as the code has it: cell k / s % n of f of lane lane_of n s k
  pub along_strides : (f : List A → List A) → length g ≡ cell_count ns → tabulate (level_along d f n s g) 0 (length g) ≡ along_axis d f ns a g
  unfolding along_axis
  along_strides f e =
      tabulate_agree (level_along d f n s g) (λ k. get_or (f (lane_through d ns a g k)) (coordinate ns k a) d) 0 (length g)
      (λ k b. at (0 + k) (omega arith))
    where
      at : (k : ℕ) → k < cell_count ns → level_along d f n s g k ≡ get_or (f (lane_through d ns a g k)) (coordinate ns k a) d
      at k b = λ j. get_or (f (lane-through k b j)) (sym (coordinate_digit ns a k full on b) j) d

-- ---- the level at given coordinates: cell p a of f of the lane through them
pub get_d_along : {A : Type 0} (d : A) (f : List A → List A) (ns : List ℕ) (a : ℕ) (g : List A) (p : ℕ → ℕ) → Positive ns → a < length ns → Within ns p → length g ≡ cell_count ns
    → get_or (along_axis d f ns a g) (place_of ns p) d ≡ get_or (f (tabulate (λ i. level_at d ns g (moved a i p)) 0 (length_of ns a))) (p a) d
unfolding along_axis
get_d_along d f ns a g p pos h w e =
    let k = place_of ns p in
    get_d_tabulate (λ k. get_or (f (lane_through d ns a g k)) (coordinate ns k a) d) (length g) k d (subst (λ (m : ℕ). k < m) (sym e) (place_lt ns p w))
    ∙ (λ j. get_or (f (tabulate_agree (λ i. level_at d ns g (moved a i (coordinate ns k))) (λ i. level_at d ns g (moved a i p)) 0 (length_of ns a) (λ i _. at (0 + i)) j)) (coordinate_place ns p w a h j) d)
  where
    at : (i : ℕ) → level_at d ns g (moved a i (coordinate ns (place_of ns p))) ≡ level_at d ns g (moved a i p)
    at i =
        ap (λ x. get_or g x d)
        (place_ext ns (moved a i (coordinate ns (place_of ns p))) (moved a i p) (λ b l. ap (cond (eqb b a) i) (coordinate_place ns p w b l)))

-- ---- a loop over the lanes
pub along_loop : {A : Type 0} (d : A) (f : List A → List A) (ns : List ℕ) (a : ℕ) (g : List A) {out₀ out : List A} → Positive ns → a < length ns → length g ≡ cell_count ns → length out₀ ≡ length g
    → Stored d (λ k. ltb (lane_of (length_of ns a) (stride_of ns a) k) (cell_count ns / length_of ns a)) (level_along d f (length_of ns a) (stride_of ns a) g) out₀ out
    → out ≡ along_axis d f ns a g
along_loop d f ns a g {out₀} {out} pos h e o S =
    lanes_all d f (length_of ns a) (stride_of ns a) g (cell_count ns / length_of ns a)
    (λ k b. subst (λ (m : ℕ). lane_of (length_of ns a) (stride_of ns a) k < m) (sym (count_lanes ns a pos h))
    (lane_below (length_of ns a) (stride_of ns a) (length_pos ns a pos) (stride_pos ns a pos) (outer_of ns a) k (subst (λ (m : ℕ). k < m) (o ∙ e ∙ count_split ns a h) b))) S
    ∙ ap (tabulate (level_along d f (length_of ns a) (stride_of ns a) g) 0) o
    ∙ along_strides d ns a g pos h f e
