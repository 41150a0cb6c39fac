-- Where a lane is padded and where the grid stays as it was, by the answers of the tests.
-- Assumes nothing.
use mathlib.Core.Path.{◌≡◌, refl, sym, ap, ◌∙◌}
use mathlib.Core.Bool.{Bool, true, false, ◌&&◌, not, true≢false}
use mathlib.Core.List.{List}
use Prim.Native.Nat.{ℕ, ◌+◌, ◌-◌, ◌*◌, ◌≤◌, ◌<◌}
use native.Mathlib.Nat.{mul-one}
use native.Mathlib.Omega.{arith}
use borrow.Author.Tests.{leb-true}
use lib.Dec.{leb}
use lib.IntN.{ℤ, pos}
use lib.ListN.{length, get_or, take, drop, length-take, length-drop}
use lib.Seq.{get_or-take, get_or-drop, ext_get_or}
use Rattle.numbers.proofs.Tests.{and_true, cond_yes, cond_no}
use Rattle.lanes.specs.Lanes.{lane, lane_base, lane_inside, with_lane, read_lane}
use Rattle.lanes.proofs.Cells.{lane_inside_lem, inside-whole}
use Rattle.border.specs.Border.{constant}
use Rattle.pad_line.specs.Line.{padded_line}
use Rattle.pad_spec.specs.Fill.{statistic_of, lane_serves, filled_lane}
use Rattle.pad_spec.specs.declared.rim.Statistic.{Statistic}
use Rattle.pad_spec.proofs.Rims.{own_of, length_own, get_d_own}

pub record Serving (p s l count left n : ℕ) : Type 0 where
  pub inside : lane_inside p s l count ≡ true
  pub short : p ≤ 1152
  pub room : left + n ≤ p

not_true : (t : Bool) → not t ≡ true → t ≡ false
not_true true e = absurd (true≢false (sym e))
not_true false e = refl

not_no : (t : Bool) → not t ≡ false → t ≡ true
not_no true e = refl
not_no false e = absurd (true≢false e)

pub serving : (p s l count left n : ℕ) → lane_serves p s l count left n ≡ true → Serving p s l count left n
unfolding lane_serves
serving p s l count left n e =
    let i = lane_inside p s l count in
    let t = and_true (i && leb p 1152 && leb 1 n) (leb (left + n) p) e in
    let u = and_true (i && leb p 1152) (leb 1 n) t.0 in
    let v = and_true i (leb p 1152) u.0 in record {
      inside = v.0;
      short = leb-true p 1152 v.1;
      room = leb-true (left + n) p t.1;
    }

-- what a call leaves, where the lane is not served and where it is
module _ (which : Statistic) (p s l left n : ℕ) (g : List ℤ) {t : Bool} (e : t ≡ lane_serves p s l (length g) left n) where
  pub lane_stays : not t ≡ true → g ≡ filled_lane which p s l left n g
  unfolding filled_lane
  lane_stays q = sym (cond_no (lane_serves p s l (length g) left n) _ g (sym e ∙ not_true t q))

  pub lane_served : not t ≡ false → Serving p s l (length g) left n
  lane_served q = serving p s l (length g) left n (sym e ∙ not_no t q)

  pub lane-filled : {h : List ℤ} → not t ≡ false
      → h ≡ with_lane (pos 0) p s l (padded_line (pos 0) (constant (statistic_of which (own_of (pos 0) p s l left n g))) left (p - (left + n)) (own_of (pos 0) p s l left n g)) g
      → h ≡ filled_lane which p s l left n g
  unfolding filled_lane
  lane-filled q u = u ∙ sym (cond_yes (lane_serves p s l (length g) left n) _ g (sym e ∙ not_no t q))

-- ---- the lane's own cells as a part of the line that the lane was read into
pub own_read : (s l left n : ℕ) (g held : List ℤ) {line : List ℤ} → line ≡ read_lane (pos 0) s l g held → lane_inside (length held) s l (length g) ≡ true
    → take (left + n - left) (drop left line) ≡ own_of (pos 0) (length held) s l left n g
own_read s l left n g held e h =
    let m : left + n - left ≡ n = omega arith in
    (λ j. take (m j) (drop left ((e ∙ cond_yes (lane_inside (length held) s l (length g)) (lane (pos 0) (length held) s l g) held h) j)))

-- ---- the own cells of a lane whose cells stand side by side, as a part of the grid
module _ (p s l left n : ℕ) (g : List ℤ) {at : ℕ} (e : s ≡ 1) (b : at ≡ lane_base p s l) (h : lane_inside p s l (length g) ≡ true) (room : left + n ≤ p) where
  pub beside_whole : at + left + n ≤ length g
  beside_whole =
      let w = inside-whole (lane_inside_lem p s l (length g) h) in
      let q : p * s ≡ p = ap (λ x. p * x) e ∙ mul-one p in
      omega arith

  pub own_beside : take (at + left + n - (at + left)) (drop (at + left) g) ≡ own_of (pos 0) p s l left n g
  own_beside = ext_get_or (pos 0) (take (at + left + n - (at + left)) (drop (at + left) g)) (own_of (pos 0) p s l left n g) (long ∙ sym (length_own (pos 0) p s l left n g room))
      (λ i c. cells i (omega (arith, long)))
    where
      long : length (take (at + left + n - (at + left)) (drop (at + left) g)) ≡ n
      long = simp (length-take, length-drop) (omega (arith, beside_whole))

      cells : (i : ℕ) → i < n → get_or (take (at + left + n - (at + left)) (drop (at + left) g)) i (pos 0) ≡ get_or (own_of (pos 0) p s l left n g) i (pos 0)
      cells i c =
          let q : (left + i) * s ≡ left + i = ap (λ x. (left + i) * x) e ∙ mul-one (left + i) in
          let r : at + left + i ≡ lane_base p s l + (left + i) * s = omega arith in
          get_or-take (at + left + n - (at + left)) (drop (at + left) g) i (pos 0) (omega arith)
          ∙ get_or-drop (at + left) g i (pos 0)
          ∙ ap (λ x. get_or g x (pos 0)) r
          ∙ sym (get_d_own (pos 0) p s l left n g room i c)
