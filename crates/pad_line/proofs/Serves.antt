-- Where a lane is padded and where the line stays as it was, by the answers of the tests.
-- Assumes nothing.
use mathlib.Core.Path.{◌≡◌, refl, sym, ap, subst, ◌∙◌}
use mathlib.Core.Bool.{Bool, true, false, ◌&&◌, not, cond, and-false}
use mathlib.Core.List.{List, ◌++◌}
use Prim.Native.Nat.{ℕ, ◌+◌, ◌*◌, ◌≤◌, ◌<◌}
use native.Mathlib.Omega.{arith}
use borrow.Author.Tests.{le-leb, leb-true, eqb-true, eqb-false}
use lib.Dec.{eqb, leb}
use lib.ListN.{length, drop}
use Rattle.numbers.specs.Windows.{window_of}
use Rattle.numbers.proofs.Tests.{and_true, cond_yes, cond_no, condition_is}
use Rattle.numbers.proofs.Window.{window-append}
use Rattle.lanes.specs.Lanes.{lane_base, lane_inside, lane_at, lane}
use Rattle.lanes.proofs.Cells.{lane_inside_lem, inside-whole, length-lane_at}
use Rattle.lanes.proofs.FirstPlace.{place_none, place_some}
use Rattle.border.specs.Border.{Border}
use Rattle.pad_line.specs.Line.{padded_line, pad_serves, padded_lane, PadNeeds}
use Rattle.border.specs.Reach.{bad_pad}
use Rattle.pad_line.proofs.Padded.{length-padded}

-- ---- a lane that is inside, and a padded line that is short enough
module _ (n s l count : ℕ) {r : ℕ} (e : r ≡ cond (lane_inside n s l count) (lane_base n s l) count) (total room : ℕ) (h : total ≤ room) where
  pub lane_test : not (eqb r count) ≡ lane_inside n s l count && leb total room
  lane_test = go (eqb r count) refl
    where
      go : (t : Bool) → eqb r count ≡ t → not t ≡ lane_inside n s l count && leb total room
      go true q = sym (ap (λ i. i && leb total room) (place_none n s l count r e (eqb-true r count q)))
      go false q = sym (λ j. place_some n s l count r e (eqb-false r count q) j && le-leb total room h j)

-- ---- the line stays as it was
no_left : (i r : Bool) → i && not true && not r ≡ false
no_left true r = refl
no_left false r = refl

module _ {A : Type 0} (d : A) (b : Border A) (n s l left right : ℕ) (g held : List A) where
  fit : Bool
  fit = lane_inside n s l (length g) && leb (left + n + right) (length held)

  stays : pad_serves b n s l (length g) left right (length held) ≡ false → held ≡ padded_lane d b n s l left right g held
  stays e = sym (cond_no _ (padded_line d b left right (lane d n s l g) ++ drop (left + n + right) held) held e)

  pub bad-right_stays : {r : Bool} → r ≡ bad_pad b n right → r ≡ true → held ≡ padded_lane d b n s l left right g held
  unfolding pad_serves fit
  bad-right_stays e t = stays (ap (λ x. fit && not (bad_pad b n left) && not x) (condition_is e t) ∙ and-false (fit && not (bad_pad b n left)))

  pub bad-left_stays : {r : Bool} → r ≡ bad_pad b n left → r ≡ true → held ≡ padded_lane d b n s l left right g held
  unfolding pad_serves fit
  bad-left_stays e t = stays (ap (λ x. fit && not x && not (bad_pad b n right)) (condition_is e t) ∙ no_left fit (bad_pad b n right))

  pub lane_stays : {r : Bool} → r ≡ lane_inside n s l (length g) && leb (left + n + right) (length held) → r ≡ false → held ≡ padded_lane d b n s l left right g held
  unfolding pad_serves
  lane_stays e t = stays (ap (λ x. x && not (bad_pad b n left) && not (bad_pad b n right)) (condition_is e t))

-- ---- the lane is padded
-- what the tests have told where the lane is padded
pub record Serves {A : Type 0} (b : Border A) (n s l left right : ℕ) (g held : List A) : Type 0 where
  pub fits : lane_inside n s l (length g) && leb (left + n + right) (length held) ≡ true
  pub fills_left : bad_pad b n left ≡ false
  pub fills_right : bad_pad b n right ≡ false

module _ {A : Type 0} (d : A) {b : Border A} {n s l left right : ℕ} {g held : List A} (S : Serves b n s l left right g held) where
  inside : lane_inside n s l (length g) ≡ true
  inside = (and_true (lane_inside n s l (length g)) (leb (left + n + right) (length held)) S.fits).0

  pub some_cells : 0 < n
  some_cells = (lane_inside_lem n s l (length g) inside).some

  pub line_room_lem : left + n + right ≤ length held
  line_room_lem = leb-true (left + n + right) (length held) (and_true (lane_inside n s l (length g)) (leb (left + n + right) (length held)) S.fits).1

  serves : pad_serves b n s l (length g) left right (length held) ≡ true
  unfolding pad_serves
  serves = (λ j. S.fits j && not (S.fills_left j) && not (S.fills_right j))

  -- ---- for a caller: what the line holds, and its windows
  pub served_line : padded_lane d b n s l left right g held ≡ padded_line d b left right (lane d n s l g) ++ drop (left + n + right) held
  served_line = cond_yes _ (padded_line d b left right (lane d n s l g) ++ drop (left + n + right) held) held serves

  pub served_window : (i len : ℕ) → i + len ≤ left + n + right → window_of (padded_lane d b n s l left right g held) i len ≡ window_of (padded_line d b left right (lane d n s l g)) i len
  served_window i len h =
      ap (λ (x : List A). window_of x i len) served_line
      ∙ window-append (padded_line d b left right (lane d n s l g)) (drop (left + n + right) held) i len
      (omega (arith, length-padded d left (lane d n s l g) b right, length-lane_at d g (lane_base n s l) s n))

  -- ---- where the lane starts, as `first_place` answers it
  module _ {base : ℕ} (e : base ≡ cond (lane_inside n s l (length g)) (lane_base n s l) (length g)) where
    base_is : base ≡ lane_base n s l
    base_is = e ∙ cond_yes (lane_inside n s l (length g)) (lane_base n s l) (length g) inside

    pub served_from : PadNeeds b n s base left right g held
    served_from = record {
      some = some_cells;
      inside = subst (λ (k : ℕ). k + n * s < length g + s) (sym base_is) (inside-whole (lane_inside_lem n s l (length g) inside));
      fits = line_room_lem;
      fills_left = S.fills_left;
      fills_right = S.fills_right;
    }

    pub lane-padded : {line : List A} → line ≡ padded_line d b left right (lane_at d g base s n) ++ drop (left + n + right) held → line ≡ padded_lane d b n s l left right g held
    lane-padded q = q ∙ ap (λ k. padded_line d b left right (lane_at d g k s n) ++ drop (left + n + right) held) base_is ∙ sym served_line
