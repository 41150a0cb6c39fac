-- The cells of a lane read into the middle of a line and extended there are the padded line, over any element.
-- Assumes nothing.
use mathlib.Core.Path.{◌≡◌, sym, ap, subst, ◌∙◌}
use mathlib.Core.List.{List, ◌++◌}
use Prim.Native.Nat.{ℕ, ◌+◌, ◌-◌, ◌*◌, ◌≤◌, ◌<◌}
use native.Mathlib.Omega.{arith}
use borrow.Rule.Slice.PartMut.{mid_of, post_of, put_mid, mid_len, same_len_mid, drop_put}
use lib.ListN.{length, take, drop}
use lib.Seq.{length-take-le, take_at, drop_at, drop-drop}
use Rattle.lanes.specs.Lanes.{lane_at}
use Rattle.lanes.proofs.Cells.{length-lane_at}
use Rattle.border.specs.Border.{Border}
use Rattle.pad_line.specs.Line.{padded_line, pad_middle, PadNeeds}

module _ {A : Type 0} (d : A) {b : Border A} {n s base left right : ℕ} {g held : List A} (P : PadNeeds b n s base left right g held) where
  cells : length (mid_of left (left + n - left) held) ≡ n
  cells = mid_len left (left + n) held (omega (arith, P.fits)) ∙ omega arith

  pub middle-inside : base + length (mid_of left (left + n - left) held) * s < length g + s
  middle-inside = subst (λ (m : ℕ). base + m * s < length g + s) (sym cells) P.inside

  module _ {part : List A} (read : part ≡ lane_at d g base s (length (mid_of left (left + n - left) held))) where
    read_is : part ≡ lane_at d g base s n
    read_is = read ∙ ap (lane_at d g base s) cells

    size : length part ≡ n
    size = ap length read_is ∙ length-lane_at d g base s n

    pub read_fits : left + n + right ≤ length (put_mid left (left + n - left) held part)
    read_fits = omega (arith, P.fits, same_len_mid left (left + n - left) held part (size ∙ sym cells))

    pub line-padded : {line : List A} → line ≡ pad_middle d b left n right (put_mid left (left + n - left) held part)
        → line ≡ padded_line d b left right (lane_at d g base s n) ++ drop (left + n + right) held
    line-padded e = e ∙ (λ j. padded_line d b left right (middle j) ++ rest j)
      where
        post : List A
        post = post_of left (left + n - left) held

        middle : take n (drop left (put_mid left (left + n - left) held part)) ≡ lane_at d g base s n
        middle = ap (take n) (drop_at (take left held) (part ++ post) left (length-take-le left held (omega (arith, P.fits)))) ∙ take_at part post n size ∙ read_is

        rest : drop (left + n + right) (put_mid left (left + n - left) held part) ≡ drop (left + n + right) held
        rest =
            sym (drop-drop right (left + n) (put_mid left (left + n - left) held part))
            ∙ ap (drop right) (drop_put left (left + n) held part (omega arith) (omega (arith, P.fits)) (size ∙ omega arith))
            ∙ drop-drop right (left + n) held
