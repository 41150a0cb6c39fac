-- Lanes of cells that stand side by side: where they are, that they are inside, and the padded line that padding one leaves.
-- Assumes nothing.
use mathlib.Core.Path.{◌≡◌, ap, ◌∙◌}
use mathlib.Core.Bool.{true, false, ◌&&◌}
use mathlib.Core.List.{List, ◌++◌}
use Prim.Native.Nat.{ℕ, ◌+◌, ◌*◌, ◌≤◌, ◌<◌}
use native.Mathlib.Omega.{arith}
use borrow.Author.Tests.{le-leb}
use lib.ListN.{length, get_or, drop, get_or-append}
use Rattle.lanes.specs.Lanes.{lane_base, lane, lane_inside}
use Rattle.lanes.proofs.Cells.{get_d_lane_at, length-lane_at, base_neighbours, inside_yes}
use Rattle.border.specs.Border.{Border}
use Rattle.pad_line.specs.Line.{padded_at, padded_line, padded_lane}
use Rattle.border.specs.Reach.{bad_pad}
use Rattle.pad_line.proofs.Padded.{length-padded, get_d_padded}
use Rattle.pad_line.proofs.Serves.{Serves, served_line}

pub lane_row : {A : Type 0} (d : A) (n l : ℕ) (g : List A) (i : ℕ) → i < n → get_or (lane d n 1 l g) i d ≡ get_or g (l * n + i) d
lane_row d n l g i h = get_d_lane_at d g (lane_base n 1 l) 1 n i h ∙ ap (λ k. get_or g k d) (omega (arith, base_neighbours n l))

pub row_inside : (n l count : ℕ) → 0 < n → l * n + n ≤ count → count ≤ 32768 → lane_inside n 1 l count ≡ true
row_inside n l count some h small = inside_yes (record { small = small; some = some; apart = omega arith; short = omega arith; last = omega (arith, base_neighbours n l) })

-- ---- a lane of n cells side by side that is padded into a line with room
module _ {A : Type 0} (d : A) (b : Border A) (n l left right : ℕ) (g held : List A) (some : 0 < n) (inside : l * n + n ≤ length g) (small : length g ≤ 32768)
    (room : left + n + right ≤ length held) (fl : bad_pad b n left ≡ false) (fr : bad_pad b n right ≡ false) where
  serves : Serves b n 1 l left right g held
  serves = record { fits = (λ j. row_inside n l (length g) some inside small j && le-leb (left + n + right) (length held) room j); fills_left = fl; fills_right = fr }

  padded_is : padded_lane d b n 1 l left right g held ≡ padded_line d b left right (lane d n 1 l g) ++ drop (left + n + right) held
  padded_is = served_line d serves

  long : length (lane d n 1 l g) ≡ n
  long = length-lane_at d g (lane_base n 1 l) 1 n

  pub padded-cell : (k : ℕ) → k < left + n + right → get_or (padded_lane d b n 1 l left right g held) k d ≡ padded_at d b left (lane d n 1 l g) k
  padded-cell k h =
      let s = lane d n 1 l g in
      let p : k < left + length s + right = omega (arith, long) in
      ap (λ (x : List A). get_or x k d) padded_is
      ∙ get_or-append (padded_line d b left right s) (drop (left + n + right) held) d k (omega (arith, length-padded d left s b right))
      ∙ get_d_padded d left s b right k p
