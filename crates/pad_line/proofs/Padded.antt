-- The padded line: its length, its level at a place, before, inside and after the lane; its middle is the lane, and a window of it is cells of the extension.
-- Assumes nothing.
use mathlib.Core.Path.{◌≡◌, refl, sym, ap, ◌∙◌}
use mathlib.Core.Bool.{Bool, cond}
use mathlib.Core.List.{List}
use Prim.Native.Nat.{ℕ, suc, ◌+◌, ◌-◌, ◌≤◌, ◌<◌}
use native.Mathlib.Omega.{arith}
use borrow.Author.Tests.{lt-ltb, le-ltb}
use lib.IntN.{pos, ◌-ℤ◌}
use lib.ListN.{length, get_or, take, drop, length-take, length-drop}
use lib.Seq.{get_or-take, get_or-drop, ext_get_or}
use Rattle.numbers.specs.Windows.{window_of}
use Rattle.numbers.proofs.IntSum.{minus_pos, minus-neg}
use Rattle.numbers.proofs.Tabulate.{length-tabulate, get_d_tabulate}
use Rattle.numbers.proofs.Window.{get_d_window}
use Rattle.border.specs.Border.{Border, constant, along, cell_before, cell_after, cell_for, extended_lane}
use Rattle.border.specs.declared.CellBorder.{CellBorder}
use Rattle.pad_line.specs.Line.{padded_at, padded_line}

-- ---- the coordinate of a place
coordinate_from : (left i : ℕ) → pos (left + i) -ℤ pos left ≡ pos i
coordinate_from left i = minus_pos (left + i) left (omega arith) ∙ ap pos (omega arith)

module _ {A : Type 0} (d : A) (left : ℕ) (s : List A) where
  -- ---- the level at a place, from the extension at its coordinate
  inside-lane : (b : Border A) (i : ℕ) → i < length s → extended_lane b (length s) (λ j. get_or s j d) (pos i) ≡ get_or s i d
  unfolding extended_lane cell_for
  inside-lane (constant c) i h = rw (lt-ltb i (length s) h) refl
  inside-lane (along m) i h = rw (lt-ltb i (length s) h) refl

  pub padded-inside : (b : Border A) (i : ℕ) → i < length s → padded_at d b left s (left + i) ≡ get_or s i d
  unfolding padded_at
  padded-inside b i h = ap (extended_lane b (length s) (λ j. get_or s j d)) (coordinate_from left i) ∙ inside-lane b i h

  pub padded-before : (m : CellBorder) (k : ℕ) → k < left → padded_at d (along m) left s k ≡ get_or s (cell_before m (length s) (left - k)) d
  unfolding padded_at extended_lane cell_for
  padded-before m k h =
      let e : left - suc k + 1 ≡ left - k = omega arith in
      ap (extended_lane (along m) (length s) (λ j. get_or s j d)) (minus-neg k left h) ∙ ap (λ (j : ℕ). get_or s (cell_before m (length s) j) d) e

  pub padded-after : (m : CellBorder) (k : ℕ) → left + length s ≤ k → padded_at d (along m) left s k ≡ get_or s (cell_after m (length s) (k + 1 - (left + length s))) d
  unfolding padded_at extended_lane cell_for
  padded-after m k h =
      let e : k - left + 1 - length s ≡ k + 1 - (left + length s) = omega arith in
      let out : length s ≤ k - left = omega arith in
      ap (extended_lane (along m) (length s) (λ j. get_or s j d)) (minus_pos k left (omega arith))
      ∙ ap (λ (t : Bool). get_or s (cond t (k - left) (cell_after m (length s) (k - left + 1 - length s))) d) (le-ltb (k - left) (length s) out)
      ∙ ap (λ (j : ℕ). get_or s (cell_after m (length s) j) d) e

  pub constant_before : (c : A) (k : ℕ) → k < left → c ≡ padded_at d (constant c) left s k
  unfolding padded_at extended_lane
  constant_before c k h = sym (ap (extended_lane (constant c) (length s) (λ j. get_or s j d)) (minus-neg k left h))

  pub constant_after : (c : A) (k : ℕ) → left + length s ≤ k → c ≡ padded_at d (constant c) left s k
  unfolding padded_at extended_lane
  constant_after c k h =
      let out : length s ≤ k - left = omega arith in
      sym (ap (extended_lane (constant c) (length s) (λ j. get_or s j d)) (minus_pos k left (omega arith)) ∙ ap (λ (t : Bool). cond t (get_or s (k - left) d) c) (le-ltb (k - left) (length s) out))

  -- ---- the line
  pub length-padded : (b : Border A) (right : ℕ) → length (padded_line d b left right s) ≡ left + length s + right
  unfolding padded_line
  length-padded b right = length-tabulate (padded_at d b left s) 0 (left + length s + right)

  pub get_d_padded : (b : Border A) (right k : ℕ) → k < left + length s + right → get_or (padded_line d b left right s) k d ≡ padded_at d b left s k
  unfolding padded_line
  get_d_padded b right k h = get_d_tabulate (padded_at d b left s) (left + length s + right) k d h

  pub padded-middle : (b : Border A) (right : ℕ) → take (length s) (drop left (padded_line d b left right s)) ≡ s
  padded-middle b right =
      ext_get_or d (take (length s) (drop left (padded_line d b left right s))) s whole (λ i h. at i (omega (arith, whole)))
    where
      whole : length (take (length s) (drop left (padded_line d b left right s))) ≡ length s
      whole = simp (length-take, length-drop, length-padded) (omega arith)

      at : (i : ℕ) → i < length s → get_or (take (length s) (drop left (padded_line d b left right s))) i d ≡ get_or s i d
      at i h =
          get_or-take (length s) (drop left (padded_line d b left right s)) i d h ∙ get_or-drop left (padded_line d b left right s) i d
          ∙ get_d_padded b right (left + i) (omega arith) ∙ padded-inside b i h

  -- cell j of the window from place i on is the extension's cell at coordinate i + j − left
  pub padded-window : (b : Border A) (right i len j : ℕ) → i + len ≤ left + length s + right → j < len
      → get_or (window_of (padded_line d b left right s) i len) j d ≡ extended_lane b (length s) (λ k. get_or s k d) (pos (i + j) -ℤ pos left)
  unfolding padded_at
  padded-window b right i len j h l =
      get_d_window (padded_line d b left right s) i len j d (omega (arith, length-padded b right)) l ∙ get_d_padded b right (i + j) (omega arith)
