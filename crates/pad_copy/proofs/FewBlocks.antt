-- A grid while its rims are copied some blocks at a time: a part that is whole blocks has whole lanes, so a part that is filled holds what belongs there in the grid.
-- Assumes nothing.
use mathlib.Core.Path.{◌≡◌, refl, sym, ap, subst, ◌∙◌}
use mathlib.Core.Bool.{Bool, true, false, true≢false}
use mathlib.Core.List.{List}
use Prim.Native.Nat.{ℕ, ◌+◌, ◌-◌, ◌*◌, ◌/◌, ◌%◌, ◌≤◌, ◌<◌}
use native.Mathlib.Nat.{add-mul, mul_assoc, mul-pos, mul-le-mul, le_refl, add-mul-div_right, add-mul-mod_self_right}
use native.Mathlib.Omega.{arith}
use borrow.Author.Tests.{ltb-true, ltb-false, lt-ltb, le-ltb}
use borrow.Rule.Slice.PartMut.{put_mid, mid_of, mid_len}
use lib.Dec.{ltb}
use lib.IntN.{ℤ, pos}
use lib.ListN.{length, get_or, drop}
use lib.Seq.{get_or-take, get_or-drop, ext_get_or}
use Rattle.numbers.proofs.Stored.{Stored, stored_none, stored_all, stored_over}
use Rattle.numbers.proofs.Tabulate.{length-tabulate, get_d_tabulate}
use Rattle.numbers.proofs.Tests.{cond_no}
use Rattle.lanes.specs.Lanes.{lane_of, lane_base}
use Rattle.lanes.proofs.Cells.{base_of}
use Rattle.lanes.proofs.Part.{on_row, row_yes, row_in, part_put}
use Rattle.border.specs.Border.{along}
use Rattle.border.specs.declared.CellBorder.{CellBorder}
use Rattle.pad_line.specs.Line.{padded_at}
use Rattle.pad_spec.proofs.Rims.{own_of, length_own, get_d_own}
use Rattle.pad_spec.specs.Runs.{Runs, extended_at, axis_set}
use Rattle.pad_copy_axis.proofs.CopiedRims.{some_cells, cell_in}

-- ---- places of a part that starts after i blocks
module _ (p s : ℕ) (pp : 0 < p) (ps : 0 < s) (i r : ℕ) where
  -- the same coordinate
  part-coordinate : (i * (p * s) + r) / s % p ≡ r / s % p
  part-coordinate = ap (λ x. x / s % p) (whole) ∙ ap (λ x. x % p) (add-mul-div_right r (i * p) ps) ∙ add-mul-mod_self_right (r / s) i p
    where
      whole : i * (p * s) + r ≡ r + i * p * s
      whole = omega (arith, mul_assoc i p s)

  -- the lane starts as far on
  part_base : lane_base p s (lane_of p s (i * (p * s) + r)) ≡ i * (p * s) + lane_base p s (lane_of p s r)
  part_base =
      base_of p s pp ps (i * (p * s) + r)
      ∙ (λ j. quotient j * (p * s) + rest j)
      ∙ omega (arith, add-mul (r / (p * s)) i (p * s), base_of p s pp ps r)
    where
      turned : i * (p * s) + r ≡ r + i * (p * s)
      turned = omega arith

      again : i * (p * s) + r ≡ r + i * p * s
      again = omega (arith, mul_assoc i p s)

      quotient : (i * (p * s) + r) / (p * s) ≡ r / (p * s) + i
      quotient = ap (λ x. x / (p * s)) turned ∙ add-mul-div_right r i (mul-pos pp ps)

      rest : (i * (p * s) + r) % s ≡ r % s
      rest = ap (λ x. x % s) again ∙ add-mul-mod_self_right r (i * p) s

-- ---- g is g₀ with the first i blocks filled
pub record BlocksFilled (m : CellBorder) (p s left n : ℕ) (g₀ g : List ℤ) (i : ℕ) : Type 0 where
  pub stored : Stored (pos 0) (λ k. ltb k (i * (p * s))) (extended_at m p s left n g₀) g₀ g

pub filled_none : (m : CellBorder) (p s left n : ℕ) (g : List ℤ) → BlocksFilled m p s left n g g 0
filled_none m p s left n g = record { stored = stored_none (pos 0) (extended_at m p s left n g) (λ k. ltb k (0 * (p * s))) g (λ k. le-ltb k (0 * (p * s)) (omega arith)) }

module _ {m : CellBorder} {p s blocks left n : ℕ} {g₀ g : List ℤ} {i : ℕ} (R : Runs m p s blocks left n (length g₀)) (S : BlocksFilled m p s left n g₀ g i) where
  pub filled-all : blocks ≤ i → g ≡ axis_set m p s left n g₀
  unfolding axis_set
  filled-all h =
      stored_all (pos 0) (extended_at m p s left n g₀) (λ k. ltb k (i * (p * s)))
      (λ k b. lt-ltb k (i * (p * s)) (omega (arith, R.whole, mul-le-mul h (le_refl (p * s))))) S.stored

  module _ (count : ℕ) (h : i + count ≤ blocks) where
    -- the next count blocks are in the grid
    pub part_in_lem : i * (p * s) + count * (p * s) ≤ length g
    part_in_lem = omega (arith, add-mul i count (p * s), mul-le-mul h (le_refl (p * s)), R.whole, S.stored.kept)

    pub part_long : length (mid_of (i * (p * s)) (i * (p * s) + count * (p * s) - i * (p * s)) g) ≡ count * (p * s)
    part_long = mid_len (i * (p * s)) (i * (p * s) + count * (p * s)) g part_in_lem ∙ omega arith

    pub part_runs : Runs m p s count left n (length (mid_of (i * (p * s)) (i * (p * s) + count * (p * s) - i * (p * s)) g))
    part_runs = record {
      apart = R.apart;
      some = R.some;
      room = R.room;
      short = R.short;
      whole = part_long;
      small = omega (arith, part_long, part_in_lem, S.stored.kept, R.small);
      fills_left = R.fills_left;
      fills_right = R.fills_right;
    }

    abbrev at : ℕ
    at = i * (p * s)

    abbrev part : List ℤ
    part = mid_of at (at + count * (p * s) - at) g

    -- a cell of the part, as it was in the grid at first
    part-cell : (x : ℕ) → x < count * (p * s) → get_or part x (pos 0) ≡ get_or g₀ (at + x) (pos 0)
    part-cell x b =
        get_or-take (at + count * (p * s) - at) (drop at g) x (pos 0) (omega arith)
        ∙ get_or-drop at g x (pos 0)
        ∙ S.stored.cells (at + x) (omega (arith, part_in_lem, S.stored.kept))
        ∙ cond_no (ltb (at + x) (i * (p * s))) _ _ (le-ltb (at + x) (i * (p * s)) (omega arith))

    -- its lanes are the grid's, so it gets the levels that belong there
    part-level : (r : ℕ) → r < count * (p * s) → extended_at m p s left n part r ≡ extended_at m p s left n g₀ (at + r)
    part-level r b = (λ j. padded_at (pos 0) (along m) left (own j) (sym (part-coordinate p s (some_cells R) R.apart i r) j))
      where
        inner : r < length part
        inner = omega (arith, part_long)

        own : own_of (pos 0) p s (lane_of p s r) left n part ≡ own_of (pos 0) p s (lane_of p s (at + r)) left n g₀
        own =
            ext_get_or (pos 0) (own_of (pos 0) p s (lane_of p s r) left n part) (own_of (pos 0) p s (lane_of p s (at + r)) left n g₀)
            (length_own (pos 0) p s (lane_of p s r) left n part R.room ∙ sym (length_own (pos 0) p s (lane_of p s (at + r)) left n g₀ R.room))
            (λ c l. cell c (omega (arith, length_own (pos 0) p s (lane_of p s r) left n part R.room)))
          where
            cell : (c : ℕ) → c < n → get_or (own_of (pos 0) p s (lane_of p s r) left n part) c (pos 0) ≡ get_or (own_of (pos 0) p s (lane_of p s (at + r)) left n g₀) c (pos 0)
            cell c l =
                let x = lane_base p s (lane_of p s r) + (left + c) * s in
                let w : x < length part = cell_in part_runs r inner (left + c) (omega (arith, R.room)) in
                get_d_own (pos 0) p s (lane_of p s r) left n part R.room c l
                ∙ part-cell x (omega (arith, part_long))
                ∙ ap (λ y. get_or g₀ y (pos 0)) (omega (arith, part_base p s (some_cells R) R.apart i r))
                ∙ sym (get_d_own (pos 0) p s (lane_of p s (at + r)) left n g₀ R.room c l)

    -- count blocks more
    pub filled_more : {new : List ℤ} {ys : List ℤ} → ys ≡ axis_set m p s left n (mid_of (i * (p * s)) (i * (p * s) + count * (p * s) - i * (p * s)) g)
        → new ≡ put_mid (i * (p * s)) (i * (p * s) + count * (p * s) - i * (p * s)) g ys → BlocksFilled m p s left n g₀ new (i + count)
    unfolding axis_set
    filled_more {new} {ys} e f = record {
      stored =
          stored_over (pos 0) (λ k. ltb k at) (on_row at (count * (p * s))) (λ k. ltb k ((i + count) * (p * s))) (λ k. get_or ys (k - at) (pos 0)) (extended_at m p s left n g₀) S.stored
          (subst (Stored (pos 0) (on_row at (count * (p * s))) (λ k. get_or ys (k - at) (pos 0)) g) (sym f) (part_put (pos 0) at (count * (p * s)) g ys part_in_lem long))
          (λ k b q. (lt-ltb k ((i + count) * (p * s)) (omega (arith, (row_in at (count * (p * s)) k q).1, last)), level k (row_in at (count * (p * s)) k q)))
          (λ k b q. off k q);
    }
      where
        long : length ys ≡ count * (p * s)
        long = ap length e ∙ length-tabulate (extended_at m p s left n part) 0 (length part) ∙ part_long

        last : (i + count) * (p * s) ≡ at + count * (p * s)
        last = add-mul i count (p * s)

        level : (k : ℕ) → (at ≤ k) × (k < at + count * (p * s)) → get_or ys (k - at) (pos 0) ≡ extended_at m p s left n g₀ k
        level k w =
            let lo = w.0 in
            let hi = w.1 in
            let r : at + (k - at) ≡ k = omega arith in
            ap (λ x. get_or x (k - at) (pos 0)) e
            ∙ get_d_tabulate (extended_at m p s left n part) (length part) (k - at) (pos 0) (omega (arith, part_long))
            ∙ part-level (k - at) (omega arith)
            ∙ ap (extended_at m p s left n g₀) r

        off : (k : ℕ) → on_row at (count * (p * s)) k ≡ false → ltb k ((i + count) * (p * s)) ≡ ltb k at
        off k q = go (ltb k at) refl (ltb k ((i + count) * (p * s))) refl
          where
            go : (t : Bool) → ltb k at ≡ t → (u : Bool) → ltb k ((i + count) * (p * s)) ≡ u → u ≡ t
            go true x true y = refl
            go false x false y = refl
            go true x false y = absurd (omega (arith, ltb-true k at x, ltb-false k ((i + count) * (p * s)) y, last))
            go false x true y = absurd (true≢false (sym (row_yes at (count * (p * s)) k (ltb-false k at x) (omega (arith, ltb-true k ((i + count) * (p * s)) y, last))) ∙ q))
