-- A grid whose lanes stand one after the other, while a rim of them is copied lane by lane: each gets the levels that belong there. What the loop leaves is rim_set.
-- Assumes nothing.
use mathlib.Core.Path.{◌≡◌, refl, sym, ap, ◌∙◌}
use mathlib.Core.Bool.{Bool, true, false, ◌&&◌, cond, true≢false}
use mathlib.Core.List.{List}
use Prim.Native.Nat.{ℕ, ◌+◌, ◌-◌, ◌*◌, ◌/◌, ◌%◌, ◌≤◌, ◌<◌}
use native.Mathlib.Nat.{add-mul, mul-one, mul-le-mul, le_refl}
use native.Mathlib.Omega.{arith}
use borrow.Author.Tests.{ltb-true, ltb-false, lt-ltb, le-ltb}
use lib.Dec.{ltb}
use lib.IntN.{ℤ, pos}
use lib.ListN.{length, get_or}
use Rattle.numbers.proofs.Stored.{Stored, stored_none, stored_table, stored_over}
use Rattle.numbers.proofs.Tabulate.{tabulate_agree}
use Rattle.numbers.proofs.Tests.{cond_no}
use Rattle.lanes.specs.Lanes.{lane_of, lane_base}
use Rattle.lanes.proofs.Cells.{lane_of_cell, place_of_cell, base_neighbours, step_le}
use Rattle.border.specs.declared.CellBorder.{CellBorder}
use Rattle.pad_spec.specs.Runs.{Runs, InRim, read_from, extended_at, rim_set}
use Rattle.lanes.proofs.Part.{on_row, row_yes, row_in, row_no}
use Rattle.pad_line.specs.Steps.{StepNeeds, step_set}
use Rattle.pad_line.proofs.StepByStep.{stepped_cell, set_stored}
use Rattle.pad_copy_axis.specs.Steps.{StepsOf}
use Rattle.pad_copy_axis.proofs.CopiedRims.{some_cells, rim_off, extended_read}
use Rattle.pad_copy_axis.proofs.Steps.{step-at, step_in, step_ahead, side-below}

-- whether place k is in the first i lanes, at one of the count coordinates from a on
abbrev in_lanes : ℕ → ℕ → ℕ → ℕ → ℕ → Bool
in_lanes p a count i k = ltb k (i * p) && on_row a count (k / 1 % p)

-- ---- g is g₀ with the first i lanes filled there
pub record LanesStored (m : CellBorder) (p left n a count : ℕ) (g₀ g : List ℤ) (i : ℕ) : Type 0 where
  pub stored : Stored (pos 0) (in_lanes p a count i) (extended_at m p 1 left n g₀) g₀ g

pub lanes_none : (m : CellBorder) (p left n a count : ℕ) (g : List ℤ) → LanesStored m p left n a count g g 0
lanes_none m p left n a count g = record {
  stored = stored_none (pos 0) (extended_at m p 1 left n g) (in_lanes p a count 0) g (λ k. ap (λ t. t && on_row a count (k / 1 % p)) (le-ltb k (0 * p) (omega arith)));
}

-- ---- a cell of lane i
module _ (p i c : ℕ) (h : c < p) where
  some : 0 < p
  some = omega arith

  one : 0 < 1
  one = omega arith

  is_cell : {k : ℕ} → k ≡ i * p + c → k ≡ lane_base p 1 i + c * 1
  is_cell {k} e = omega (arith, e, base_neighbours p i, mul-one c)

  cell-coordinate : {k : ℕ} → k ≡ i * p + c → k / 1 % p ≡ c
  cell-coordinate e = ap (λ x. x / 1 % p) (is_cell e) ∙ place_of_cell p 1 some one i c h

  cell_base : {k : ℕ} → k ≡ i * p + c → lane_base p 1 (lane_of p 1 k) ≡ i * p
  cell_base e = ap (lane_base p 1) (ap (lane_of p 1) (is_cell e) ∙ lane_of_cell p 1 some one i c h) ∙ base_neighbours p i

module _ {m : CellBorder} {p blocks left n a : ℕ} (count : ℕ) (g₀ : List ℤ) (R : Runs m p 1 blocks left n (length g₀)) (rims : (k : ℕ) → a ≤ k → k < a + count → InRim left n p k) where
  pub lanes_all : {g : List ℤ} {i : ℕ} → blocks ≤ i → LanesStored m p left n a count g₀ g i → g ≡ rim_set m p 1 left n a count g₀
  unfolding rim_set
  lanes_all {g} {i} h S =
      stored_table (pos 0) (extended_at m p 1 left n g₀) (in_lanes p a count i) S.stored
      ∙ tabulate_agree _ _ 0 (length g₀) (λ k b. ap (λ t. cond (t && on_row a count ((0 + k) / 1 % p)) (extended_at m p 1 left n g₀ (0 + k)) (get_or g₀ (0 + k) (pos 0))) (all (0 + k) (omega arith)))
    where
      all : (k : ℕ) → k < length g₀ → ltb k (i * p) ≡ true
      all k b = lt-ltb k (i * p) (omega (arith, R.whole, mul-one p, ap (λ x. blocks * x) (mul-one p), mul-le-mul h (le_refl p)))

  module _ {from up down : ℕ} (W : StepsOf m left n a from up down) {i : ℕ} (h : i < blocks) where
    pub lane_in : i * p + p ≤ length g₀
    lane_in = omega (arith, R.whole, ap (λ x. blocks * x) (mul-one p), step_le p h)

    -- the place that is read for cell j of the rim: a cell of the lane's own
    read_place : (j : ℕ) → j < count → i * p + from + up * j - down * j ≡ i * p + read_from m left n (a + j)
    read_place j l = omega (arith, step-at W R rims j l)

    pub lane_stepped : {g : List ℤ} → LanesStored m p left n a count g₀ g i → StepNeeds up down (i * p + from) (i * p + a) count (length g)
    lane_stepped S = record {
      ahead = λ j l. omega (arith, step_ahead W R rims j l, R.room, lane_in, S.stored.kept);
      behind = λ j l. omega (arith, step-at W R rims j l);
      kept = λ j l lo hi. rim_off n (rims (read_from m left n (a + j)) (omega (arith, read_place j l)) (omega (arith, read_place j l))) (step_in W R rims j l).0 (step_in W R rims j l).1;
      stores = λ j l. omega (arith, side-below W R rims j l, lane_in, S.stored.kept);
    }

    -- one lane more
    module _ {g : List ℤ} (S : LanesStored m p left n a count g₀ g i) where
      abbrev to : ℕ
      to = i * p + a

      last : (i + 1) * p ≡ i * p + p
      last = omega (arith, add-mul i 1 p)

      -- a place of the rim that is filled
      module _ (k : ℕ) (q : on_row to count k ≡ true) where
        abbrev at : ℕ
        at = a + (k - to)

        place : k ≡ i * p + at
        place = omega (arith, (row_in to count k q).0)

        turn : k - to < count
        turn = omega (arith, (row_in to count k q).0, (row_in to count k q).1)

        below : at < p
        below = side-below W R rims (k - to) turn

        hit : in_lanes p a count (i + 1) k ≡ true
        hit = (λ j. lt-ltb k ((i + 1) * p) (omega (arith, place, below, last)) j && on j)
          where
            on : on_row a count (k / 1 % p) ≡ true
            on = ap (on_row a count) (cell-coordinate p i at below place) ∙ row_yes a count at (omega arith) (omega (arith, turn))

        same : stepped_cell (pos 0) up down (i * p + from) to g k ≡ extended_at m p 1 left n g₀ k
        same = let r = read_from m left n at in
            let M = step_in W R rims (k - to) turn in
            let b : k < length g₀ = omega (arith, place, below, lane_in) in
            let c = cell-coordinate p i at below place in
            ap (λ x. get_or g x (pos 0)) (read_place (k - to) turn)
            ∙ S.stored.cells (i * p + r) (omega (arith, M.1, R.room, lane_in))
            ∙ cond_no (in_lanes p a count i (i * p + r)) _ _ (ap (λ t. t && on_row a count ((i * p + r) / 1 % p)) (le-ltb (i * p + r) (i * p) (omega arith)))
            ∙ ap (λ x. get_or g₀ x (pos 0)) (omega (arith, cell_base p i at below place, mul-one r))
            ∙ ap (λ x. get_or g₀ (lane_base p 1 (lane_of p 1 k) + read_from m left n x * 1) (pos 0)) (sym c)
            ∙ sym (extended_read R k b g₀ (rims (k / 1 % p) (omega (arith, c)) (omega (arith, c, turn))))

      miss : (k : ℕ) → on_row to count k ≡ false → in_lanes p a count (i + 1) k ≡ in_lanes p a count i k
      miss k q = go (ltb k (i * p)) refl (ltb k ((i + 1) * p)) refl (on_row a count (k / 1 % p)) refl
        where
          go : (t : Bool) → ltb k (i * p) ≡ t → (u : Bool) → ltb k ((i + 1) * p) ≡ u → (v : Bool) → on_row a count (k / 1 % p) ≡ v → u && v ≡ t && v
          go true x true y v z = refl
          go true x false y v z = absurd (omega (arith, ltb-true k (i * p) x, ltb-false k ((i + 1) * p) y, last))
          go false x false y v z = refl
          go false x true y false z = refl
          go false x true y true z =
              let lo = ltb-false k (i * p) x in
              let hi = ltb-true k ((i + 1) * p) y in
              let c = cell-coordinate p i (k - i * p) (omega (arith, last)) {k = k} (omega arith) in
              let w = row_in a count (k / 1 % p) z in
              absurd (true≢false (sym (row_yes to count k (omega (arith, c, w.0)) (omega (arith, c, w.1))) ∙ q))

      pub lanes_more : {new : List ℤ} → new ≡ step_set (pos 0) up down (i * p + from) (i * p + a) count g → LanesStored m p left n a count g₀ new (i + 1)
      lanes_more {new} r = record {
        stored =
            stored_over (pos 0) (in_lanes p a count i) (on_row to count) (in_lanes p a count (i + 1)) (stepped_cell (pos 0) up down (i * p + from) to g) (extended_at m p 1 left n g₀) S.stored
            (set_stored (pos 0) up down (i * p + from) to count g new r)
            (λ k b q. (hit k q, same k q)) (λ k b q. miss k q);
      }
