-- A row of a laid mask: its plane and its place in it, and how many of the rows around it can be true.
-- Assumes nothing.
use mathlib.Core.Path.{◌≡◌, refl, sym, subst}
use mathlib.Core.Bool.{Bool, true, false}
use mathlib.Core.List.{List}
use Prim.Native.Nat.{ℕ, zero, suc, ◌+◌, ◌-◌, ◌*◌, ◌/◌, ◌%◌, ◌≤◌, ◌<◌}
use native.Mathlib.Nat.{le_refl, mul-le-mul, mod-lt, div-lt_iff_lt-mul}
use native.Mathlib.Omega.{arith}
use borrow.Author.Tests.{ltb-true, ltb-false}
use lib.Dec.{ltb}
use lib.ListN.{length, get_or, take, replicate, get_or-eq_default}
use Rattle.median_spec.specs.declared.Span.{Span}
use Rattle.median_spec.specs.Around.{up_to, one}
use Rattle.median_spec.specs.ByRows.{span_of, cell_of, plane_count, column_count, MaskRowNeeds, Room, added, MaskNeeds, Blank}
use Rattle.median_spec.proofs.Totals.{length-up_to, total_bound}
use Rattle.median_spec.proofs.Adding.{length-added, get_d_added}
use Rattle.median_spec.proofs.Reach.{row_end}

-- ---- one to three coordinates of an axis of n cells
pub record Short (n : ℕ) (s : Span) : Type 0 where
  pub inside : s.to ≤ n
  pub some : s.from < s.to
  pub few : s.to - s.from ≤ 3

pub span_short : {n i : ℕ} {s : Span} → i < n → s ≡ span_of n i → Short n s
span_short {n} {i} h e = subst (Short n) (sym e) (record { inside = omega arith; some = omega arith; few = omega arith })

-- ---- how many of the rows around are true
one_most : (t : Bool) → one t ≤ 1
one_most true = omega arith
one_most false = omega arith

module _ {planes rows : ℕ} {xs ys : Span} (P : Short planes xs) (Q : Short rows ys) where
  pub around_some : 1 ≤ (xs.to - xs.from) * (ys.to - ys.from)
  around_some =
      let a : 1 ≤ xs.to - xs.from = omega (arith, P.some) in
      let b : 1 ≤ ys.to - ys.from = omega (arith, Q.some) in
      mul-le-mul a b

  pub around_few : (xs.to - xs.from) * (ys.to - ys.from) ≤ 9
  around_few = mul-le-mul P.few Q.few

  column_few : (mask : List Bool) (n z : ℕ) → column_count mask rows n xs ys z ≤ 9
  column_few mask n z =
      omega (arith, total_bound (λ x. plane_count mask rows n ys x z) 3 (up_to xs.from xs.to) plane, length-up_to xs.from xs.to, P.few)
    where
      cell : (x y : ℕ) → cell_of mask rows n x y z ≤ 1
      cell x y = one_most (get_or mask ((x * rows + y) * n + z) false)

      plane : (x : ℕ) → plane_count mask rows n ys x z ≤ 3
      plane x = omega (arith, total_bound (λ y. cell_of mask rows n x y z) 1 (up_to ys.from ys.to) (cell x), length-up_to ys.from ys.to, Q.few)

  module _ (mask : List Bool) {c : List ℕ} (B : Blank c) where
    pub blank_room : Room (column_count mask rows (length c) xs ys) c
    blank_room k b = omega (arith, B.zero k, column_few mask (length c) k)

    pub blank_added : (k : ℕ) → k < length c → get_or (added (column_count mask rows (length c) xs ys) c) k 0 ≡ column_count mask rows (length c) xs ys k
    blank_added k b = omega (arith, get_d_added (column_count mask rows (length c) xs ys) c k b, B.zero k)

    pub added_few : (k : ℕ) → get_or (added (column_count mask rows (length c) xs ys) c) k 0 ≤ 9
    added_few k = go (ltb k (length c)) refl
      where
        go : (t : Bool) → ltb k (length c) ≡ t → get_or (added (column_count mask rows (length c) xs ys) c) k 0 ≤ 9
        go true e = omega (arith, blank_added k (ltb-true k (length c) e), column_few mask (length c) k)
        go false e =
            let past : length (added (column_count mask rows (length c) xs ys) c) ≤ k = omega (arith, length-added (column_count mask rows (length c) xs ys) c, ltb-false k (length c) e) in
            omega (arith, get_or-eq_default (added (column_count mask rows (length c) xs ys) c) 0 past)

-- the first n of m zeros
abbrev zeros : ℕ → List ℕ
zeros m = replicate m 0

pub blank_part : (n m : ℕ) → Blank (take n (replicate m 0))
blank_part n m = record { zero = at n m }
  where
    at : (n m z : ℕ) → get_or (take n (zeros m)) z 0 ≡ 0
    at zero m z = refl
    at (suc n) zero z = refl
    at (suc n) (suc m) zero = refl
    at (suc n) (suc m) (suc z) = at n m z

-- ---- row r of a laid mask
module _ {planes rows n : ℕ} {mask : List Bool} (L : MaskNeeds planes rows n mask) where
  pub rows_count : planes * rows ≤ 8192
  rows_count = omega (arith, mul-le-mul (le_refl (planes * rows)) L.two, L.count, L.small)

  pub planes_small : planes ≤ 8192
  planes_small = omega (arith, mul-le-mul (le_refl planes) L.some_rows, rows_count)

  pub rows_small : rows ≤ 8192
  rows_small = omega (arith, mul-le-mul L.some_planes (le_refl rows), rows_count)

  module _ (r : ℕ) (h : r < planes * rows) where
    pub plane-below : r / rows < planes
    plane-below = (div-lt_iff_lt-mul L.some_rows).1 h

    pub row_below : r % rows < rows
    row_below = mod-lt r L.some_rows

    pub row_room : r * n + n ≤ length mask
    row_room = omega (arith, row_end n h, L.count)

  pub planes_reach : {xs : Span} → Short planes xs → MaskRowNeeds mask n (xs.to * rows)
  planes_reach {xs} P =
      let e : xs.to * rows ≤ planes * rows = mul-le-mul P.inside (le_refl rows) in
      record { some = omega (arith, L.two); small = L.small; reach = omega (arith, mul-le-mul e (le_refl n), L.count) }
