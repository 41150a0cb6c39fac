-- The rows that a mask has: where they end, and one of them read as a part of the mask.
-- Assumes nothing.
use mathlib.Core.Path.{◌≡◌, ap, ◌∙◌}
use mathlib.Core.Bool.{Bool, false}
use mathlib.Core.List.{List}
use Prim.Native.Nat.{ℕ, ◌+◌, ◌-◌, ◌*◌, ◌≤◌, ◌<◌}
use native.Mathlib.Nat.{le_refl, mul-le-mul, suc-mul}
use native.Mathlib.Omega.{arith}
use lib.ListN.{length, get_or, take, drop, length-drop}
use lib.Seq.{get_or-take, get_or-drop, length-take-le}
use Rattle.median_spec.specs.Around.{one}
use Rattle.median_spec.specs.ByRows.{MaskRowNeeds, Room, added}
use Rattle.median_spec.proofs.Adding.{added_agree}

-- r rows and one more are at most m rows
pub row_end : (n : ℕ) {r m : ℕ} → r < m → r * n + n ≤ m * n
row_end n {r} {m} h = omega (arith, mul-le-mul h (le_refl n), suc-mul r n)

module _ {mask : List Bool} {n last : ℕ} (R : MaskRowNeeds mask n last) where
  pub rows_few : last ≤ 8192
  rows_few = omega (arith, mul-le-mul (le_refl last) R.some, R.reach, R.small)

  module _ (r : ℕ) (h : r < last) where
    pub row_in : r * n + n ≤ length mask
    row_in = omega (arith, row_end n h, R.reach)

    pub row_small : r * n + n ≤ 8192
    row_small = omega (arith, row_in, R.small)

    abbrev part : List Bool
    part = take (r * n + n - r * n) (drop (r * n) mask)

    count : r * n + n - r * n ≡ n
    count = omega arith

    pub part_long : length (take (r * n + n - r * n) (drop (r * n) mask)) ≡ n
    part_long = length-take-le (r * n + n - r * n) (drop (r * n) mask) (omega (arith, length-drop (r * n) mask, row_in)) ∙ count

    part-cell : (z : ℕ) → z < n → get_or part z false ≡ get_or mask (r * n + z) false
    part-cell z b = get_or-take (r * n + n - r * n) (drop (r * n) mask) z false (omega arith) ∙ get_or-drop (r * n) mask z false

    module _ (c : List ℕ) (e : length c ≡ n) where
      same : (z : ℕ) → z < length c → one (get_or part z false) ≡ one (get_or mask (r * n + z) false)
      same z b = ap one (part-cell z (omega arith))

      pub part_room : Room (λ z. one (get_or mask (r * n + z) false)) c → Room (λ z. one (get_or (take (r * n + n - r * n) (drop (r * n) mask)) z false)) c
      part_room F z b = omega (arith, same z b, F z b)

      pub part-added : added (λ z. one (get_or (take (r * n + n - r * n) (drop (r * n) mask)) z false)) c ≡ added (λ z. one (get_or mask (r * n + z) false)) c
      part-added = added_agree _ _ c same

-- ---- planes of rows
module _ {mask : List Bool} {n rows last : ℕ} (R : MaskRowNeeds mask n (last * rows)) where
  pub planes_few : 1 ≤ rows → last ≤ 8192
  planes_few h = omega (arith, mul-le-mul (le_refl last) h, rows_few R)

  pub plane_reaches : (x to : ℕ) → x < last → to ≤ rows → MaskRowNeeds mask n (x * rows + to)
  plane_reaches x to h t =
      let e : x * rows + to ≤ last * rows = omega (arith, row_end rows h) in
      record { some = R.some; small = R.small; reach = omega (arith, mul-le-mul e (le_refl n), R.reach) }
