-- Where a row starts in the padded grid, on one, two and three axes; the numbers on the way from row to row are small.
-- Assumes nothing.
use mathlib.Core.Path.{◌≡◌, sym, ap, ◌∙◌}
use mathlib.Core.List.{List, [], ◌∷◌}
use Prim.Native.Nat.{ℕ, zero, suc, ◌+◌, ◌-◌, ◌*◌, ◌/◌, ◌%◌, ◌≤◌, ◌<◌}
use native.Mathlib.Nat.{add-zero, add-mul, mul_assoc, mul-one, mul-le-mul, le_refl, mod-lt, div-add-mod', div-lt_iff_lt-mul, lt_of_mul-lt-mul_right}
use native.Mathlib.Omega.{arith}
use lib.ListN.{length, get_or}
use Rattle.numbers.proofs.Index.{get_d_default}
use Rattle.array_spec.specs.Grid.{cell_count, place_of, coordinate, moved}
use Rattle.array_spec.proofs.Places.{Within, length_pos}
use Rattle.pad_spec.specs.Frame.{Framed, target_of, row_length}
use Rattle.pad_spec.proofs.Room.{grid_accepted}
use Rattle.pad_middle.proofs.Targets.{target_place}

-- the place of three coordinates, and of two, multiplied out
place_three : (x y z b c : ℕ) → (x * b + y) * c + z ≡ x * (b * (c * 1)) + (y * (c * 1) + (z * 1 + 0))
place_three x y z b c =
    omega (arith, add-mul (x * b) y c, mul_assoc x b c)
    ∙ (λ j. x * (b * sym (mul-one c) j) + (y * sym (mul-one c) j + (z * 1 + 0)))

place_two : (x y b : ℕ) → x * b + y ≡ x * (b * 1) + (y * 1 + 0)
place_two x y b = omega arith ∙ (λ j. x * sym (mul-one b) j + (y * 1 + 0))

-- ---- the coordinates of a row's first cell
module _ (n m l row : ℕ) where
  three_within : row * l < n * (m * (l * 1)) → 0 < m → 0 < l → Within (n ∷ m ∷ l ∷ []) (moved 0 (row / m) (moved 1 (row % m) (λ a. 0)))
  three_within h p q zero b = (div-lt_iff_lt-mul p).1 (lt_of_mul-lt-mul_right l (omega (arith, h, place_three n 0 0 m l)))
  three_within h p q (suc zero) b = mod-lt row p
  three_within h p q (suc (suc zero)) b = q
  three_within h p q (suc (suc (suc a))) b = absurd (omega (arith, b))

  three_place : row * l ≡ place_of (n ∷ m ∷ l ∷ []) (moved 0 (row / m) (moved 1 (row % m) (λ a. 0)))
  unfolding place_of
  three_place = omega (arith, ap (λ x. x * l) (div-add-mod' row m)) ∙ place_three (row / m) (row % m) 0 m l

  two_within : row * m < n * (m * 1) → 0 < m → Within (n ∷ m ∷ []) (moved 0 row (λ a. 0))
  two_within h p zero b = lt_of_mul-lt-mul_right m (omega (arith, h, place_two n 0 m))
  two_within h p (suc zero) b = p
  two_within h p (suc (suc a)) b = absurd (omega (arith, b))

  two_place : row * m ≡ place_of (n ∷ m ∷ []) (moved 0 row (λ a. 0))
  unfolding place_of
  two_place = omega arith ∙ place_two row 0 m

-- ---- a list of one, two or three members
pub with_one : (P : List ℕ → Type 0) → ((n : ℕ) → P (n ∷ [])) → (ns : List ℕ) → length ns ≡ 1 → P ns
with_one P h [] e = absurd (omega arith)
with_one P h (n ∷ []) e = h n
with_one P h (n ∷ m ∷ ns) e = absurd (omega arith)

with_two : (P : List ℕ → Type 0) → ((n m : ℕ) → P (n ∷ m ∷ [])) → (ns : List ℕ) → length ns ≡ 2 → P ns
with_two P h [] e = absurd (omega arith)
with_two P h (n ∷ ns) e = with_one (λ s. P (n ∷ s)) (h n) ns (omega arith)

with_three : (P : List ℕ → Type 0) → ((n m l : ℕ) → P (n ∷ m ∷ l ∷ [])) → (ns : List ℕ) → length ns ≡ 3 → P ns
with_three P h [] e = absurd (omega arith)
with_three P h (n ∷ ns) e = with_two (λ s. P (n ∷ s)) (h n) ns (omega arith)

-- ---- where the row starts
module _ (lefts : List ℕ) (row : ℕ) where
  abbrev pub StartsAt : (List ℕ → List ℕ → ℕ) → List ℕ → List ℕ → Type 0
  StartsAt f ns ps = Framed ns lefts ps → row * row_length ns < cell_count ns → f ns ps ≡ target_of ns lefts ps (row * row_length ns)

  abbrev start_one : List ℕ → List ℕ → ℕ
  start_one ns ps = get_or lefts 0 0

  abbrev start_two : List ℕ → List ℕ → ℕ
  start_two ns ps = (get_or lefts 0 0 + row) * get_or ps 1 0 + get_or lefts 1 0

  abbrev start_three : List ℕ → List ℕ → ℕ
  start_three ns ps = ((get_or lefts 0 0 + row / get_or ns 1 0) * get_or ps 1 0 + (get_or lefts 1 0 + row % get_or ns 1 0)) * get_or ps 2 0 + get_or lefts 2 0

  one_starts : (n p : ℕ) → StartsAt start_one (n ∷ []) (p ∷ [])
  unfolding place_of coordinate
  one_starts n p F h =
      let z : row < 1 = lt_of_mul-lt-mul_right n (omega (arith, h)) in
      let e : row ≡ 0 = omega arith in
      omega (arith, ap (λ x. x * n) e)

  two_starts : (n m p q : ℕ) → StartsAt start_two (n ∷ m ∷ []) (p ∷ q ∷ [])
  unfolding place_of
  two_starts n m p q F h =
      ap (λ x. (get_or lefts 0 0 + row) * q + x) (sym (add-zero (get_or lefts 1 0)))
      ∙ place_two (get_or lefts 0 0 + row) (get_or lefts 1 0 + 0) q
      ∙ sym (target_place (n ∷ m ∷ []) lefts (p ∷ q ∷ []) F (moved 0 row (λ a. 0)) (two_within n m 0 row h (length_pos (n ∷ m ∷ []) 1 (grid_accepted F).full)))
      ∙ ap (target_of (n ∷ m ∷ []) lefts (p ∷ q ∷ [])) (sym (two_place n m 0 row))

  three_starts : (n m l p q r : ℕ) → StartsAt start_three (n ∷ m ∷ l ∷ []) (p ∷ q ∷ r ∷ [])
  unfolding place_of
  three_starts n m l p q r F h =
      let A = grid_accepted F in
      ap (λ x. ((get_or lefts 0 0 + row / m) * q + (get_or lefts 1 0 + row % m)) * r + x) (sym (add-zero (get_or lefts 2 0)))
      ∙ place_three (get_or lefts 0 0 + row / m) (get_or lefts 1 0 + row % m) (get_or lefts 2 0 + 0) q r
      ∙ sym (target_place (n ∷ m ∷ l ∷ []) lefts (p ∷ q ∷ r ∷ []) F (moved 0 (row / m) (moved 1 (row % m) (λ a. 0)))
      (three_within n m l row h (length_pos (n ∷ m ∷ l ∷ []) 1 A.full) (length_pos (n ∷ m ∷ l ∷ []) 2 A.full)))
      ∙ ap (target_of (n ∷ m ∷ l ∷ []) lefts (p ∷ q ∷ r ∷ [])) (sym (three_place n m l row))

  pub row_one : (ns ps : List ℕ) → length ns ≡ 1 → StartsAt start_one ns ps
  row_one ns ps e F h = with_one (λ s. StartsAt start_one s ps) (λ n. with_one (StartsAt start_one (n ∷ [])) (one_starts n) ps (F.axes ∙ e)) ns e F h

  pub row_two : (ns ps : List ℕ) → length ns ≡ 2 → StartsAt start_two ns ps
  row_two ns ps e F h = with_two (λ s. StartsAt start_two s ps) (λ n m. with_two (StartsAt start_two (n ∷ m ∷ [])) (two_starts n m) ps (F.axes ∙ e)) ns e F h

  pub row_three : (ns ps : List ℕ) → length ns ≡ 3 → StartsAt start_three ns ps
  row_three ns ps e F h = with_three (λ s. StartsAt start_three s ps) (λ n m l. with_three (StartsAt start_three (n ∷ m ∷ l ∷ [])) (three_starts n m l) ps (F.axes ∙ e)) ns e F h

-- ---- the numbers on the way are small
module _ (ns lefts ps : List ℕ) (F : Framed ns lefts ps) where
  pub axis_some : (a : ℕ) → a < length ns → 0 < get_or ns a 0
  axis_some a l = omega (arith, get_d_default ns a 0 1 l, length_pos ns a (grid_accepted F).full)

  pub left_small : (a : ℕ) → a < length ns → get_or lefts a 0 ≤ 1152
  left_small a l = omega (arith, F.room a l, F.short a)

  pub padded_small : (a : ℕ) → a < length ns → get_or ps a 0 ≤ 1152
  padded_small a l = omega (arith, get_d_default ps a 0 1 (omega (arith, F.axes)), F.short a)

  pub axis_room : (a : ℕ) → a < length ns → get_or ns a 0 ≤ get_or ps a 0
  axis_room a l = omega (arith, F.room a l, get_d_default ns a 0 1 l, get_d_default ps a 0 1 (omega (arith, F.axes)))

  pub row_small : (row : ℕ) → row * row_length ns < cell_count ns → row ≤ 8192
  row_small row h =
      let p = length_pos ns (length ns - 1) (grid_accepted F).full in
      omega (arith, mul-le-mul (le_refl row) p, (grid_accepted F).small)

  -- the place of the first row on the first two axes, and on all three without the last pad
  pub first-second : 1 < length ns → get_or lefts 0 0 * get_or ps 1 0 ≤ 1152 * 1152
  first-second l = mul-le-mul {n₂ = 1152} (left_small 0 (omega arith)) (padded_small 1 l)

  pub first_third : 2 < length ns → (get_or lefts 0 0 * get_or ps 1 0 + get_or lefts 1 0) * get_or ps 2 0 ≤ 1328256 * 1152
  first_third l = mul-le-mul {n₂ = 1328256} (omega (arith, first-second (omega arith), left_small 1 (omega arith))) (padded_small 2 l)

  -- what lies between the last row of a plane and the first of the next
  pub step_small : 2 < length ns → (get_or ps 1 0 - get_or ns 1 0 + 1) * get_or ps 2 0 ≤ 1153 * 1152
  step_small l = mul-le-mul {n₂ = 1153} (omega (arith, padded_small 1 (omega arith))) (padded_small 2 l)
