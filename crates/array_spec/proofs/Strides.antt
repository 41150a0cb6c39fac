-- The cells of an axis stand a stride apart: coordinates as quotients and remainders of the place.
-- Assumes nothing.
use mathlib.Core.Path.{◌≡◌, sym, ap, ◌∙◌}
use mathlib.Core.Bool.{cond}
use mathlib.Core.List.{List, [], ◌∷◌}
use Prim.Native.Nat.{ℕ, zero, suc, ◌+◌, ◌*◌, ◌/◌, ◌%◌, ◌<◌}
use native.Mathlib.Nat.{not-suc-le-zero, le_of_suc-le-suc, mod-lt, mod-eq_of_lt, div-eq_of_lt, div-add-mod', div-lt_iff_lt-mul, mul-le-mul, mul_assoc, one-mul}
use native.Mathlib.Omega.{arith}
use lib.Arith.{digits_div, digits_mod, mod-mul}
use lib.Dec.{eqb-zero-suc, eqb-suc-zero, eqb-suc-suc}
use lib.ListN.{length}
use Rattle.array_spec.specs.Grid.{cell_count, length_of, stride_of, place_of, coordinate, moved}
use Rattle.array_spec.proofs.Places.{Positive, count_pos, length_pos, place_ext, place_coordinate}

mod-mod : (x : ℕ) {m n : ℕ} → 0 < m → 0 < n → x % (m * n) % n ≡ x % n
mod-mod x {m} {n} pm pn = ap (λ y. y % n) (mod-mul x pm pn) ∙ digits_mod (x / n % m) (mod-lt x pn)

quotient_digit : (x : ℕ) {n s : ℕ} → 0 < n → 0 < s → x / s % n ≡ x % (n * s) / s
quotient_digit x {n} {s} pn ps = sym (ap (λ y. y / s) (mod-mul x pn ps) ∙ digits_div (x / s % n) (mod-lt x ps))

-- the cells before the axis
abbrev pub outer_of : List ℕ → ℕ → ℕ
outer_of [] a = 1
outer_of (n ∷ ns) zero = 1
outer_of (n ∷ ns) (suc a) = n * outer_of ns a

pub count_split : (ns : List ℕ) (a : ℕ) → a < length ns → cell_count ns ≡ outer_of ns a * (length_of ns a * stride_of ns a)
count_split [] a h = absurd (not-suc-le-zero h)
count_split (n ∷ ns) zero h = sym (one-mul (n * cell_count ns))
count_split (n ∷ ns) (suc a) h = ap (λ x. n * x) (count_split ns a (le_of_suc-le-suc h)) ∙ sym (mul_assoc n (outer_of ns a) (length_of ns a * stride_of ns a))

pos_mul : {m n : ℕ} → 0 < m → 0 < n → 0 < m * n
pos_mul h k = omega (arith, mul-le-mul h k)

pub outer_pos : (ns : List ℕ) (a : ℕ) → Positive ns → 0 < outer_of ns a
outer_pos [] a p = omega arith
outer_pos (n ∷ ns) zero p = omega arith
outer_pos (n ∷ ns) (suc a) p = pos_mul p.0 (outer_pos ns a p.1)

pub stride_pos : (ns : List ℕ) (a : ℕ) → Positive ns → 0 < stride_of ns a
stride_pos [] a p = omega arith
stride_pos (n ∷ ns) zero p = count_pos ns p.1
stride_pos (n ∷ ns) (suc a) p = stride_pos ns a p.1

-- the coordinate on the axis
pub coordinate_digit : (ns : List ℕ) (a k : ℕ) → Positive ns → a < length ns → k < cell_count ns → coordinate ns k a ≡ k / stride_of ns a % length_of ns a
unfolding coordinate
coordinate_digit [] a k p h l = absurd (not-suc-le-zero h)
coordinate_digit (n ∷ ns) zero k p h l = sym (mod-eq_of_lt ((div-lt_iff_lt-mul (count_pos ns p.1)).1 l))
coordinate_digit (n ∷ ns) (suc a) k p h l =
    let q = count_pos ns p.1 in
    let g = le_of_suc-le-suc h in
    let pn = length_pos ns a p.1 in
    let ps = stride_pos ns a p.1 in
    coordinate_digit ns a (k % cell_count ns) p.1 g (mod-lt k q)
    ∙ quotient_digit (k % cell_count ns) pn ps
    ∙ ap (λ x. x / stride_of ns a) (ap (λ x. k % x % (length_of ns a * stride_of ns a)) (count_split ns a g) ∙ mod-mod k (outer_pos ns a p.1) (pos_mul pn ps))
    ∙ sym (quotient_digit k pn ps)

-- the cell with another coordinate on the axis
pub place_moved : (ns : List ℕ) (a k j : ℕ) → Positive ns → a < length ns → k < cell_count ns
    → place_of ns (moved a j (coordinate ns k)) ≡ k / (length_of ns a * stride_of ns a) * (length_of ns a * stride_of ns a) + k % stride_of ns a + j * stride_of ns a
unfolding place_of coordinate
place_moved [] a k j p h l = absurd (not-suc-le-zero h)
place_moved (n ∷ ns) zero k j p h l =
    let q = count_pos ns p.1 in
    let e : place_of ns (λ b. moved zero j (coordinate (n ∷ ns) k) (suc b)) ≡ k % cell_count ns =
    place_ext ns (λ b. moved zero j (coordinate (n ∷ ns) k) (suc b)) (coordinate ns (k % cell_count ns)) (λ b m. ap (λ t. cond t j (coordinate ns (k % cell_count ns) b)) (eqb-suc-zero b))
    ∙ place_coordinate ns (k % cell_count ns) p.1 (mod-lt k q) in
    let d : k / (n * cell_count ns) ≡ 0 = div-eq_of_lt l in
    let z : k / (n * cell_count ns) * (n * cell_count ns) ≡ 0 = ap (λ x. x * (n * cell_count ns)) d ∙ zero_times (n * cell_count ns) in
    omega arith
  where
    zero_times : (x : ℕ) → 0 * x ≡ 0
    zero_times x = omega arith
place_moved (n ∷ ns) (suc a) k j p h l =
    let q = count_pos ns p.1 in
    let g = le_of_suc-le-suc h in
    let pn = length_pos ns a p.1 in
    let ps = stride_pos ns a p.1 in
    let D = cell_count ns in
    let N = length_of ns a * stride_of ns a in
    let e : place_of ns (λ b. moved (suc a) j (coordinate (n ∷ ns) k) (suc b)) ≡ place_of ns (moved a j (coordinate ns (k % D))) =
    place_ext ns (λ b. moved (suc a) j (coordinate (n ∷ ns) k) (suc b)) (moved a j (coordinate ns (k % D))) (λ b m. ap (λ t. cond t j (coordinate ns (k % D) b)) (eqb-suc-suc b a)) in
    let ih = place_moved ns a (k % D) j p.1 g (mod-lt k q) in
    let first : moved (suc a) j (coordinate (n ∷ ns) k) zero ≡ k / D = ap (λ t. cond t j (k / D)) (eqb-zero-suc a) in
    let f : k % D % N ≡ k % N = ap (λ x. k % x % N) (count_split ns a g) ∙ mod-mod k (outer_pos ns a p.1) (pos_mul pn ps) in
    let u : k % D % stride_of ns a ≡ k % stride_of ns a = sym (mod-mod (k % D) pn ps) ∙ ap (λ x. x % stride_of ns a) f ∙ mod-mod k pn ps in
    let r₁ : k / D * D + k % D ≡ k = div-add-mod' k D in
    let r₂ : k % D / N * N + k % D % N ≡ k % D = div-add-mod' (k % D) N in
    let r₃ : k / N * N + k % N ≡ k = div-add-mod' k N in
    ap (λ x. x * D + place_of ns (λ b. moved (suc a) j (coordinate (n ∷ ns) k) (suc b))) first
    ∙ ap (λ x. k / D * D + x) (e ∙ ih)
    ∙ sum (k / D * D) (k % D / N * N) (k % D % stride_of ns a) (j * stride_of ns a) (k / N * N) (k % stride_of ns a)
    (same k (k % D) (k / D * D) (k % D / N * N) (k % D % N) (k / N * N) (k % N) r₁ r₂ r₃ f) u
  where
    same : (k d x y m z r : ℕ) → x + d ≡ k → y + m ≡ d → z + r ≡ k → m ≡ r → x + y ≡ z
    same k d x y m z r a b c e = omega arith

    sum : (x y m t z r : ℕ) → x + y ≡ z → m ≡ r → x + (y + m + t) ≡ z + r + t
    sum x y m t z r a b = omega arith
