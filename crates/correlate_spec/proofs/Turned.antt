-- A grid's cells counted from the end: the coordinate on every axis is counted from its end. And the extended grid depends on the coordinates of its own axes alone.
-- Assumes nothing.
use Prim.Native.Nat.{ℕ, zero, suc, ◌+◌, ◌-◌, ◌*◌, ◌/◌, ◌%◌, ◌<◌, zero-le, suc-le-suc}
use mathlib.Core.Path.{◌≡◌, refl, sym, ap, ◌∙◌}
use mathlib.Core.List.{List, [], ◌∷◌, ◌++◌}
use native.Mathlib.Nat.{not-suc-le-zero, le_of_suc-le-suc, mod-lt, div-add-mod', div-lt_iff_lt-mul, add-mul}
use native.Mathlib.Omega.{arith}
use lib.Arith.{digits_div, digits_mod}
use lib.IntN.{ℤ}
use lib.ListN.{length, get_or}
use Rattle.array_spec.specs.Grid.{cell_count, length_of, place_of, coordinate}
use Rattle.array_spec.proofs.Places.{Positive, count_pos}
use Rattle.border.specs.Border.{Border, own_constant, outer_constants, cell_under, extended_grid_by, extended_grid}

-- ---- from the end: q rows of m cells and r cells more, of n rows
module _ (n m q r : ℕ) (rows : q < n) (rest : r < m) where
  turned : n * m - 1 - (q * m + r) ≡ (n - 1 - q) * m + (m - 1 - r)
  turned = ap (λ x. x * m - 1 - (q * m + r)) parts ∙ omega (arith, add-mul (n - 1 - q + 1) q m, add-mul (n - 1 - q) 1 m)
    where
      parts : n ≡ n - 1 - q + 1 + q
      parts = omega arith

  turned_row : (n * m - 1 - (q * m + r)) / m ≡ n - 1 - q
  turned_row = ap (λ x. x / m) turned ∙ digits_div (n - 1 - q) (omega arith)

  turned_rest : (n * m - 1 - (q * m + r)) % m ≡ m - 1 - r
  turned_rest = ap (λ x. x % m) turned ∙ digits_mod (n - 1 - q) (omega arith)

pub coordinate-turned : (ns : List ℕ) (k : ℕ) → Positive ns → k < cell_count ns → (a : ℕ) → a < length ns
    → coordinate ns (cell_count ns - 1 - k) a ≡ length_of ns a - 1 - coordinate ns k a
unfolding coordinate
coordinate-turned [] k h l a b = absurd (not-suc-le-zero b)
coordinate-turned (n ∷ ns) k h l zero b =
    let m = cell_count ns in let p = count_pos ns h.1 in
    ap (λ x. (n * m - 1 - x) / m) (sym (div-add-mod' k m)) ∙ turned_row n m (k / m) (k % m) ((div-lt_iff_lt-mul p).1 l) (mod-lt k p)
coordinate-turned (n ∷ ns) k h l (suc a) b =
    let m = cell_count ns in let p = count_pos ns h.1 in
    ap (λ x. coordinate ns x a) (ap (λ x. (n * m - 1 - x) % m) (sym (div-add-mod' k m)) ∙ turned_rest n m (k / m) (k % m) ((div-lt_iff_lt-mul p).1 l) (mod-lt k p))
    ∙ coordinate-turned ns (k % m) h.1 (mod-lt k p) a (le_of_suc-le-suc b)

-- ---- coordinates that agree on every axis
place_agrees : (ns : List ℕ) (p q : ℕ → ℕ) → ((a : ℕ) → a < length ns → p a ≡ q a) → place_of ns p ≡ place_of ns q
unfolding place_of
place_agrees [] p q h = refl
place_agrees (n ∷ ns) p q h = λ t. h 0 (suc-le-suc zero-le) t * cell_count ns + place_agrees ns (λ a. p (suc a)) (λ a. q (suc a)) (λ a l. h (suc a) (suc-le-suc l)) t

constants_agree : {A : Type 0} (b : Border A) (ns : List ℕ) (p q : ℕ → ℤ) → ((a : ℕ) → a < length ns → p a ≡ q a) → outer_constants (λ _. b) ns p ≡ outer_constants (λ _. b) ns q
unfolding outer_constants
constants_agree b [] p q h = refl
constants_agree b (n ∷ ns) p q h = λ t. own_constant b n (h 0 (suc-le-suc zero-le) t) ++ constants_agree b ns (λ a. p (suc a)) (λ a. q (suc a)) (λ a l. h (suc a) (suc-le-suc l)) t

pub extended_agrees : {A : Type 0} (d : A) (b : Border A) (ns : List ℕ) (cells : List A) (p q : ℕ → ℤ) → ((a : ℕ) → a < length ns → p a ≡ q a)
    → extended_grid d b ns cells p ≡ extended_grid d b ns cells q
unfolding extended_grid_by
extended_agrees d b ns cells p q h =
    λ t. get_or (constants_agree b ns p q h t) 0
    (get_or cells (place_agrees ns (λ a. cell_under b (length_of ns a) (p a)) (λ a. cell_under b (length_of ns a) (q a)) (λ a l. ap (cell_under b (length_of ns a)) (h a l)) t) d)
