-- Places and coordinates of a grid: each determines the other.
-- Assumes nothing.
use mathlib.Core.Path.{◌≡◌, refl, ap, ◌∙◌}
use mathlib.Core.List.{List, [], ◌∷◌}
use Prim.Native.Nat.{ℕ, zero, suc, ◌+◌, ◌*◌, ◌/◌, ◌%◌, ◌<◌, zero-le, suc-le-suc}
use native.Mathlib.Nat.{not-suc-le-zero, le_of_suc-le-suc, mod-lt, div-add-mod', div-lt_iff_lt-mul, mul-le-mul}
use native.Mathlib.Omega.{arith}
use lib.Arith.{digits_lt, digits_div, digits_mod}
use lib.ListN.{length}
use Rattle.numbers.specs.Lists.{Every}
use Rattle.array_spec.specs.Grid.{cell_count, length_of, place_of, coordinate}

-- coordinates inside the grid
abbrev pub Within : List ℕ → (ℕ → ℕ) → Type 0
Within ns p = (a : ℕ) → a < length ns → p a < length_of ns a

-- every axis has a cell
abbrev pub Positive : List ℕ → Type 0
Positive ns = Every (λ n. 0 < n) ns

pub count_pos : (ns : List ℕ) → Positive ns → 0 < cell_count ns
count_pos [] h = omega arith
count_pos (n ∷ ns) h = omega (arith, mul-le-mul h.0 (count_pos ns h.1))

pub length_pos : (ns : List ℕ) (a : ℕ) → Positive ns → 0 < length_of ns a
length_pos [] a p = omega arith
length_pos (n ∷ ns) zero p = p.0
length_pos (n ∷ ns) (suc a) p = length_pos ns a p.1

tail_within : (n : ℕ) (ns : List ℕ) (p : ℕ → ℕ) → Within (n ∷ ns) p → Within ns (λ a. p (suc a))
tail_within n ns p h = λ a l. h (suc a) (suc-le-suc l)

-- ---- from coordinates to a place and back
pub place_lt : (ns : List ℕ) (p : ℕ → ℕ) → Within ns p → place_of ns p < cell_count ns
unfolding place_of
place_lt [] p h = omega arith
place_lt (n ∷ ns) p h = digits_lt (h zero (suc-le-suc zero-le)) (place_lt ns (λ a. p (suc a)) (tail_within n ns p h))

pub coordinate_place : (ns : List ℕ) (p : ℕ → ℕ) → Within ns p → (a : ℕ) → a < length ns → coordinate ns (place_of ns p) a ≡ p a
unfolding place_of coordinate
coordinate_place [] p h a l = absurd (not-suc-le-zero l)
coordinate_place (n ∷ ns) p h zero l = digits_div (p 0) (place_lt ns (λ a. p (suc a)) (tail_within n ns p h))
coordinate_place (n ∷ ns) p h (suc a) l =
    ap (λ k. coordinate ns k a) (digits_mod (p 0) (place_lt ns (λ a. p (suc a)) (tail_within n ns p h)))
    ∙ coordinate_place ns (λ a. p (suc a)) (tail_within n ns p h) a (le_of_suc-le-suc l)

-- ---- from a place to coordinates and back
pub coordinate_within : (ns : List ℕ) (k : ℕ) → Positive ns → k < cell_count ns → Within ns (coordinate ns k)
unfolding coordinate
coordinate_within [] k h l a b = absurd (not-suc-le-zero b)
coordinate_within (n ∷ ns) k h l zero b = (div-lt_iff_lt-mul (count_pos ns h.1)).1 l
coordinate_within (n ∷ ns) k h l (suc a) b = coordinate_within ns (k % cell_count ns) h.1 (mod-lt k (count_pos ns h.1)) a (le_of_suc-le-suc b)

pub place_coordinate : (ns : List ℕ) (k : ℕ) → Positive ns → k < cell_count ns → place_of ns (coordinate ns k) ≡ k
unfolding place_of coordinate
place_coordinate [] k h l = omega arith
place_coordinate (n ∷ ns) k h l =
    ap (λ x. k / cell_count ns * cell_count ns + x) (place_coordinate ns (k % cell_count ns) h.1 (mod-lt k (count_pos ns h.1)))
    ∙ div-add-mod' k (cell_count ns)

-- a place depends on the coordinates of the grid's own axes only
pub place_ext : (ns : List ℕ) (p q : ℕ → ℕ) → ((a : ℕ) → a < length ns → p a ≡ q a) → place_of ns p ≡ place_of ns q
unfolding place_of
place_ext [] p q h = refl
place_ext (n ∷ ns) p q h = (λ i. h zero (suc-le-suc zero-le) i * cell_count ns + place_ext ns (λ a. p (suc a)) (λ a. q (suc a)) (λ a l. h (suc a) (suc-le-suc l)) i)
