-- The five borders, the extension of a lane and the extended grid, over any element. A coordinate is a signed number.
--   CellBorder                          the borders that read a cell: Nearest, Mirror, Reflect, Wrap (declared in
--                                       src/lib.rt)
--   Border A                       constant, which carries a level, or along one of these
--   cell_before m n k               with n cells on the axis, counted from 0, the cell k places before cell 0
--   cell_after m n k                the cell k places after the last: the mirror image, under Wrap cell k − 1
--   cell_for m n z                  the cell that coordinate z reads on an axis of n cells
--   inside n z                     whether coordinate z is on an axis of n cells
--   all_inside ns q                 whether the coordinate of q on every axis is inside
--   extended_lane b n h z           the level at coordinate z of the n cells h, extended on both sides
--   own_constant b n z              the constant of an axis of n cells, where its border is constant and z is outside
--   outer_constants bs ns q         the constants of the axes along which q is so outside, the lowest axis first
--   cell_under b n z                the cell that coordinate z reads on an axis of n cells, where it reads one
--   extended_grid_by d bs ns cells q    the level at coordinates q of the grid, extended along axis a by bs a; d as in
--                                  level_at
--   extended_grid d b ns cells q    the same with one border for every axis
use Rattle.std.specs.Prelude.{ℕ, suc, ◌+◌, ◌-◌, Bool, true, false, ◌&&◌, cond, List, [], ◌∷◌, ◌++◌, ltb, ℤ, pos, negsuc, nat_abs, get_or}
use Rattle.array_spec.specs.Grid.{length_of, level_at}
use Rattle.border.specs.declared.CellBorder.{CellBorder}
use Rattle.border.specs.declared.CellBorder.TheVariants.{Nearest, Mirror, Reflect, Wrap}

pub data Border (A : Type 0) : Type 0 where
  constant : A → Border A
  along : CellBorder → Border A

abbrev pub cell_before : CellBorder → ℕ → ℕ → ℕ
cell_before Nearest n k = 0
cell_before Mirror n k = k
cell_before Reflect n k = k - 1
cell_before Wrap n k = n - k

abbrev pub cell_after : CellBorder → ℕ → ℕ → ℕ
cell_after Nearest n k = n - 1
cell_after Mirror n k = n - 1 - k
cell_after Reflect n k = n - k
cell_after Wrap n k = k - 1

-- itself, or one k places after cell n − 1, or one k places before cell 0
unfoldable pub cell_for : CellBorder → ℕ → ℤ → ℕ
cell_for m n (pos i) = cond (ltb i n) i (cell_after m n (i + 1 - n))
cell_for m n (negsuc j) = cell_before m n (j + 1)

abbrev pub inside : ℕ → ℤ → Bool
inside n (pos i) = ltb i n
inside n (negsuc j) = false

unfoldable pub all_inside : List ℕ → (ℕ → ℤ) → Bool
all_inside [] q = true
all_inside (n ∷ ns) q = inside n (q 0) && all_inside ns (λ a. q (suc a))

unfoldable pub extended_lane : {A : Type 0} → Border A → ℕ → (ℕ → A) → ℤ → A
extended_lane (constant c) n h z = cond (inside n z) (h (nat_abs z)) c
extended_lane (along m) n h z = h (cell_for m n z)

abbrev pub own_constant : {A : Type 0} → Border A → ℕ → ℤ → List A
own_constant (constant c) n z = cond (inside n z) [] (c ∷ [])
own_constant (along m) n z = []

unfoldable pub outer_constants : {A : Type 0} → (ℕ → Border A) → List ℕ → (ℕ → ℤ) → List A
outer_constants bs [] q = []
outer_constants bs (n ∷ ns) q = own_constant (bs 0) n (q 0) ++ outer_constants (λ a. bs (suc a)) ns (λ a. q (suc a))

abbrev pub cell_under : {A : Type 0} → Border A → ℕ → ℤ → ℕ
cell_under (constant c) n z = nat_abs z
cell_under (along m) n z = cell_for m n z

-- A cell outside along one or more constant axes takes the constant of the lowest of them; for any other each
-- coordinate is mapped by its own axis's border.
unfoldable pub extended_grid_by : {A : Type 0} → A → (ℕ → Border A) → List ℕ → List A → (ℕ → ℤ) → A
extended_grid_by d bs ns cells q = get_or (outer_constants bs ns q) 0
    (level_at d ns cells (λ a. cell_under (bs a) (length_of ns a) (q a)))

abbrev pub extended_grid : {A : Type 0} → A → Border A → List ℕ → List A → (ℕ → ℤ) → A
extended_grid d b ns cells q = extended_grid_by d (λ _. b) ns cells q
