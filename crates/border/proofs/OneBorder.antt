-- One border for every axis: the extended grid by document 01's words.
-- Assumes nothing.
use Prim.Native.Nat.{ℕ, suc}
use mathlib.Core.Path.{◌≡◌, refl, ap}
use mathlib.Core.Bool.{Bool, true, false, cond, ◌&&◌}
use mathlib.Core.List.{List, [], ◌∷◌, ◌++◌}
use lib.IntN.{ℤ, nat_abs}
use lib.ListN.{get_or}
use Rattle.array_spec.specs.Grid.{length_of, level_at}
use Rattle.border.specs.Border.{constant, along, cell_for, inside, all_inside, outer_constants, extended_grid_by, extended_grid}
use Rattle.border.specs.declared.CellBorder.{CellBorder}

-- the first of the constants, all of them the same, is there where a coordinate is outside
pub first_constant : {A : Type 0} (c v : A) (ns : List ℕ) (q : ℕ → ℤ) → get_or (outer_constants (λ _. constant c) ns q) 0 v ≡ cond (all_inside ns q) v c
unfolding outer_constants all_inside
first_constant c v [] q = refl
first_constant c v (n ∷ ns) q = go (inside n (q 0)) (first_constant c v ns (λ a. q (suc a)))
  where
    go : (t : Bool) → get_or (outer_constants (λ _. constant c) ns (λ a. q (suc a))) 0 v ≡ cond (all_inside ns (λ a. q (suc a))) v c
        → get_or (cond t [] (c ∷ []) ++ outer_constants (λ _. constant c) ns (λ a. q (suc a))) 0 v ≡ cond (t && all_inside ns (λ a. q (suc a))) v c
    go true ih = ih
    go false ih = refl

pub no_constants : {A : Type 0} (m : CellBorder) (ns : List ℕ) (q : ℕ → ℤ) → outer_constants {A = A} (λ _. along m) ns q ≡ []
unfolding outer_constants
no_constants m [] q = refl
no_constants m (n ∷ ns) q = no_constants m ns (λ a. q (suc a))

pub under_constant : {A : Type 0} (d c : A) (ns : List ℕ) (cells : List A) (q : ℕ → ℤ) → extended_grid d (constant c) ns cells q ≡ cond (all_inside ns q) (level_at d ns cells (λ a. nat_abs (q a))) c
unfolding extended_grid_by
under_constant d c ns cells q = first_constant c (level_at d ns cells (λ a. nat_abs (q a))) ns q

pub under_cells : {A : Type 0} (d : A) (m : CellBorder) (ns : List ℕ) (cells : List A) (q : ℕ → ℤ) → extended_grid d (along m) ns cells q ≡ level_at d ns cells (λ a. cell_for m (length_of ns a) (q a))
unfolding extended_grid_by
under_cells d m ns cells q = ap (λ s. get_or s 0 (level_at d ns cells (λ a. cell_for m (length_of ns a) (q a)))) (no_constants m ns q)
