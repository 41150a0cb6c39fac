-- Axes taken one after the other.
--   over_axes f a n g   f on axis a, then on axis a + 1, .., n of them, each on what the one before it left of the grid
--                      g
use Rattle.std.specs.Prelude.{ℕ, zero, suc, List}

abbrev pub over_axes : {A : Type 0} → (ℕ → List A → List A) → ℕ → ℕ → List A → List A
over_axes f a zero g = g
over_axes f a (suc n) g = over_axes f (suc a) n (f a g)
