-- Worked rows about the shapes: the cells that document 01 names, and its counts.
--   cell_at k a b c   the cell of the whole kernel at a, b, c
--   kinds k          the centre, a face, an edge and a corner cell of k
--   Kernel3dRows     the rows
use Rattle.std.specs.Prelude.{ℕ, ◌≡◌, Bool, true, false, List, [], ◌∷◌, get_or}
use Rattle.kernel3d.specs.Shape.{shape, count_of}
use Rattle.kernel3d.specs.declared.Kernel3d.{Kernel3d}
use Rattle.kernel3d.specs.declared.Kernel3d.TheVariants.{Star, Ball, Full}

abbrev pub cell_at : Kernel3d → ℕ → ℕ → ℕ → Bool
cell_at k a b c = get_or (get_or (get_or (shape k) a []) b []) c false

abbrev pub kinds : Kernel3d → List Bool
kinds k = cell_at k 1 1 1 ∷ cell_at k 0 1 1 ∷ cell_at k 2 1 0 ∷ cell_at k 0 2 2 ∷ []

pub record Kernel3dRows : Type 0 where
  pub star : kinds Star ≡ true ∷ true ∷ false ∷ false ∷ []
  pub ball : kinds Ball ≡ true ∷ true ∷ true ∷ false ∷ []
  pub full : kinds Full ≡ true ∷ true ∷ true ∷ true ∷ []
  -- the faces of the star on each axis, before and after the centre
  pub star_faces : cell_at Star 0 1 1 ∷ cell_at Star 2 1 1 ∷ cell_at Star 1 0 1 ∷ cell_at Star 1 2 1 ∷ cell_at Star 1 1 0
      ∷ cell_at Star 1 1 2 ∷ []
      ≡ true ∷ true ∷ true ∷ true ∷ true ∷ true ∷ []
  -- the centre and 6 faces; 12 edges more; all
  pub star_count : count_of Star ≡ 7
  pub ball_count : count_of Ball ≡ 19
  pub full_count : count_of Full ≡ 27
