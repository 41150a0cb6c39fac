-- The worked rows of this crate's definitions, joined.
--   RecipeSpecRows   files; the player
use Rattle.recipe_spec.specs.FileRows.{FileRows}
use Rattle.recipe_spec.specs.PlayRows.{PlayRows}

pub record RecipeSpecRows : Type 0 where
  pub files : FileRows
  pub plays : PlayRows
