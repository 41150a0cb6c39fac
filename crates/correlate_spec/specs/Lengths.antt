-- How long a padded line has to be, so that every cell has its window; the elements may be any.
--   Windows w s n    there is a weight in w, and the padded line s is long enough for the windows of n cells
use Rattle.std.specs.Prelude.{ℕ, ◌+◌, ◌≤◌, ◌<◌, List, length}

pub record Windows {A : Type 0} (w s : List A) (n : ℕ) : Type 0 where
  pub some : 0 < length w
  pub long : n + length w ≤ length s + 1
