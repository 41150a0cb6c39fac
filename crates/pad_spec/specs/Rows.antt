-- The worked rows of this crate's definitions, joined.
--   PadSpecRows   the rims of a lane; padded grids and refusals; what the workers leave
use Rattle.pad_spec.specs.RimRows.{RimRows}
use Rattle.pad_spec.specs.LevelRows.{LevelRows}
use Rattle.pad_spec.specs.FrameRows.{FrameRows}

pub record PadSpecRows : Type 0 where
  pub rims : RimRows
  pub levels : LevelRows
  pub frames : FrameRows
