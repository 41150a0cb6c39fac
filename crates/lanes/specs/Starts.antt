-- Where the lanes of an axis start, one after the other.
--   Starts n s l t   t is where lane l of n cells, s apart, starts: the place of its first cell, and its number in its
--                    run of s lanes
use Rattle.std.specs.Prelude.{ℕ, ◌%◌, ◌≡◌}
use Rattle.lanes.specs.Lanes.{lane_base}
use Rattle.lanes.specs.declared.Start.{Start}

pub record Starts (n s l : ℕ) (t : Start) : Type 0 where
  pub place : t.place ≡ lane_base n s l
  pub offset : t.offset ≡ l % s
