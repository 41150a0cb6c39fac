-- `of_many` meets its contract: the room that is lent is as long as the line.
use mathlib.Core.Path.{sym}
use lib.Seq.{length-take-le}
use Rattle.statistics_spec.proofs.Served.{served_length}
use Rattle.statistics.proofs.middle.of_many.Goals as goal

pub slice_bounds-room-end : goal.slice_bounds-room-end
slice_bounds-room-end c = served_length c.args.line.now c.requires.line_value

pub slice_bounds-median_in-end : goal.slice_bounds-median_in-end
slice_bounds-median_in-end c = sym (length-take-le _ _ (served_length c.args.line.now c.requires.line_value))

pub median_in-requires : goal.median_in-requires
median_in-requires c = record { line_value = c.requires.line_value; line_nonzero = c.requires.line_nonzero; levels_len = sym (slice_bounds-median_in-end c) }
