-- `find_sources` meets its contract: the numbers of the cells, padded, are the sources.
use Rattle.border.specs.Modes.{border_of}
use Rattle.correlate_grid_axes.proofs.Sources.{sources_found}
use Rattle.correlate_grid_axes.proofs.axes.find_sources.Goals as goal

pub returns : goal.returns
returns c = let s = c in
    sources_found (border_of s.args.mode) _ s.args.axis _ s.args.table.now _ s.requires.0 c.numbering.ensures
    c.count_up.ensures s.requires.1
    c.pad_lane.auto.line c.pad_lane.ensures
