-- `axes_of` meets its contract: each axis is the one that it asks for.
use Rattle.correlate_grid_axes.specs.declared.axes.Axes.{Axes}
use Rattle.correlate_grid_axes.specs.declared.axes.Axis.{Axis}
use Rattle.correlate_grid_axes.proofs.axes.axes_of.Goals as goal

pub returns : goal.returns
returns c = let made : Axis → Axis → Axis → Axes = λ x y z. record { planes = x; rows = y; cells = z } in
    λ j. made (c.axis_from-planes.ensures j) (c.axis_from-rows.ensures j) (c.axis_from-cells.ensures j)
