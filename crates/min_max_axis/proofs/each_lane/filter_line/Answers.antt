-- `min_max_axis::each_lane::filter_line` meets its contract: each arm calls the worker of its order.
use Rattle.min_max_axis.proofs.each_lane.filter_line.Goals as goal

pub returns-in-Least : goal.returns-in-Least
returns-in-Least c = rw c.in-Least.is c.minimum_windows.ensures

pub returns-in-Greatest : goal.returns-in-Greatest
returns-in-Greatest c = rw c.in-Greatest.is c.maximum_windows.ensures
