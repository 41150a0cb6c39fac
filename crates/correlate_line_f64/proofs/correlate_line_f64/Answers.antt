-- `correlate_line_f64` meets its contract: each class has a line of its own.
use Rattle.correlate_line_f64.proofs.correlate_line_f64.Goals as goal

pub returns-in-NonSymmetric : goal.returns-in-NonSymmetric
returns-in-NonSymmetric c = rw c.in-NonSymmetric.is c.plain_line.ensures

pub returns-in-Symmetric : goal.returns-in-Symmetric
returns-in-Symmetric c = rw c.in-Symmetric.is c.pair_line_f64.ensures

pub returns-in-AntiSymmetric : goal.returns-in-AntiSymmetric
returns-in-AntiSymmetric c = rw c.in-AntiSymmetric.is c.pair_line_f64-in-AntiSymmetric.ensures
