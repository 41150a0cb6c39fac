-- `level_of` meets its contract: each arm is what the statistic ensures.
use Rattle.numbers.proofs.Read.{read}
use Rattle.pad_statistic_axis.proofs.level.level_of.Goals as goal

pub returns-in-Maximum : goal.returns-in-Maximum
returns-in-Maximum c = rw c.in-Maximum.is (read c.maximum.type_inv c.maximum.ensures)

pub returns-in-Mean : goal.returns-in-Mean
returns-in-Mean c = rw c.in-Mean.is (read c.mean.type_inv c.mean.ensures)

pub returns-in-Median : goal.returns-in-Median
returns-in-Median c = rw c.in-Median.is (read c.median.type_inv c.median.ensures)

pub returns-in-Minimum : goal.returns-in-Minimum
returns-in-Minimum c = rw c.in-Minimum.is (read c.minimum.type_inv c.minimum.ensures)
