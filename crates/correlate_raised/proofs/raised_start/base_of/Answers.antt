-- `base_of` meets its contract: each step of it fits.
use Rattle.correlate_raised.proofs.RaisedBase.{weights_summable, times_computed, raised_sum, scaled, base, base_read}
use Rattle.correlate_raised.proofs.raised_start.base_of.Goals as goal

pub sum_of-requires : goal.sum_of-requires
sum_of-requires c = weights_summable c.requires

pub overflow_mul-sum : goal.overflow_mul-sum
overflow_mul-sum c = (times_computed c.requires).fits

pub overflow_add-sum : goal.overflow_add-sum
overflow_add-sum c = (raised_sum c.requires c.sum_of.ensures).fits

pub overflow_mul-result : goal.overflow_mul-result
overflow_mul-result c = (scaled c.requires c.sum_of.ensures).fits

pub overflow_sub-result : goal.overflow_sub-result
overflow_sub-result c = (base c.requires c.sum_of.ensures).fits

pub returns : goal.returns
returns c = base_read c.requires c.sum_of.ensures
