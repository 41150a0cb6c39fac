-- `cut_narrow` meets its contract: sum and size fit 32 bits, and so does the quotient, which is cut toward zero.
use Rattle.uniform_line.proofs.Narrow.{narrow_fits, narrow_asked, wide_fits, narrow_read}
use Rattle.uniform_line.proofs.cut_narrow.Goals as goal

pub overflow_cast-result : goal.overflow_cast-result
overflow_cast-result c = narrow_fits c.args.total c.args.size c.requires.1 c.requires.2

pub nonzero_div-result : goal.nonzero_div-result
nonzero_div-result c = (c.requires.0, narrow_asked c.args.total c.args.size c.requires.1 c.requires.2)

pub overflow_cast-result-3 : goal.overflow_cast-result-3
overflow_cast-result-3 c = wide_fits c.args.total c.args.size c.requires.1 c.requires.2

pub returns : goal.returns
returns c = narrow_read c.args.total c.args.size c.requires.1 c.requires.2
