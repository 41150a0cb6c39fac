-- `cut_wide` meets its contract: the machine's quotient is cut toward zero, and fits.
use native.Mathlib.Omega.{arith}
use mir.Syntax.{w64}
use Rattle.numbers.proofs.Quotient.{quot_asked, quot_given}
use Rattle.uniform_line.proofs.cut_wide.Goals as goal

pub nonzero_div-result : goal.nonzero_div-result
nonzero_div-result c = (c.requires.0, quot_asked w64 c.args.total c.ranges.total c.args.size (omega (arith, c.requires.1)))

pub returns : goal.returns
returns c = quot_given w64 c.args.total c.ranges.total c.args.size (omega (arith, c.requires.1))
