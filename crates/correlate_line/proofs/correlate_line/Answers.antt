-- `correlate_line` meets its contract: both workers set the sums, and the cells are narrow where they are raised.
use borrow.Author.Rules.{rules}
use Rattle.correlate_line.proofs.correlate_line.Goals as goal

pub raised_line-requires : goal.raised_line-requires
raised_line-requires c = let s = c in (s.requires.0, s.requires.1 (search rules))
