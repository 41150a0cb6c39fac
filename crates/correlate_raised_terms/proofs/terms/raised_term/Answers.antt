-- `raised_term` meets its contract: no bit of the raised cell is lost on the way through 32 bits, and the product fits.
use Rattle.correlate_raised_terms.proofs.RaisedCells.{cell_narrow, cell_wide, term_fits, term_is, term_small}
use Rattle.correlate_raised_terms.proofs.terms.raised_term.Goals as goal

pub overflow_cast-result : goal.overflow_cast-result
overflow_cast-result c = let s = c in cell_narrow s.args.line.now s.requires.0 s.args.at s.requires.1

pub overflow_cast-result-2 : goal.overflow_cast-result-2
overflow_cast-result-2 c = let s = c in cell_wide s.args.line.now s.requires.0 s.args.at s.requires.1

pub overflow_mul-result : goal.overflow_mul-result
overflow_mul-result c = let s = c in term_fits s.args.line.now s.requires.0 s.args.at s.requires.1 s.requires.2

pub returns : goal.returns
returns c =
    let s = c in
    (term_is s.args.line.now s.requires.0 s.args.at s.requires.1 s.requires.2, term_small s.args.line.now s.requires.0 s.args.at s.requires.1 s.requires.2)
