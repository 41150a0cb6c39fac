-- `median_cells` meets its contract: the three lengths are the shape.
use Rattle.median.proofs.Accepted.{mask_laid, mask_answered}
use Rattle.median.proofs.median_cells.Goals as goal

pub median_rows-requires : goal.median_rows-requires
median_rows-requires c = let s = c in mask_laid s.args.shape.now s.args.mask.now s.args.out.now s.requires
    c.len_of-planes.ensures c.len_of-rows.ensures c.len_of-n.ensures

pub returns : goal.returns
returns c = let s = c in mask_answered s.args.shape.now s.args.mask.now s.args.out.now s.requires
    c.len_of-planes.ensures c.len_of-rows.ensures c.len_of-n.ensures
    c.median_rows.ensures
