-- `padded_cells` meets its contract: the product of three padded lengths, of which the missing ones are 1.
use borrow.Author.Rules.{rules}
use Rattle.pad_spec.proofs.PairOf.{pair-asked, padded_short, padded-three}
use Rattle.pad_count.proofs.count.padded_cells.Goals as goal

pub padded_len-a-requires : goal.padded_len-a-requires
padded_len-a-requires c = let a = c.args in let r = c.requires in pair-asked a.shape.now a.pads a.count r.0 (search rules) r.1 r.2 0

pub padded_len-b-requires : goal.padded_len-b-requires
padded_len-b-requires c = let a = c.args in let r = c.requires in pair-asked a.shape.now a.pads a.count r.0 (search rules) r.1 r.2 1

pub padded_len-c-requires : goal.padded_len-c-requires
padded_len-c-requires c = let a = c.args in let r = c.requires in pair-asked a.shape.now a.pads a.count r.0 (search rules) r.1 r.2 2

pub count_of_three-requires : goal.count_of_three-requires
count_of_three-requires c =
    let a = c.args in
    let r = c.requires in (
      padded_short a.shape.now a.pads a.count r.0 (search rules) r.1 r.2 0 c.padded_len-a.ensures,
      padded_short a.shape.now a.pads a.count r.0 (search rules) r.1 r.2 1 c.padded_len-b.ensures,
      padded_short a.shape.now a.pads a.count r.0 (search rules) r.1 r.2 2 c.padded_len-c.ensures,
    )

pub returns : goal.returns
returns c =
    let a = c.args in
    let r = c.requires in
    padded-three a.shape.now a.pads a.count r.0 (search rules) r.1 r.2
    c.padded_len-a.ensures c.padded_len-b.ensures c.padded_len-c.ensures c.count_of_three.ensures
