-- `fill_fields` meets its contract: the numbers are stored from the front.
use native.Mathlib.Omega.{arith}
use Rattle.recipe_fields.proofs.Places.{recipe_stored}
use Rattle.recipe_fields.proofs.reader.fill_fields.Goals as goal

pub returns : goal.returns
returns c =
    let l = c.loop-i in
    recipe_stored c.args.count c.args.steps c.well_formed.1.0.1.0.1 l.i c.args.out.now l.out l.invariant.0 (omega arith) l.invariant.1
