-- `add_fours` meets its contract: each turn adds the terms of four weights to the whole row.
use mathlib.Core.Path.{refl}
use Rattle.correlate_plain.proofs.Passes.{adding_none, passed, four-more}
use borrow.Author.Rules.{rules}
use Rattle.correlate_plain.proofs.plain.add_fours.Goals as goal

pub loop-k-init : goal.loop-k-init
loop-k-init c = (search rules, refl, adding_none _ _ _)

pub add_four_rows-requires : goal.add_four_rows-requires
add_four_rows-requires c = let l = c.loop-k in (passed c.args.backward l.invariant.2 c.requires l.invariant.0, search rules)

pub loop-k-preserved : goal.loop-k-preserved
loop-k-preserved c = let l = c.loop-k in (search rules, refl, four-more l.invariant.2 c.add_four_rows.ensures)

pub returns : goal.returns
returns c = (search rules, c.loop-k.invariant.2.is)
