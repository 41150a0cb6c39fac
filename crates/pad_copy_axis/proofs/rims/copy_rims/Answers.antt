-- `copy_rims` meets its contract: the coordinates before the lanes' own cells, then those after them.
use mathlib.Core.Path.{refl, sym, subst}
use Rattle.pad_spec.specs.Runs.{Runs}
use Rattle.pad_copy_axis.proofs.CopiedRims.{rim_before, rim_beyond, rims_all}
use Rattle.pad_copy_axis.proofs.rims.copy_rims.Goals as goal

pub copy_rim-requires : goal.copy_rim-requires
copy_rim-requires c = (c.requires, rim_before _ _ _)

pub copy_rim-requires-2 : goal.copy_rim-requires-2
copy_rim-requires-2 c = (subst (Runs _ _ _ _ _ _) (sym c.copy_rim.auto.out) c.requires, rim_beyond _ _ _)

pub returns : goal.returns
returns c =
    let s = c in
    rims_all s.requires s.args.out.now refl c.copy_rim.ensures c.copy_rim-2.ensures
