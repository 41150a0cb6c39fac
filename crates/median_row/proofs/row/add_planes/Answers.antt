-- `add_planes` meets its contract: each turn adds the rows of one plane.
use mathlib.Core.Path.{sym, ap, subst, ◌∙◌}
use Prim.Native.Nat.{ℕ, ◌+◌, ◌-◌, ◌*◌}
use native.Mathlib.Omega.{arith}
use Rattle.median_spec.specs.ByRows.{plane_count, MaskRowNeeds, Room, added}
use Rattle.median_spec.proofs.Reach.{planes_few, plane_reaches}
use Rattle.median_spec.proofs.Adding.{adding_none, adding_room, adding_more, adding_all}
use borrow.Author.Rules.{rules}
use Rattle.median_row.proofs.row.add_planes.Goals as goal

pub loop-x-init : goal.loop-x-init
loop-x-init c = adding_none _ _ _ _

pub add_plane-requires : goal.add_plane-requires
add_plane-requires c =
    let s = c in
    let l = c.loop-x in
    subst (λ (n : ℕ). MaskRowNeeds s.args.mask.now n (l.x * s.args.rows + s.args.ys.to) × Room (plane_count s.args.mask.now s.args.rows n s.args.ys l.x) l.counts)
    (sym l.invariant.kept)
    (plane_reaches s.requires.0 l.x s.args.ys.to (search rules) s.requires.2, adding_room l.invariant (search rules) s.requires.3)

pub loop-x-preserved : goal.loop-x-preserved
loop-x-preserved c =
    let s = c in
    let l = c.loop-x in
    adding_more l.invariant (search rules) (c.add_plane.ensures ∙ ap (λ (n : ℕ). added (plane_count s.args.mask.now s.args.rows n s.args.ys l.x) l.counts)
    l.invariant.kept)

pub shape_of-counts : goal.shape_of-counts
shape_of-counts c = c.loop-x.invariant.kept

pub returns : goal.returns
returns c = adding_all c.loop-x.invariant (search rules)
