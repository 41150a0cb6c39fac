-- `pad::calls::lay` meets its contract: an accepted shape has at most three axes.
use Prim.Native.Nat.{◌≤◌}
use mathlib.Core.Path.{sym}
use lib.ListN.{length}
use lib.Seq.{length-take-le}
use Rattle.array_spec.proofs.Shapes.{shape-accepted}
use Rattle.pad.proofs.Accepted.{passed}
use Rattle.pad.proofs.calls.lay.Goals as goal

pub slice_bounds-lefts-end : goal.slice_bounds-lefts-end
slice_bounds-lefts-end c = (let few : length c.args.shape.now ≤ 3 = (shape-accepted _ (passed c.args.mode c.args.shape.now c.args.pads c.args.count c.args.«data».now (length c.args.out.now) c.requires).grid.shape).few in few)

pub slice_bounds-lay_in-end : goal.slice_bounds-lay_in-end
slice_bounds-lay_in-end c = sym (length-take-le (length c.args.shape.now) _ ((let few : length c.args.shape.now ≤ 3 = (shape-accepted _ (passed c.args.mode c.args.shape.now c.args.pads c.args.count c.args.«data».now (length c.args.out.now) c.requires).grid.shape).few in few)))

pub slice_bounds-padded-end : goal.slice_bounds-padded-end
slice_bounds-padded-end c = (let few : length c.args.shape.now ≤ 3 = (shape-accepted _ (passed c.args.mode c.args.shape.now c.args.pads c.args.count c.args.«data».now (length c.args.out.now) c.requires).grid.shape).few in few)

pub slice_bounds-lay_in-end-2 : goal.slice_bounds-lay_in-end-2
slice_bounds-lay_in-end-2 c = sym (length-take-le (length c.args.shape.now) _ ((let few : length c.args.shape.now ≤ 3 = (shape-accepted _ (passed c.args.mode c.args.shape.now c.args.pads c.args.count c.args.«data».now (length c.args.out.now) c.requires).grid.shape).few in few)))

pub lay_in-requires : goal.lay_in-requires
lay_in-requires c =
    let s = c in
    (s.requires, sym ((sym (length-take-le (length c.args.shape.now) _ ((let few : length c.args.shape.now ≤ 3 = (shape-accepted _ (passed c.args.mode c.args.shape.now c.args.pads c.args.count c.args.«data».now (length c.args.out.now) c.requires).grid.shape).few in few))))), sym ((sym (length-take-le (length c.args.shape.now) _ ((let few : length c.args.shape.now ≤ 3 = (shape-accepted _ (passed c.args.mode c.args.shape.now c.args.pads c.args.count c.args.«data».now (length c.args.out.now) c.requires).grid.shape).few in few))))))
