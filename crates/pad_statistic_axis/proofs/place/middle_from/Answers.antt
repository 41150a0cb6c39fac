-- `middle_from` meets its contract: every axis before the one that the loop has reached is in the middle.
use mathlib.Core.Path.{refl, sym, ap, ◌∙◌}
use mathlib.Core.Bool.{not}
use Prim.Native.Nat.{◌-◌}
use native.Mathlib.Omega.{arith}
use lib.ListN.{length}
use Rattle.array_spec.specs.Grid.{coordinate}
use Rattle.pad_spec.specs.Pads.{in_middle}
use Rattle.pad_statistic_axis.proofs.InMiddle.{all_stops, all_goes, all_ends}
use borrow.Author.Rules.{rules}
use Rattle.pad_statistic_axis.proofs.place.middle_from.Goals as goal

pub returns-then-not-on_middle : goal.returns-then-not-on_middle
returns-then-not-on_middle c =
    let t = in_middle c.args.shape.now c.args.lefts.now (coordinate c.args.padded.now c.args.place) in
    all_stops t (length c.args.shape.now) c.loop-a.a c.loop-a.invariant (omega arith) (ap not (sym c.on_middle.ensures) ∙ (ap not c.if-not-on_middle.true))

pub loop-a-preserved : goal.loop-a-preserved
loop-a-preserved c =
    let t = in_middle c.args.shape.now c.args.lefts.now (coordinate c.args.padded.now c.args.place) in
    all_goes t (length c.args.shape.now) c.loop-a.a c.loop-a.invariant (omega arith) (ap not (sym c.on_middle.ensures) ∙ (ap not c.if-not-on_middle.false))

pub returns : goal.returns
returns c =
    let t = in_middle c.args.shape.now c.args.lefts.now (coordinate c.args.padded.now c.args.place) in
    all_ends t (length c.args.shape.now) c.loop-a.a c.loop-a.invariant (omega arith)
