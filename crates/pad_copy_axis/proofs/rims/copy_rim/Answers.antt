-- `copy_rim` meets its contract: coordinate by coordinate, what is read is in the middle of the axis.
use mathlib.Core.Path.{◌≡◌, refl, sym, ap, subst, ◌∙◌}
use Prim.Native.Nat.{ℕ, ◌+◌, ◌-◌, ◌<◌}
use native.Mathlib.Omega.{arith}
use lib.ListN.{length}
use Rattle.pad_spec.specs.Runs.{Runs, InRim, rim_set}
use Rattle.pad_copy_axis.proofs.CopiedRims.{rim_none, rim_more, rim_all, rim_below, rim_off, read-middle}
use borrow.Author.Rules.{rules}
use Rattle.pad_copy_axis.proofs.rims.copy_rim.Goals as goal

pub copy_side-requires : goal.copy_side-requires
copy_side-requires c =
    let s = c in
    let a = s.args in
    (subst (λ (x : ℕ). Runs a.mode a.p x a.blocks a.left a.n (length a.out.now)) ((let single : c.args.s ≡ 1 = c.lane_by_lane.ensures c.if-lane_by_lane.true in single)) s.requires.0, s.requires.1)

pub returns-then-lane_by_lane : goal.returns-then-lane_by_lane
returns-then-lane_by_lane c =
    let t = c in
    let a = t.args in
    c.copy_side.ensures ∙ ap (λ (x : ℕ). rim_set a.mode a.p x a.left a.n a.a a.count a.out.now) (sym ((let single : t.args.s ≡ 1 = t.lane_by_lane.ensures t.if-lane_by_lane.true in single)))

pub overflow_add-at : goal.overflow_add-at
overflow_add-at c = let s = c in omega (arith, (let inside : let a = c.args in a.a + c.loop-j.j < a.p = let s = c in rim_below s.args.n ((let here : let a = c.args in InRim a.left a.n a.p (a.a + c.loop-j.j) = let s = c in s.requires.1 (s.args.a + c.loop-j.j) (omega arith) (omega (arith, c.loop-j-test.true)) in here)) s.requires.0.room in inside), s.requires.0.short)

pub read_from-from-requires : goal.read_from-from-requires
read_from-from-requires c = let s = c in (s.requires.0.room, s.requires.0.short, (let here : let a = c.args in InRim a.left a.n a.p (a.a + c.loop-j.j) = let s = c in s.requires.1 (s.args.a + c.loop-j.j) (omega arith) (omega (arith, c.loop-j-test.true)) in here))

pub copy_coordinate-requires : goal.copy_coordinate-requires
copy_coordinate-requires c =
    let i = c in
    let s = i in
    let R = s.requires.0 in
    let M = read-middle R ((let here : let a = i.args in InRim a.left a.n a.p (a.a + i.loop-j.j) = let s = i in s.requires.1 (s.args.a + i.loop-j.j) (omega arith) (omega (arith, i.loop-j-test.true)) in here)) in
    let e = c.read_from-from.ensures in
    let kept = i.loop-j.invariant.stored.kept in
    (omega (arith, e, M.1, R.room), (let inside : let a = i.args in a.a + i.loop-j.j < a.p = let s = i in rim_below s.args.n ((let here : let a = i.args in InRim a.left a.n a.p (a.a + i.loop-j.j) = let s = i in s.requires.1 (s.args.a + i.loop-j.j) (omega arith) (omega (arith, i.loop-j-test.true)) in here)) s.requires.0.room in inside), (λ z. rim_off s.args.n ((let here : let a = i.args in InRim a.left a.n a.p (a.a + i.loop-j.j) = let s = i in s.requires.1 (s.args.a + i.loop-j.j) (omega arith) (omega (arith, i.loop-j-test.true)) in here)) (omega (arith, e, M.0, z)) (omega (arith, e, M.1, z))), R.apart, kept ∙ R.whole, omega (arith, kept, R.small))

pub loop-j-preserved : goal.loop-j-preserved
loop-j-preserved c =
    let i = c in
    let s = i in
    rim_more s.requires.0 refl s.requires.1 i.loop-j-test.true i.loop-j.invariant c.read_from-from.ensures c.copy_coordinate.ensures

pub returns : goal.returns
returns c = rim_all c.args.count (omega arith) c.loop-j.invariant
