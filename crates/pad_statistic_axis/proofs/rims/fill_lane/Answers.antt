-- `fill_lane` meets its contract: where the lane is not served the grid stays, else both rims are filled with the level of its own cells.
use mathlib.Core.Path.{◌≡◌, ap, ◌∙◌}
use Prim.Native.Nat.{◌+◌, ◌-◌, ◌≤◌}
use native.Mathlib.Omega.{arith}
use lib.IntN.{ℤ, pos}
use lib.ListN.{length}
use Rattle.numbers.proofs.Read.{read}
use Rattle.numbers.proofs.Tests.{cond_yes}
use Rattle.lanes.specs.Lanes.{lane_base, lane_inside, with_lane}
use Rattle.border.specs.Border.{constant}
use Rattle.pad_line.specs.Line.{padded_line}
use Rattle.pad_spec.proofs.Rims.{own_of}
use Rattle.pad_spec.proofs.Serves.{Serving, lane_stays, lane_served, lane-filled}
use mathlib.Core.Bool.{not}
use Rattle.pad_statistic_axis.proofs.rims.fill_lane.Goals as goal

pub returns-then-not-serves : goal.returns-then-not-serves
returns-then-not-serves c = let a = c.args in lane_stays a.statistic a.p a.s a.l a.left a.n a.out.now c.serves.ensures (ap not c.if-not-serves.true)

pub level_in-c-requires : goal.level_in-c-requires
level_in-c-requires c = let e = c in (((let served : let a = e.args in Serving a.p a.s a.l (length a.out.now) a.left a.n = let a = e.args in lane_served a.statistic a.p a.s a.l a.left a.n a.out.now e.serves.ensures (ap not e.if-not-serves.false) in served)).inside, (let based : let a = e.args in e.first_place-base.result ≡ lane_base a.p a.s a.l = let a = e.args in e.first_place-base.ensures ∙ cond_yes (lane_inside a.p a.s a.l (length a.out.now)) (lane_base a.p a.s a.l) (length a.out.now) ((let served : let a = e.args in Serving a.p a.s a.l (length a.out.now) a.left a.n = let a = e.args in lane_served a.statistic a.p a.s a.l a.left a.n a.out.now e.serves.ensures (ap not e.if-not-serves.false) in served)).inside in based), ((let served : let a = e.args in Serving a.p a.s a.l (length a.out.now) a.left a.n = let a = e.args in lane_served a.statistic a.p a.s a.l a.left a.n a.out.now e.serves.ensures (ap not e.if-not-serves.false) in served)).room, (let lent : let a = e.args in (a.s ≡ 1 → ⊥) → a.p ≤ length a.line.now = λ apart. omega (arith, ((let served : let a = e.args in Serving a.p a.s a.l (length a.out.now) a.left a.n = let a = e.args in lane_served a.statistic a.p a.s a.l a.left a.n a.out.now e.serves.ensures (ap not e.if-not-serves.false) in served)).short, e.requires apart) in lent))

pub fill_level-requires : goal.fill_level-requires
fill_level-requires c = let e = c in (((let served : let a = e.args in Serving a.p a.s a.l (length a.out.now) a.left a.n = let a = e.args in lane_served a.statistic a.p a.s a.l a.left a.n a.out.now e.serves.ensures (ap not e.if-not-serves.false) in served)).inside, (let based : let a = e.args in e.first_place-base.result ≡ lane_base a.p a.s a.l = let a = e.args in e.first_place-base.ensures ∙ cond_yes (lane_inside a.p a.s a.l (length a.out.now)) (lane_base a.p a.s a.l) (length a.out.now) ((let served : let a = e.args in Serving a.p a.s a.l (length a.out.now) a.left a.n = let a = e.args in lane_served a.statistic a.p a.s a.l a.left a.n a.out.now e.serves.ensures (ap not e.if-not-serves.false) in served)).inside in based), ((let served : let a = e.args in Serving a.p a.s a.l (length a.out.now) a.left a.n = let a = e.args in lane_served a.statistic a.p a.s a.l a.left a.n a.out.now e.serves.ensures (ap not e.if-not-serves.false) in served)).room)

pub returns : goal.returns
returns c =
    let t = c in
    let e = t in
    let a = e.args in
    let own = own_of (pos 0) a.p a.s a.l a.left a.n a.out.now in
    lane-filled a.statistic a.p a.s a.l a.left a.n a.out.now e.serves.ensures (ap not e.if-not-serves.false)
    (c.fill_level.ensures
    ∙ ap (λ (z : ℤ). with_lane (pos 0) a.p a.s a.l (padded_line (pos 0) (constant z) a.left (a.p - (a.left + a.n)) own) a.out.now) (read t.level_in-c.type_inv t.level_in-c.ensures))
