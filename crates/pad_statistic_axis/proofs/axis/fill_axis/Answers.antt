-- `fill_axis` meets its contract: lane by lane, more places hold their levels.
use mathlib.Core.Path.{refl, sym, subst, ◌∙◌}
use Prim.Native.Nat.{ℕ, ◌-◌, ◌<◌}
use native.Mathlib.Omega.{arith}
use Rattle.pad_spec.proofs.Room.{padded_few, axis-length}
use Rattle.pad_statistic_axis.proofs.Lanes.{on_axis_lem, axis-full, along_none, along_more, along_all}
use Rattle.pad_statistic_axis.proofs.axis.fill_axis.Goals as goal

pub returns-then-p-len_of : goal.returns-then-p-len_of
returns-then-p-len_of c =
    let s = c in
    axis-full s.requires.0 s.args.axis s.requires.1 (sym c.len_of-p.ensures ∙ c.if-p-len_of.true ∙ c.len_of.ensures)

pub stride_of-s-requires : goal.stride_of-s-requires
stride_of-s-requires c = let F = c.requires.0 in (padded_few F, F.short)

pub nonzero_div-count : goal.nonzero_div-count
nonzero_div-count c =
    let s = c in
    subst (λ (x : ℕ). 0 < x) (sym c.len_of-p.ensures) (axis-length s.requires.0 s.args.axis)

pub loop-lane-init : goal.loop-lane-init
loop-lane-init c =
    let s = c in
    (on_axis_lem s.requires.0 c.len_of-p.ensures c.stride_of-s.ensures s.requires.3, along_none s.requires.3, refl)

pub fill_lane-requires : goal.fill_lane-requires
fill_lane-requires c =
    let s = c in
    let L = c.loop-lane in
    let O = L.invariant.0 in
    (s.requires.0, s.requires.1, λ apart. L.invariant.2 ∙ s.requires.2 (λ e. apart (O.apart ∙ e)), L.invariant.1.count, O.long, O.apart, omega (arith, O.split))

pub loop-lane-preserved : goal.loop-lane-preserved
loop-lane-preserved c =
    let L = c.loop-lane in
    let f = c.fill_lane in
    (L.invariant.0, along_more L.invariant.0 (omega arith) L.invariant.1 f.auto.out f.ensures, f.auto.line ∙ L.invariant.2)

pub returns : goal.returns
returns c =
    let s = c in
    let L = c.loop-lane in
    along_all s.requires.0 s.requires.1 L.invariant.0 (omega arith) L.invariant.1
