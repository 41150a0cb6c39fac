-- `fill_lane` meets its contract: the lane is inside, and its first place tells whether it is filled.
use mathlib.Core.Path.{sym, ap, ◌∙◌}
use native.Mathlib.Omega.{arith}
use lib.ListN.{get_or}
use Rattle.numbers.proofs.Tests.{cond_yes, cond_no}
use Rattle.pad_spec.specs.Fill.{filled_lane}
use Rattle.pad_statistic_axis.proofs.OneLane.{first_in_lem, lane_out, lane_in}
use mathlib.Core.Bool.{not}
use Rattle.pad_statistic_axis.proofs.axis.fill_lane.Goals as goal

pub middle_from-requires : goal.middle_from-requires
middle_from-requires c =
    let s = c in
    (s.requires.0, first_in_lem s.requires.0 s.requires.1 s.requires.3 s.requires.4 s.requires.5 s.requires.6 c.first_place-first.ensures, omega (arith, s.requires.1))

pub returns-then-not-middle_from : goal.returns-then-not-middle_from
returns-then-not-middle_from c =
    let s = c in
    sym (cond_no _ _ _ (lane_out s.requires.0 s.requires.1 s.requires.3 s.requires.4 s.requires.5 s.requires.6 c.first_place-first.ensures c.middle_from.ensures (ap not c.if-not-middle_from.true)))

pub returns : goal.returns
returns c =
    let s = c in
    let a = s.args in
    let t = c in
    c.fill_lane.ensures
    ∙ ap (λ x. filled_lane a.statistic a.p a.s a.lane (get_or a.lefts.now a.axis 0) x a.out.now) c.len_of.ensures
    ∙ sym (cond_yes _ _ _ (lane_in s.requires.0 s.requires.1 s.requires.3 s.requires.4 s.requires.5 s.requires.6 t.first_place-first.ensures t.middle_from.ensures (ap not t.if-not-middle_from.false)))
