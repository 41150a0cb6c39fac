-- `pads` refuses what `refuses` does; the two sums of an accepted origin are the laws for its sign, and fit since the origin is at most half the length.
use mathlib.Core.Path.{◌≡◌, refl, sym, ap, ◌∙◌}
use mathlib.Core.Bool.{false}
use native.Mathlib.Omega.{arith}
use lib.IntN.{pos, negsuc}
use Rattle.window.specs.declared.origin.Shift.{Shift}
use Rattle.window_spec.specs.Origin.{bad_origin}
use Rattle.window.specs.Shift.{origin_of}
use Rattle.window_spec.proofs.Origins.{accepted_on, accepted-back, pads_on, pads_back}
use Rattle.window.proofs.origin.pads.Goals as goal
use Rattle.window.proofs.origin.pads.Goals.{In-Back, In-On}

-- what the refusal that was not given tells of the origin, in each arm
on : (c : In-On) → bad_origin c.args.len (pos c.in-On.k) ≡ false
on c =
    let r = c in
    ap (λ (s : Shift). bad_origin r.args.len (origin_of s)) (sym c.in-On.is) ∙ sym r.refuses.ensures ∙ c.if-refuses.false

back : (c : In-Back) → bad_origin c.args.len (negsuc c.in-Back.k) ≡ false
back c =
    let r = c in
    ap (λ (s : Shift). bad_origin r.args.len (origin_of s)) (sym c.in-Back.is) ∙ sym r.refuses.ensures ∙ c.if-refuses.false

pub returns-then-refuses : goal.returns-then-refuses
returns-then-refuses c = rw (sym c.refuses.ensures ∙ c.if-refuses.true) refl

pub overflow_add-result : goal.overflow_add-result
overflow_add-result c = omega (arith, accepted_on _ _ (on c))

pub overflow_sub-result : goal.overflow_sub-result
overflow_sub-result c = omega (arith, accepted_on _ _ (on c))

pub overflow_sub-result-in-Back : goal.overflow_sub-result-in-Back
overflow_sub-result-in-Back c = omega (arith, accepted-back _ _ (back c))

pub overflow_sub-result-in-Back-2 : goal.overflow_sub-result-in-Back-2
overflow_sub-result-in-Back-2 c = omega (arith, accepted-back _ _ (back c))

pub overflow_add-result-in-Back : goal.overflow_add-result-in-Back
overflow_add-result-in-Back c = omega (arith, accepted-back _ _ (back c))

pub overflow_add-result-in-Back-2 : goal.overflow_add-result-in-Back-2
overflow_add-result-in-Back-2 c = omega (arith, accepted-back _ _ (back c))

pub returns-in-On : goal.returns-in-On
returns-in-On c = rw c.in-On.is (sym (pads_on _ _ _ _ (on c) (omega (arith, accepted_on _ _ (on c)))))

pub returns-in-Back : goal.returns-in-Back
returns-in-Back c = rw c.in-Back.is (sym (pads_back _ _ _ _ (back c) (accepted-back _ _ (back c))))
