-- `min_max_axis::sweep::pass` meets its contract: a window of one cell copies, any other has the pads of its accepted origin.
use Prim.Native.Nat.{◌-◌, ◌/◌}
use mathlib.Core.Path.{◌≡◌, ap, ◌∙◌}
use mir.Syntax.{w64}
use mir.Val.{to_z, of_z}
use Rattle.window_spec.specs.Origin.{origin_pads}
use Rattle.min_max_spec.proofs.Passed.{passed}
use Rattle.min_max_judge.specs.Judge.{call_of}
use Rattle.min_max_axis.specs.Lane.{order_of}
use Rattle.window_spec.proofs.Reach.{origin_refused, PadsAre, pads_are}
use Rattle.min_max_axis.proofs.OnePass.{copied_answer, sweep_accepted, window_wide, swept_answer}
use borrow.Author.Rules.{rules}
use Rattle.min_max_axis.proofs.sweep.pass.Goals as goal

pub returns-then-size-eq1 : goal.returns-then-size-eq1
returns-then-size-eq1 c =
    let s = c in
    copied_answer (order_of s.args.extreme) s.args.«data».now ((call_of s.args.shape.now s.args.size s.args.axis s.args.mode s.args.origin s.args.out.now)) s.requires c.if-size-eq1.true c.copy.ensures

pub filter_axis-requires : goal.filter_axis-requires
filter_axis-requires c =
    let s = c in
    let D = s.args.«data».now in
    let G = (let given : let s = c in PadsAre s.args.size s.args.origin c.if-size-eq1.false (passed s.args.«data».now ((call_of s.args.shape.now s.args.size s.args.axis s.args.mode s.args.origin s.args.out.now)) s.requires).origin ((let checked : let a = c.args in c.origin_check.result ≡ origin_pads a.size (a.size / 2) (a.size - a.size / 2 - 1) a.origin = let a = c.args in let e : to_z w64 (of_z w64 a.origin) ≡ a.origin = search rules in c.origin_check.ensures.pads ∙ ap (origin_pads a.size (a.size / 2) (a.size - a.size / 2 - 1)) e in checked)) c.in-Pads.left c.in-Pads.right = let s = c in pads_are s.args.size s.args.origin c.if-size-eq1.false (passed s.args.«data».now ((call_of s.args.shape.now s.args.size s.args.axis s.args.mode s.args.origin s.args.out.now)) s.requires).origin ((let checked : let a = c.args in c.origin_check.result ≡ origin_pads a.size (a.size / 2) (a.size - a.size / 2 - 1) a.origin = let a = c.args in let e : to_z w64 (of_z w64 a.origin) ≡ a.origin = search rules in c.origin_check.ensures.pads ∙ ap (origin_pads a.size (a.size / 2) (a.size - a.size / 2 - 1)) e in checked)) c.in-Pads.is in given) in
    let le = order_of s.args.extreme in
    let more = c.if-size-eq1.false in
    (sweep_accepted le D ((call_of s.args.shape.now s.args.size s.args.axis s.args.mode s.args.origin s.args.out.now)) s.requires more G.left G.right, window_wide le D ((call_of s.args.shape.now s.args.size s.args.axis s.args.mode s.args.origin s.args.out.now)) s.requires more G.left G.right)

pub returns-in-Refused : goal.returns-in-Refused
returns-in-Refused c =
    let s = c in
    absurd (origin_refused s.args.size s.args.origin c.if-size-eq1.false (passed s.args.«data».now ((call_of s.args.shape.now s.args.size s.args.axis s.args.mode s.args.origin s.args.out.now)) s.requires).origin
    ((let checked : let a = c.args in c.origin_check.result ≡ origin_pads a.size (a.size / 2) (a.size - a.size / 2 - 1) a.origin = let a = c.args in let e : to_z w64 (of_z w64 a.origin) ≡ a.origin = search rules in c.origin_check.ensures.pads ∙ ap (origin_pads a.size (a.size / 2) (a.size - a.size / 2 - 1)) e in checked)) c.in-Refused.is)

pub returns-in-Pads : goal.returns-in-Pads
returns-in-Pads c =
    let s = c in
    let G = (let given : let s = c in PadsAre s.args.size s.args.origin c.if-size-eq1.false (passed s.args.«data».now ((call_of s.args.shape.now s.args.size s.args.axis s.args.mode s.args.origin s.args.out.now)) s.requires).origin ((let checked : let a = c.args in c.origin_check.result ≡ origin_pads a.size (a.size / 2) (a.size - a.size / 2 - 1) a.origin = let a = c.args in let e : to_z w64 (of_z w64 a.origin) ≡ a.origin = search rules in c.origin_check.ensures.pads ∙ ap (origin_pads a.size (a.size / 2) (a.size - a.size / 2 - 1)) e in checked)) c.in-Pads.left c.in-Pads.right = let s = c in pads_are s.args.size s.args.origin c.if-size-eq1.false (passed s.args.«data».now ((call_of s.args.shape.now s.args.size s.args.axis s.args.mode s.args.origin s.args.out.now)) s.requires).origin ((let checked : let a = c.args in c.origin_check.result ≡ origin_pads a.size (a.size / 2) (a.size - a.size / 2 - 1) a.origin = let a = c.args in let e : to_z w64 (of_z w64 a.origin) ≡ a.origin = search rules in c.origin_check.ensures.pads ∙ ap (origin_pads a.size (a.size / 2) (a.size - a.size / 2 - 1)) e in checked)) c.in-Pads.is in given) in
    swept_answer (order_of s.args.extreme) s.args.«data».now ((call_of s.args.shape.now s.args.size s.args.axis s.args.mode s.args.origin s.args.out.now)) s.requires c.if-size-eq1.false
    G.left G.right c.filter_axis.ensures
