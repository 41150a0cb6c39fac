-- `bad_applied_reach` meets its contract: the origin as it is applied is accepted where the caller's is, and its pads are judged.
use mathlib.Core.Path.{◌≡◌, ap, ◌∙◌}
use mathlib.Core.Bool.{Bool, not, ◌&&◌, and-false}
use mir.Syntax.{w64}
use mir.Val.{to_z, of_z}
use lib.Dec.{eqb}
use Rattle.window_spec.specs.Window.{bad_window_origin, applied_origin}
use Rattle.window_spec.proofs.Reach.{origin_accepted}
use Rattle.window_spec.proofs.Changed.{applied_range}
use borrow.Author.Rules.{rules}
use Rattle.window.proofs.convolution.bad_applied_reach.Goals as goal

pub bad_reach-requires : goal.bad_reach-requires
bad_reach-requires c =
    let s = c in
    let more = c.if-len-eq1.false in
    ap (bad_window_origin s.args.len) ((let applied : let a = c.args in to_z w64 (of_z w64 c.applied_origin.result) ≡ applied_origin a.convolution a.len a.origin = let a = c.args in let e : to_z w64 (of_z w64 a.origin) ≡ a.origin = search rules in let k : to_z w64 (of_z w64 c.applied_origin.result) ≡ c.applied_origin.result = search rules in k ∙ c.applied_origin.ensures ∙ ap (applied_origin a.convolution a.len) e in applied)) ∙ ap (λ (t : Bool). not (eqb s.args.len 1) && t)
    (applied_range s.args.convolution s.args.len s.args.origin ∙ origin_accepted s.args.len s.args.origin more s.requires)
    ∙ and-false (not (eqb s.args.len 1))
