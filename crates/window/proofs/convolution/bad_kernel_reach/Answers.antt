-- `bad_kernel_reach` meets its contract: the origin as it is applied is accepted where the caller's is, and the pads that it gives are asked about.
use Prim.Native.Nat.{◌/◌}
use mathlib.Core.Path.{◌≡◌, ap, ◌∙◌}
use mathlib.Core.Bool.{false}
use mathlib.Core.List.{[], ◌∷◌}
use mir.Syntax.{w64}
use mir.Val.{to_z, of_z}
use Rattle.border.specs.Axes.{borders_of, any_axis}
use Rattle.border.proofs.AnyAxis.{axis-one}
use Rattle.window_spec.specs.Origin.{bad_origin, origin_pads}
use Rattle.window_spec.proofs.Answered.{not_refused, left_is, right_is}
use Rattle.window_spec.specs.Window.{kernel_left, kernel_right, applied_origin, bad_either_pad}
use Rattle.window_spec.proofs.Changed.{applied_range}
use borrow.Author.Rules.{rules}
use Rattle.window.proofs.convolution.bad_kernel_reach.Goals as goal

pub returns-in-Refused : goal.returns-in-Refused
returns-in-Refused c =
    let s = c in
    absurd (not_refused s.args.side (s.args.side / 2) (s.args.side / 2) _ ((let accepted : bad_origin s.args.side ((applied_origin s.args.convolution s.args.side s.args.origin)) ≡ false = applied_range s.args.convolution s.args.side s.args.origin ∙ s.requires in accepted)) ((let checked : let a = c.args in c.kernel_origin_check.result ≡ origin_pads a.side (a.side / 2) (a.side / 2) (applied_origin a.convolution a.side a.origin) = let a = c.args in let e : to_z w64 (of_z w64 a.origin) ≡ a.origin = search rules in let k : to_z w64 (of_z w64 c.applied_origin-applied.result) ≡ c.applied_origin-applied.result = search rules in c.kernel_origin_check.ensures.pads ∙ ap (origin_pads a.side (a.side / 2) (a.side / 2)) (k ∙ c.applied_origin-applied.ensures ∙ ap (applied_origin a.convolution a.side) e) in checked)) c.in-Refused.is)

pub returns-in-Pads : goal.returns-in-Pads
returns-in-Pads c =
    let s = c in
    let l = left_is s.args.side (s.args.side / 2) (s.args.side / 2) _ ((let accepted : bad_origin s.args.side ((applied_origin s.args.convolution s.args.side s.args.origin)) ≡ false = applied_range s.args.convolution s.args.side s.args.origin ∙ s.requires in accepted)) ((let checked : let a = c.args in c.kernel_origin_check.result ≡ origin_pads a.side (a.side / 2) (a.side / 2) (applied_origin a.convolution a.side a.origin) = let a = c.args in let e : to_z w64 (of_z w64 a.origin) ≡ a.origin = search rules in let k : to_z w64 (of_z w64 c.applied_origin-applied.result) ≡ c.applied_origin-applied.result = search rules in c.kernel_origin_check.ensures.pads ∙ ap (origin_pads a.side (a.side / 2) (a.side / 2)) (k ∙ c.applied_origin-applied.ensures ∙ ap (applied_origin a.convolution a.side) e) in checked)) c.in-Pads.is in
    let r = right_is s.args.side (s.args.side / 2) (s.args.side / 2) _ ((let accepted : bad_origin s.args.side ((applied_origin s.args.convolution s.args.side s.args.origin)) ≡ false = applied_range s.args.convolution s.args.side s.args.origin ∙ s.requires in accepted)) ((let checked : let a = c.args in c.kernel_origin_check.result ≡ origin_pads a.side (a.side / 2) (a.side / 2) (applied_origin a.convolution a.side a.origin) = let a = c.args in let e : to_z w64 (of_z w64 a.origin) ≡ a.origin = search rules in let k : to_z w64 (of_z w64 c.applied_origin-applied.result) ≡ c.applied_origin-applied.result = search rules in c.kernel_origin_check.ensures.pads ∙ ap (origin_pads a.side (a.side / 2) (a.side / 2)) (k ∙ c.applied_origin-applied.ensures ∙ ap (applied_origin a.convolution a.side) e) in checked)) c.in-Pads.is in
    c.bad_pads_any.ensures
    ∙ (λ j. any_axis (λ b. bad_either_pad b (l j) (r j)) (borders_of (s.args.mode ∷ s.args.mode ∷ s.args.mode ∷ [])) s.args.shape.now)
    ∙ axis-one (λ b. bad_either_pad b (kernel_left s.args.side ((applied_origin s.args.convolution s.args.side s.args.origin))) (kernel_right s.args.side ((applied_origin s.args.convolution s.args.side s.args.origin)))) s.args.mode s.args.shape.now
