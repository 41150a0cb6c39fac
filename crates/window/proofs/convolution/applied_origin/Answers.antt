-- `applied_origin` meets its contract: the caller's origin, or the changed one, which fits 64 bits since condition 7 accepts it.
use mathlib.Core.Path.{◌≡◌, ap, sym, ◌∙◌}
use mathlib.Core.Bool.{Bool, true}
use Rattle.window_spec.specs.Window.{changed_origin, applied_origin}
use Rattle.window_spec.proofs.Changed.{negation_fits, odd-read, shift_fits}
use Rattle.window.proofs.convolution.applied_origin.Goals as goal

pub overflow_sub-result : goal.overflow_sub-result
overflow_sub-result c = let s = c in negation_fits s.args.len s.args.origin s.ranges.origin s.ranges.len.fits s.requires

pub overflow_sub-result-then-len-eq0 : goal.overflow_sub-result-then-len-eq0
overflow_sub-result-then-len-eq0 c = let s = c in shift_fits s.args.len s.args.origin s.ranges.origin s.ranges.len.fits s.requires c.if-len-eq0.true

pub overflow_sub-result-then-convolution : goal.overflow_sub-result-then-convolution
overflow_sub-result-then-convolution c = let s = c in negation_fits s.args.len s.args.origin s.ranges.origin s.ranges.len.fits s.requires

pub returns-then-convolution : goal.returns-then-convolution
returns-then-convolution c = let s = c in odd-read s.args.len s.args.origin s.ranges.origin s.ranges.len.fits s.requires c.if-len-eq0.false ∙ sym ((let convolution_is : s.args.convolution ≡ true → applied_origin s.args.convolution s.args.len s.args.origin ≡ changed_origin s.args.len s.args.origin = λ t. ap (λ (u : Bool). applied_origin u s.args.len s.args.origin) t in convolution_is) c.if-convolution.true)
