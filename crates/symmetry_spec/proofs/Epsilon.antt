-- |x| > 2^−52, by two comparisons: x > 2^−52, or else x < −2^−52. Assumes nothing.
use mathlib.Core.Path.{◌≡◌, refl, ◌∙◌}
use mathlib.Core.Bool.{Bool, true, false, ◌||◌}
use lib.Ieee.{Float, nan, inf, fin, lt, neg}
use Rattle.symmetry_spec.specs.Class.{exceeds, epsilon}

or_false : (a : Bool) → a ≡ a || false
or_false true = refl
or_false false = refl

exceeds_either : (x : Float) → exceeds x ≡ lt epsilon x || lt x (neg epsilon)
unfolding exceeds lt neg
exceeds_either nan = refl
exceeds_either (inf true) = refl
exceeds_either (inf false) = refl
exceeds_either (fin false m e) = or_false _
exceeds_either (fin true m e) = refl

pub exceeds_above : (x : Float) → lt epsilon x ≡ true → exceeds x ≡ true
exceeds_above x h = exceeds_either x ∙ rw h

pub exceeds_else : (x : Float) → lt epsilon x ≡ false → exceeds x ≡ lt x (neg epsilon)
exceeds_else x h = exceeds_either x ∙ rw h
