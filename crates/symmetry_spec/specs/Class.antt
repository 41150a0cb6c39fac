-- The symmetry class of a kernel w, in the words of document 01, over the element and the test t of a mirrored pair.
-- The test takes the right weight and then the left; in class_of it is first told whether the left weight's sign is
-- turned. d stands past the end of w and is never reached.
--   some_differs t d w h k   whether a pair of w at a distance of 1 to k from place h differs
--   pair_differs t d w       whether a mirrored pair of w differs; the middle weight is never looked at
--   class_of t d w           the class of w: Symmetric is tested before AntiSymmetric
--   equal_z a b              whether two whole numbers are equal
--   differ_z turned a b      whole numbers: whether a is not b, or, with the sign turned, not −b
--   class_z w                the class of whole weights
--   epsilon                 2^−52
--   abs_f x                  the absolute value
--   exceeds x               whether |x| exceeds 2^−52
--   differ_f turned a b      floats: whether the rounded difference, or, with the sign turned, the rounded sum exceeds
--                           2^−52
--   class_f w                the class of float weights
use Rattle.std.specs.Prelude.{ℕ, zero, suc, ◌+◌, ◌-◌, ◌/◌, ◌%◌, Bool, true, false, not, ◌||◌, cond, List, eqb, Float, ℤ, pos, negsuc, neg_ℤ, length, get_or}
use Rattle.std.specs.Float.{nan, inf, fin, binary64}
use Rattle.std.specs.Float.Ieee.{add, sub, lt}
use Rattle.symmetry_spec.specs.declared.SymmetryState.{SymmetryState}
use Rattle.symmetry_spec.specs.declared.SymmetryState.TheVariants.{NonSymmetric, Symmetric, AntiSymmetric}

unfoldable pub some_differs : {A : Type 0} → (A → A → Bool) → A → List A → ℕ → ℕ → Bool
some_differs t d w h zero = false
some_differs t d w h (suc k) = some_differs t d w h k || t (get_or w (h + suc k) d) (get_or w (h - suc k) d)

abbrev pub pair_differs : {A : Type 0} → (A → A → Bool) → A → List A → Bool
pair_differs t d w = some_differs t d w (length w / 2) (length w / 2)

abbrev pub class_of : {A : Type 0} → (Bool → A → A → Bool) → A → List A → SymmetryState
class_of t d w =
    cond (eqb (length w % 2) 0) NonSymmetric
    (cond (pair_differs (t false) d w) (cond (pair_differs (t true) d w) NonSymmetric AntiSymmetric) Symmetric)

abbrev pub equal_z : ℤ → ℤ → Bool
equal_z (pos a) (pos b) = eqb a b
equal_z (pos a) (negsuc b) = false
equal_z (negsuc a) (pos b) = false
equal_z (negsuc a) (negsuc b) = eqb a b

abbrev pub differ_z : Bool → ℤ → ℤ → Bool
differ_z turned right left = not (equal_z right (cond turned (neg_ℤ left) left))

abbrev pub class_z : List ℤ → SymmetryState
class_z w = class_of differ_z (pos 0) w

abbrev pub epsilon : Float
epsilon = fin false 1 (neg_ℤ (pos 52))

abbrev pub abs_f : Float → Float
abs_f nan = nan
abs_f (inf s) = inf false
abs_f (fin s m e) = fin false m e

unfoldable pub exceeds : Float → Bool
exceeds x = lt epsilon (abs_f x)

abbrev pub differ_f : Bool → Float → Float → Bool
differ_f turned right left = exceeds (cond turned (add binary64 right left) (sub binary64 right left))

abbrev pub class_f : List Float → SymmetryState
class_f w = class_of differ_f nan w
