-- The refusal chain of a call after the grid's own conditions: those of its weights and their place, whole or float.
-- Assumes nothing.
use Prim.Native.Nat.{ℕ}
use mathlib.Core.Path.{◌≡◌, refl, ◌∙◌}
use mathlib.Core.Bool.{Bool, not, ◌&&◌, ◌||◌}
use mathlib.Core.List.{List, [], ◌∷◌, ◌++◌}
use lib.Dec.{eqb}
use lib.IntN.{ℤ}
use lib.ListN.{length}
use Rattle.numbers.specs.Lists.{any_of}
use Rattle.numbers.specs.Ranges.{outside}
use Rattle.numbers.specs.Refusal.{refusal_of}
use Rattle.array_spec.specs.Conditions.{bad_axis}
use Rattle.array_spec.specs.Grid.{length_of}
use Rattle.border.specs.Border.{Border}
use Rattle.border.specs.Modes.{border_of, border_of_f64, bad_constant_by, kind_of}
use Rattle.border.specs.declared.BorderModeF64.{BorderModeF64}
use Rattle.border.specs.declared.BorderModeF64.TheVariants.{Constant, Mirror, Nearest, Reflect, Wrap}
use Rattle.border.specs.Reach.{bad_pad}
use Rattle.window_spec.specs.Window.{bad_size, bad_window_origin, bad_reach, applied_origin, left_pad, right_pad}
use Rattle.correlate_judge_spec.specs.Judge.{weights_judged, place_judged}

-- two borders that fill the same pads
abbrev pub SamePads : {A B : Type 0} → Border A → Border B → Type 0
SamePads b c = (n pad : ℕ) → bad_pad b n pad ≡ bad_pad c n pad

-- condition 11 does not look at the constant
pub kind_pads : (m : BorderModeF64) → SamePads (border_of (kind_of m)) (border_of_f64 m)
kind_pads (Constant c) n pad = refl
kind_pads Mirror n pad = refl
kind_pads Nearest n pad = refl
kind_pads Reflect n pad = refl
kind_pads Wrap n pad = refl

-- ---- the weights and their place, by the answers to 6 and 9, the origin as it was handed in, and a border that fills the same pads
module _ {A : Type 0} (heavy bad : A → Bool) (convolution : Bool) (b : Border A) (w : List A) (ns : List ℕ) (a : ℕ) where
  pub weighed : {weights-bad constant-bad : Bool} (c : Border ℤ) {handed o : ℤ} → weights-bad ≡ any_of heavy w → constant-bad ≡ bad_constant_by bad b → SamePads c b → handed ≡ o → {r : ℕ}
      → r ≡ refusal_of ((bad_size (length w), 5) ∷ (weights-bad, 6) ∷ (bad_window_origin (length w) handed, 7) ∷ (bad_axis ns a, 8) ∷ (constant-bad, 9)
      ∷ (bad_reach c (length w) (applied_origin convolution (length w) handed) (length_of ns a), 11) ∷ [])
      → r ≡ refusal_of (weights_judged heavy w ++ place_judged bad convolution b o (length w) ns a)
  weighed c p q s e h =
      h ∙ (λ j. refusal_of ((bad_size (length w), 5) ∷ (p j, 6) ∷ (bad_window_origin (length w) (e j), 7) ∷ (bad_axis ns a, 8) ∷ (q j, 9)
      ∷ (
        not (eqb (length w) 1) && (s (length_of ns a) (left_pad (length w) (applied_origin convolution (length w) (e j))) j
            || s (length_of ns a) (right_pad (length w) (applied_origin convolution (length w) (e j))) j),
        11,
      ) ∷ []))
