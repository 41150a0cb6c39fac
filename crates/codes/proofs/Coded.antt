-- A call whose borders or mode are codes: under known codes the library's answers stand as they are, and an unknown one gets the judge's number,
-- or 100, and nothing that was lent changes.
-- Assumes nothing.
use mathlib.Core.Path.{◌≡◌, refl, sym, ap, ◌∙◌}
use mathlib.Core.Bool.{Bool, true, false, cond}
use mathlib.Core.List.{List, [], ◌∷◌}
use Prim.Native.Nat.{ℕ, ◌≤◌, ◌<◌}
use native.Mathlib.Omega.{arith}
use borrow.Author.Tests.{lt-ltb, le-ltb, eqb-false}
use lib.Dec.{T, eqb, ltb}
use Rattle.numbers.specs.Lists.{Every}
use Rattle.numbers.specs.Refusal.{Judged, refusal_of, Answers, ScratchAnswers}
use Rattle.numbers.proofs.Chain.{judged-append, answers_refused, scratch_refused}
use Rattle.numbers.proofs.Tests.{cond_yes, cond_no}
use Rattle.codes.specs.Codes.{coded}

-- a last condition that does not hold changes no number
number_known : (js : Judged) (u : Bool) → u ≡ false → refusal_of js ≡ refusal_of (coded js u)
unfolding coded
number_known [] u e = sym (cond_no u 100 0 e)
number_known (j ∷ js) u e = ap (cond j.0 j.1) (number_known js u e)

-- one that holds gives 100 where no other does
number_unknown : (js : Judged) (u : Bool) → Every (λ j. T (ltb 0 j.1)) js → {q r : ℕ} → q ≡ refusal_of js → r ≡ cond (eqb q 0) 100 q → u ≡ true
    → r ≡ refusal_of (coded js u)
unfolding coded
number_unknown js u p e f h =
    let n = refusal_of js in
    f ∙ ap (λ x. cond (eqb x 0) 100 x) e ∙ ap (λ x. cond (eqb n 0) x n) (sym (cond_yes u 100 0 h)) ∙ sym (judged-append js ((u, 100) ∷ []) p)

-- and never 0
never_accepted : (q : ℕ) {r : ℕ} → r ≡ cond (eqb q 0) 100 q → r ≡ 0 → ⊥
never_accepted q f z = go (eqb q 0) refl (sym f ∙ z)
  where
    hundred : ◌≡◌ {A = ℕ} 100 0 → ⊥
    hundred e = omega arith

    go : (t : Bool) → eqb q 0 ≡ t → cond t 100 q ≡ 0 → ⊥
    go true e = hundred
    go false e = eqb-false q 0 e

-- u is the last condition: whether some code is unknown
module _ {A : Type 0} (js : Judged) {levels held : List A} {u : Bool} where
  pub answers_without : {r : ℕ} {left : List A} → u ≡ false → Answers js levels held r left → Answers (coded js u) levels held r left
  answers_without h a = record { number = a.number ∙ number_known js u h; cells = a.cells }

  pub answers_with : (q : ℕ) {r : ℕ} → Every (λ j. T (ltb 0 j.1)) js → u ≡ true → q ≡ refusal_of js → r ≡ cond (eqb q 0) 100 q
      → Answers (coded js u) levels held r held
  answers_with q {r} p h e f = answers_refused (coded js u) levels held r (number_unknown js u p e f h) (never_accepted q f)

-- one code, of which n is the greatest that names something
module _ {A : Type 0} (js : Judged) {levels held : List A} (n : ℕ) {code : ℕ} where
  pub answers_known : {r : ℕ} {left : List A} → code ≤ n → Answers js levels held r left → Answers (coded js (ltb n code)) levels held r left
  answers_known h = answers_without js (le-ltb n code h)

  pub answers_unknown : (q : ℕ) {r : ℕ} → Every (λ j. T (ltb 0 j.1)) js → n < code → q ≡ refusal_of js → r ≡ cond (eqb q 0) 100 q
      → Answers (coded js (ltb n code)) levels held r held
  answers_unknown q p h = answers_with js q p (lt-ltb n code h)

-- a call that is lent scratch grids besides
module _ {A : Type 0} (zero : A) (js : Judged) {levels held : List A} {scratch : List (List A)} {u : Bool} where
  pub scratch_known : {r : ℕ} {left : List A} {scratch' : List (List A)} → u ≡ false → ScratchAnswers zero js levels held scratch r left scratch'
      → ScratchAnswers zero (coded js u) levels held scratch r left scratch'
  scratch_known h a = record { filled = answers_without js h a.filled; cleared = a.cleared }

  pub scratch_unknown : (q : ℕ) {r : ℕ} → Every (λ j. T (ltb 0 j.1)) js → u ≡ true → q ≡ refusal_of js → r ≡ cond (eqb q 0) 100 q
      → ScratchAnswers zero (coded js u) levels held scratch r held scratch
  scratch_unknown q {r} p h e f = scratch_refused zero (coded js u) levels held scratch r (number_unknown js u p e f h) (never_accepted q f)
