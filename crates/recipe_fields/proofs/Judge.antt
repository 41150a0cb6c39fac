-- What is refused: the reader's numbers one after the other, the search for a number that its field cannot hold, and 100.
-- Assumes nothing.
use Prim.Native.Nat.{ℕ, ◌%◌, zero-le}
use mathlib.Core.Path.{◌≡◌, subst⁻¹}
use mathlib.Core.Bool.{Bool, true, false, cond}
use mathlib.Core.List.{List}
use lib.Dec.{T, eqb, ltb, lit<}
use lib.IntN.{ℤ, pos}
use lib.ListN.{get_or}
use Rattle.numbers.specs.Lists.{tabulate, Every}
use Rattle.numbers.specs.Refusal.{Judged, refusal_of, Answers}
use Rattle.codes.specs.Codes.{coded}
use Rattle.codes.proofs.Coded.{answers_known, answers_unknown}
use Rattle.recipe_fields.specs.Fields.{bad_field}

-- ---- the search among the places 0 .. 95
abbrev pub places : List ℕ
places = tabulate (λ k. k) 0 96

abbrev pub unheld : List ℤ → ℕ → Bool
unheld f k = bad_field (k % 6) (get_or f k (pos 0))

-- ---- the last condition, by its answer
module _ (js : Judged) {levels held : List ℕ} {u : Bool} where
  pub answers_held : u ≡ false → {r : ℕ} {left : List ℕ} → Answers js levels held r left → Answers (coded js u) levels held r left
  answers_held e {r} {left} a = subst⁻¹ (λ t. Answers (coded js t) levels held r left) e (answers_known js 0 {code = 0} zero-le a)

  pub answers_unheld : u ≡ true → (q : ℕ) {r : ℕ} → Every (λ j. T (ltb 0 j.1)) js → q ≡ refusal_of js → r ≡ cond (eqb q 0) 100 q → Answers (coded js u) levels held r held
  answers_unheld e q {r} p h g = subst⁻¹ (λ t. Answers (coded js t) levels held r held) e (answers_unknown js 0 {code = 1} q p (lit< tt) h g)
