-- The one form of every promise: which number a call returns, and what it leaves in the lent grids.
--   Judged                          conditions with their numbers, in rising order
--   refusal_of js                    the number of the first condition that holds; 0, accepted, where none does
--   left_in r levels held            what number r leaves in a lent grid: the levels, or what it held before
--   Answers js levels held r left   the number is the refusal, and the lent grid is what that number leaves
--   ScratchAnswers zero js levels held scratch r left scratch'
--                                   the same of a call that is lent scratch grids besides, in the order of the list: an
--                                   accepted
--                                   call leaves each all zero and as long as it was, a refused one leaves each as it
--                                   was
use Rattle.std.specs.Prelude.{ℕ, ◌≡◌, Bool, cond, List, [], ◌∷◌, map, eqb, length, replicate}

abbrev pub Judged : Type 0
Judged = List (Bool × ℕ)

abbrev pub refusal_of : Judged → ℕ
refusal_of [] = 0
refusal_of (j ∷ js) = cond j.0 j.1 (refusal_of js)

abbrev pub left_in : {A : Type 0} → ℕ → List A → List A → List A
left_in r levels held = cond (eqb r 0) levels held

pub record Answers {A : Type 0} (js : Judged) (levels held : List A) (r : ℕ) (left : List A) : Type 0 where
  pub number : r ≡ refusal_of js
  pub cells : left ≡ left_in r levels held

pub record ScratchAnswers {A : Type 0} (zero : A) (js : Judged) (levels held : List A) (scratch : List (List A))
    (r : ℕ) (left : List A) (scratch' : List (List A)) : Type 0 where
  pub filled : Answers js levels held r left
  pub cleared : scratch' ≡ left_in r (map (λ s. replicate (length s) zero) scratch) scratch
