-- An order given by its test, and the extreme of a list in that order: the least under ≤, the greatest under ≥.
--   Total le           le is the test of a total order
--   at_least            the test of ≥ on whole numbers; the test of ≤ is the kit's le_z
--   extreme_from le m l the first, in the order, of m and the members of l
--   extreme le d l     the first, in the order, of the members of l; d where l has none
use Rattle.std.specs.Prelude.{◌≡◌, Bool, not, cond, List, [], ◌∷◌, T, ℤ}
use Rattle.std.specs.Int.Signed.{le_z}

pub record Total {A : Type 0} (le : A → A → Bool) : Type 0 where
  pub itself : (a : A) → T (le a a)
  pub chain : (a b c : A) → T (le a b) → T (le b c) → T (le a c)
  pub same : (a b : A) → T (le a b) → T (le b a) → a ≡ b
  pub other : (a b : A) → T (not (le a b)) → T (le b a)

abbrev pub at_least : ℤ → ℤ → Bool
at_least a b = le_z b a

abbrev pub extreme_from : {A : Type 0} → (A → A → Bool) → A → List A → A
extreme_from le m [] = m
extreme_from le m (x ∷ xs) = extreme_from le (cond (le m x) m x) xs

abbrev pub extreme : {A : Type 0} → (A → A → Bool) → A → List A → A
extreme le d [] = d
extreme le d (x ∷ xs) = extreme_from le x xs
