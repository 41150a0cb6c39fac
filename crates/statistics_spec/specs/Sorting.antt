-- A list in rising order, how many of its members are at most a given one, and the first above it. le is the test of
-- the order; on whole levels it is the kit's leZ.
--   inserted le x s         x put into s, before the first member that it is at most
--   sorted le l             the members of l in rising order: each put into the sorted rest
--   at_most le z l           how many members of l are at most z
--   past le z top x         x where it is not at most z, else top
--   least_above le z top l   the first of top and those members of l that are not at most z
use Rattle.std.specs.Prelude.{ℕ, suc, Bool, cond, List, [], ◌∷◌, map}
use Rattle.numbers.specs.Order.{extreme_from}

unfoldable pub inserted : {A : Type 0} → (A → A → Bool) → A → List A → List A
inserted le x [] = x ∷ []
inserted le x (y ∷ ys) = cond (le x y) (x ∷ y ∷ ys) (y ∷ inserted le x ys)

unfoldable pub sorted : {A : Type 0} → (A → A → Bool) → List A → List A
sorted le [] = []
sorted le (x ∷ xs) = inserted le x (sorted le xs)

unfoldable pub at_most : {A : Type 0} → (A → A → Bool) → A → List A → ℕ
at_most le z [] = 0
at_most le z (x ∷ xs) = cond (le x z) (suc (at_most le z xs)) (at_most le z xs)

abbrev pub past : {A : Type 0} → (A → A → Bool) → A → A → A → A
past le z top x = cond (le x z) top x

abbrev pub least_above : {A : Type 0} → (A → A → Bool) → A → A → List A → A
least_above le z top l = extreme_from le top (map (past le z top) l)
