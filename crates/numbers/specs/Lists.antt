-- Lists by position, and tests of their members.
--   tabulate f m n   f at m, m + 1, .., n of them
--   up_from z n       z, z + 1, .., n of them, whole numbers of either sign
--   Every P l        P of every member of l
--   any_of t l        whether a member of l passes the test t
use Rattle.std.specs.Prelude.{ℕ, zero, suc, Bool, List, [], ◌∷◌, ℤ}
use Rattle.std.specs.List.{list_any}
use Rattle.std.proofs.Math.IntN.{suc_ℤ}

unfoldable pub tabulate : {A : Type 0} → (ℕ → A) → ℕ → ℕ → List A
tabulate f m zero = []
tabulate f m (suc n) = f m ∷ tabulate f (suc m) n

abbrev pub up_from : ℤ → ℕ → List ℤ
up_from z zero = []
up_from z (suc n) = z ∷ up_from (suc_ℤ z) n

abbrev pub Every : {A : Type 0} → (A → Type 0) → List A → Type 0
Every P [] = Unit {0}
Every P (x ∷ xs) = P x × Every P xs

abbrev pub any_of : {A : Type 0} → (A → Bool) → List A → Bool
any_of = list_any
