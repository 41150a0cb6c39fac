-- Which cells of a 3 × 3 × 3 kernel are true, and how many. A cell is named by its distance from the centre, the number
-- of axes on which it stands off the middle: 0 the centre, 1 a face neighbour, 2 an edge neighbour, 3 a corner.
--   off i               1 at either end of an axis, 0 in its middle
--   distance a b c      the distance of cell a, b, c from the centre
--   reach k             the greatest distance of a true cell of k
--   is_true k a b c      whether cell a, b, c of k is true
--   along_three f        f at 0, 1 and 2
--   shape k             all cells of k, the last axis fastest
--   sum_by f l           the sum of f over the members of l
--   count_true s         how many cells of s are true
--   count_of k           how many cells of k are true
use Rattle.std.specs.Prelude.{ℕ, ◌+◌, Bool, cond, List, [], ◌∷◌, leb, eqb}
use Rattle.kernel3d.specs.declared.Kernel3d.{Kernel3d}
use Rattle.kernel3d.specs.declared.Kernel3d.TheVariants.{Star, Ball, Full}

abbrev pub off : ℕ → ℕ
off i = cond (eqb i 1) 0 1

abbrev pub distance : ℕ → ℕ → ℕ → ℕ
distance a b c = off a + off b + off c

abbrev pub reach : Kernel3d → ℕ
reach Star = 1
reach Ball = 2
reach Full = 3

abbrev pub is_true : Kernel3d → ℕ → ℕ → ℕ → Bool
is_true k a b c = leb (distance a b c) (reach k)

abbrev pub along_three : {A : Type 0} → (ℕ → A) → List A
along_three f = f 0 ∷ f 1 ∷ f 2 ∷ []

abbrev pub shape : Kernel3d → List (List (List Bool))
shape k = along_three (λ a. along_three (λ b. along_three (λ c. is_true k a b c)))

abbrev pub sum_by : {A : Type 0} → (A → ℕ) → List A → ℕ
sum_by f [] = 0
sum_by f (x ∷ xs) = f x + sum_by f xs

abbrev pub count_true : List (List (List Bool)) → ℕ
count_true = sum_by (sum_by (sum_by (λ x. cond x 1 0)))

abbrev pub count_of : Kernel3d → ℕ
count_of k = count_true (shape k)
