-- Sums over a list of coordinates: of equal terms, one term more, their order exchanged, their bound; and which coordinates are around a cell.
-- Assumes nothing.
use mathlib.Core.Path.{◌≡◌, refl, sym, ap, ◌∙◌}
use mathlib.Core.List.{List, [], ◌∷◌}
use Prim.Native.Nat.{ℕ, zero, suc, ◌+◌, ◌-◌, ◌*◌, ◌≤◌, ◌<◌, min}
use native.Mathlib.Nat.{suc-mul}
use native.Mathlib.Omega.{arith}
use lib.ListN.{length}
use Rattle.numbers.specs.Lists.{tabulate}
use Rattle.numbers.proofs.Tabulate.{length-tabulate}
use Rattle.median_spec.specs.Around.{up_to, around, total}

pub length-up_to : (lo hi : ℕ) → length (up_to lo hi) ≡ hi - lo
length-up_to lo hi = length-tabulate (λ j. j) lo (hi - lo)

-- ---- sums of equal terms
agree_from : (f g : ℕ → ℕ) (lo m : ℕ) → ((j : ℕ) → lo ≤ j → j < lo + m → f j ≡ g j) → total f (tabulate (λ j. j) lo m) ≡ total g (tabulate (λ j. j) lo m)
unfolding tabulate
agree_from f g lo zero h = refl
agree_from f g lo (suc m) h = (λ i. h lo (omega arith) first i + agree_from f g (suc lo) m (λ j a b. h j (more j a) (below j b)) i)
  where
    first : lo < lo + suc m
    first = omega arith

    more : (j : ℕ) → suc lo ≤ j → lo ≤ j
    more j a = omega arith

    below : (j : ℕ) → j < suc lo + m → j < lo + suc m
    below j b = omega arith

pub total_agree : (f g : ℕ → ℕ) (lo hi : ℕ) → ((j : ℕ) → j < hi → f j ≡ g j) → total f (up_to lo hi) ≡ total g (up_to lo hi)
total_agree f g lo hi h = agree_from f g lo (hi - lo) (λ j a b. h j (below j a b))
  where
    below : (j : ℕ) → lo ≤ j → j < lo + (hi - lo) → j < hi
    below j a b = omega arith

-- ---- the first term by itself, and no term
pub total-none : (f : ℕ → ℕ) (lo hi : ℕ) → hi ≤ lo → total f (up_to lo hi) ≡ 0
unfolding tabulate
total-none f lo hi h = let e : hi - lo ≡ 0 = omega arith in ap (λ (m : ℕ). total f (tabulate (λ j. j) lo m)) e

pub total-more : (f : ℕ → ℕ) (lo hi : ℕ) → lo < hi → total f (up_to lo hi) ≡ f lo + total f (up_to (lo + 1) hi)
unfolding tabulate
total-more f lo hi h =
    let e : hi - lo ≡ suc (hi - (lo + 1)) = omega arith in
    let s : suc lo ≡ lo + 1 = omega arith in
    ap (λ (m : ℕ). total f (tabulate (λ j. j) lo m)) e ∙ ap (λ (l : ℕ). f lo + total f (tabulate (λ j. j) l (hi - (lo + 1)))) s

-- ---- the order of two sums exchanged
total_zero : (l : List ℕ) → total (λ x. 0) l ≡ 0
total_zero [] = refl
total_zero (x ∷ l) = let e = total_zero l in omega arith

total-both : (f g : ℕ → ℕ) (l : List ℕ) → total (λ x. f x + g x) l ≡ total f l + total g l
total-both f g [] = refl
total-both f g (x ∷ l) = let e = total-both f g l in omega arith

pub total_swap : (f : ℕ → ℕ → ℕ) (xs ys : List ℕ) → total (λ x. total (λ y. f x y) ys) xs ≡ total (λ y. total (λ x. f x y) xs) ys
total_swap f [] ys = sym (total_zero ys)
total_swap f (x ∷ xs) ys = ap (λ (t : ℕ). total (f x) ys + t) (total_swap f xs ys) ∙ sym (total-both (f x) (λ y. total (λ x. f x y) xs) ys)

-- ---- the bound
pub total_bound : (f : ℕ → ℕ) (c : ℕ) (l : List ℕ) → ((x : ℕ) → f x ≤ c) → total f l ≤ length l * c
total_bound f c [] h = omega arith
total_bound f c (x ∷ l) h = omega (arith, h x, total_bound f c l h, suc-mul (length l) c)

-- ---- the coordinates around the first, an inner and the last cell
two_from : (lo hi : ℕ) → hi ≡ lo + 2 → up_to lo hi ≡ lo ∷ suc lo ∷ []
unfolding tabulate
two_from lo hi e = let d : hi - lo ≡ 2 = omega arith in ap (tabulate (λ j. j) lo) d

three_from : (lo hi : ℕ) → hi ≡ lo + 3 → up_to lo hi ≡ lo ∷ suc lo ∷ suc (suc lo) ∷ []
unfolding tabulate
three_from lo hi e = let d : hi - lo ≡ 3 = omega arith in ap (tabulate (λ j. j) lo) d

pub around-first : (n : ℕ) → 2 ≤ n → around n 0 ≡ 0 ∷ 1 ∷ []
around-first n h = two_from 0 (min 2 n) (omega arith)

pub around-inside : (n i : ℕ) → i + 2 < n → around n (i + 1) ≡ i ∷ (i + 1) ∷ (i + 2) ∷ []
around-inside n i h =
    let a : i + 1 - 1 ≡ i = omega arith in
    let b : suc (i + 1 - 1) ≡ i + 1 = omega arith in
    let c : suc (suc (i + 1 - 1)) ≡ i + 2 = omega arith in
    three_from (i + 1 - 1) (min (i + 1 + 2) n) (omega arith) ∙ (λ j. a j ∷ b j ∷ c j ∷ [])

pub around-last : (n i : ℕ) → i + 2 ≡ n → around n (i + 1) ≡ i ∷ (i + 1) ∷ []
around-last n i h =
    let a : i + 1 - 1 ≡ i = omega arith in
    let b : suc (i + 1 - 1) ≡ i + 1 = omega arith in
    two_from (i + 1 - 1) (min (i + 1 + 2) n) (omega arith) ∙ (λ j. a j ∷ b j ∷ [])
