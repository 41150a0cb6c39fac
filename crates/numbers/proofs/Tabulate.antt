-- Tables: their length, their value at a place, their parts, and two that agree.
-- Assumes nothing.
use mathlib.Core.Path.{◌≡◌, refl, sym, ap, ◌∙◌}
use mathlib.Core.List.{List, ◌∷◌}
use Prim.Native.Nat.{ℕ, zero, suc, ◌+◌, ◌-◌, ◌≤◌, ◌<◌}
use native.Mathlib.Nat.{not-suc-le-zero, le_of_suc-le-suc, add-zero, zero-add, suc-add, add-suc}
use native.Mathlib.Omega.{arith}
use lib.ListN.{length, get_or, take, drop, replicate}
use lib.Seq.{ext_get_or}
use Rattle.numbers.specs.Lists.{tabulate, Every}

pub length-tabulate : {A : Type 0} (f : ℕ → A) (m n : ℕ) → length (tabulate f m n) ≡ n
unfolding tabulate
length-tabulate f m zero = refl
length-tabulate f m (suc n) = ap suc (length-tabulate f (suc m) n)

get_d_from : {A : Type 0} (f : ℕ → A) (m n k : ℕ) (d : A) → k < n → get_or (tabulate f m n) k d ≡ f (m + k)
unfolding tabulate
get_d_from f m zero k d h = absurd (not-suc-le-zero h)
get_d_from f m (suc n) zero d h = ap f (sym (add-zero m))
get_d_from f m (suc n) (suc k) d h = get_d_from f (suc m) n k d (le_of_suc-le-suc h) ∙ ap f (suc-add m k ∙ sym (add-suc m k))

-- a table from 0 on at place k
pub get_d_tabulate : {A : Type 0} (f : ℕ → A) (n k : ℕ) (d : A) → k < n → get_or (tabulate f 0 n) k d ≡ f k
get_d_tabulate f n k d h = get_d_from f 0 n k d h ∙ ap f (zero-add k)

-- a list is the table of its members
pub tabulate_members : {A : Type 0} (d : A) (l : List A) → tabulate (λ k. get_or l k d) 0 (length l) ≡ l
tabulate_members d l =
    ext_get_or d (tabulate (λ k. get_or l k d) 0 (length l)) l (length-tabulate (λ k. get_or l k d) 0 (length l))
    (λ k h. get_d_tabulate (λ k. get_or l k d) (length l) k d (omega (arith, length-tabulate (λ k. get_or l k d) 0 (length l))))

-- a list that has the table's length and values is the table
pub tabulate_unique : {A : Type 0} (d : A) (f : ℕ → A) (l : List A) (n : ℕ) → length l ≡ n → ((k : ℕ) → k < n → get_or l k d ≡ f k) → l ≡ tabulate f 0 n
tabulate_unique d f l n e h =
    ext_get_or d l (tabulate f 0 n) (e ∙ sym (length-tabulate f 0 n))
    (λ k b. let c : k < n = omega arith in h k c ∙ sym (get_d_tabulate f n k d c))

-- a table of one value
pub tabulate-replicate : {A : Type 0} (v : A) (m n : ℕ) → tabulate (λ k. v) m n ≡ replicate n v
unfolding tabulate
tabulate-replicate v m zero = refl
tabulate-replicate v m (suc n) = ap (λ l. v ∷ l) (tabulate-replicate v (suc m) n)

-- two tables that agree at every place
pub tabulate_agree : {A : Type 0} (f g : ℕ → A) (m n : ℕ) → ((k : ℕ) → k < n → f (m + k) ≡ g (m + k)) → tabulate f m n ≡ tabulate g m n
unfolding tabulate
tabulate_agree f g m zero h = refl
tabulate_agree f g m (suc n) h =
    (λ i. first i ∷ tabulate_agree f g (suc m) n (λ k b. ap f (step k) ∙ h (suc k) (more k n b) ∙ ap g (sym (step k))) i)
  where
    step : (k : ℕ) → suc m + k ≡ m + suc k
    step k = suc-add m k ∙ sym (add-suc m k)

    some : (n : ℕ) → 0 < suc n
    some n = omega arith

    more : (k n : ℕ) → k < n → suc k < suc n
    more k n b = omega arith

    first : f m ≡ g m
    first = ap f (sym (add-zero m)) ∙ h zero (some n) ∙ ap g (add-zero m)

-- ---- parts
pub drop-tabulate : {A : Type 0} (f : ℕ → A) (m n i : ℕ) → drop i (tabulate f m n) ≡ tabulate f (m + i) (n - i)
unfolding tabulate
drop-tabulate f m n zero = (λ j. tabulate f (sym (add-zero m) j) (less n j))
  where
    less : (n : ℕ) → n ≡ n - 0
    less n = omega arith
drop-tabulate f m zero (suc i) = ap (tabulate f (m + suc i)) (none i)
  where
    none : (i : ℕ) → 0 ≡ 0 - suc i
    none i = omega arith
drop-tabulate f m (suc n) (suc i) = drop-tabulate f (suc m) n i ∙ (λ j. tabulate f (from j) (left j))
  where
    from : suc m + i ≡ m + suc i
    from = suc-add m i ∙ sym (add-suc m i)

    left : n - i ≡ suc n - suc i
    left = omega arith

pub take-tabulate : {A : Type 0} (f : ℕ → A) (m n t : ℕ) → t ≤ n → take t (tabulate f m n) ≡ tabulate f m t
unfolding tabulate
take-tabulate f m n zero h = refl
take-tabulate f m zero (suc t) h = absurd (not-suc-le-zero h)
take-tabulate f m (suc n) (suc t) h = ap (λ l. f m ∷ l) (take-tabulate f (suc m) n t (le_of_suc-le-suc h))

-- what holds of every value holds of every member
pub every_table : {A : Type 0} (P : A → Type 0) (f : ℕ → A) (m n : ℕ) → ((k : ℕ) → P (f k)) → Every P (tabulate f m n)
unfolding tabulate
every_table P f m zero h = tt
every_table P f m (suc n) h = (h m, every_table P f (suc m) n h)
