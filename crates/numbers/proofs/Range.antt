-- The whole numbers z, z + 1, ..: which they are, and a function of them as a table.
-- Assumes nothing.
use mathlib.Core.Path.{◌≡◌, refl, sym, ap, ◌∙◌}
use mathlib.Core.Logic.{◌⊎◌, inl, inr}
use mathlib.Core.List.Memᴰ
use mathlib.Core.List.{◌∷◌, map, Memᴰ}
use Prim.Native.Nat.{ℕ, zero, suc, ◌+◌, ◌<◌, zero-le, suc-le-suc}
use native.Mathlib.Nat.{le_of_suc-le-suc, not-suc-le-zero, add-zero, suc-add, add-suc}
use lib.IntN.{ℤ, pos, suc_ℤ, ◌+ℤ◌, +ℤ_idr, +ℤ-suc_ℤ, suc_ℤ-+ℤ}
use lib.ListN.{length}
use Rattle.numbers.specs.Lists.{up_from, tabulate}

step : (z : ℤ) (j : ℕ) → suc_ℤ z +ℤ pos j ≡ z +ℤ pos (suc j)
step z j = suc_ℤ-+ℤ z (pos j) ∙ sym (+ℤ-suc_ℤ z (pos j))

pub length_up : (z : ℤ) (n : ℕ) → length (up_from z n) ≡ n
length_up z zero = refl
length_up z (suc n) = ap suc (length_up (suc_ℤ z) n)

pub up_mem : (z : ℤ) (n j : ℕ) → j < n → Memᴰ (z +ℤ pos j) (up_from z n)
up_mem z zero j h = absurd (not-suc-le-zero h)
up_mem z (suc n) zero h = Memᴰ.head (+ℤ_idr z)
up_mem z (suc n) (suc j) h = Memᴰ.tail (Memᴰ.cast (sym (step z j)) (up_mem (suc_ℤ z) n j (le_of_suc-le-suc h)))

pub mem_up : (y z : ℤ) (n : ℕ) → Memᴰ y (up_from z n) → (j : ℕ) × (j < n) × (y ≡ z +ℤ pos j)
mem_up y z zero m = absurd (Memᴰ.not-nil m)
mem_up y z (suc n) m = go (λ k. mem_up y (suc_ℤ z) n k) (Memᴰ.cases_cons m)
  where
    go : (Memᴰ y (up_from (suc_ℤ z) n) → (j : ℕ) × (j < n) × (y ≡ suc_ℤ z +ℤ pos j)) → (y ≡ z) ⊎ Memᴰ y (up_from (suc_ℤ z) n)
        → (j : ℕ) × (j < suc n) × (y ≡ z +ℤ pos j)
    go f (inl e) = (zero, suc-le-suc zero-le, e ∙ sym (+ℤ_idr z))
    go f (inr k) = let r = f k in (suc r.0, suc-le-suc r.1, r.2 ∙ step z r.0)

-- a function of z, z + 1, .. that is g at i, i + 1, ..
pub map-up : {A : Type 0} (f : ℤ → A) (g : ℕ → A) (z : ℤ) (i n : ℕ) → ((t : ℕ) → t < n → f (z +ℤ pos t) ≡ g (i + t)) → map f (up_from z n) ≡ tabulate g i n
unfolding tabulate
map-up f g z i zero h = refl
map-up f g z i (suc n) h =
    (λ j. first j ∷ map-up f g (suc_ℤ z) (suc i) n (λ t l. ap f (step z t) ∙ h (suc t) (suc-le-suc l) ∙ ap g (sym (suc-add i t ∙ sym (add-suc i t)))) j)
  where
    first : f z ≡ g i
    first = ap f (sym (+ℤ_idr z)) ∙ h zero (suc-le-suc zero-le) ∙ ap g (add-zero i)
