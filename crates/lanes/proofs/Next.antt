-- From a lane to the next: inside a run of s lanes the first cells are neighbours, and a run ends where the next block of n times s cells starts.
-- Assumes nothing.
use mathlib.Core.Path.{◌≡◌, sym, ap, ◌∙◌}
use Prim.Native.Nat.{ℕ, suc, ◌+◌, ◌-◌, ◌*◌, ◌/◌, ◌%◌, ◌<◌}
use native.Mathlib.Nat.{suc-mul, mod-lt, mod-eq_of_lt, div-add-mod'}
use native.Mathlib.Omega.{arith}
use lib.Arith.{digits_div, digits_mod}
use Rattle.lanes.specs.Starts.{Starts}
use Rattle.lanes.specs.declared.Start.{Start}
use Rattle.lanes.proofs.Cells.{base_first}

-- the first lane
pub starts_none : (n s : ℕ) → 0 < s → Starts n s 0 (record { place = 0; offset = 0 })
starts_none n s ps = record { place = sym (base_first n ps); offset = sym (mod-eq_of_lt ps) }

-- l + 1 by the digits of l
module _ (s l : ℕ) (ps : 0 < s) where
  pub digits_within : l % s + 1 < s → ((l + 1) / s ≡ l / s) × ((l + 1) % s ≡ l % s + 1)
  digits_within h =
      let e : l + 1 ≡ l / s * s + (l % s + 1) = omega (arith, div-add-mod' l s) in
      (ap (λ x. x / s) e ∙ digits_div (l / s) h, ap (λ x. x % s) e ∙ digits_mod (l / s) h)

  pub digits_past : l % s + 1 ≡ s → ((l + 1) / s ≡ l / s + 1) × ((l + 1) % s ≡ 0)
  digits_past h =
      let e : l + 1 ≡ (l / s + 1) * s + 0 = omega (arith, div-add-mod' l s, suc-mul (l / s) s) in
      (ap (λ x. x / s) e ∙ digits_div (l / s + 1) ps, ap (λ x. x % s) e ∙ digits_mod (l / s + 1) ps)

module _ (n s l : ℕ) (ps : 0 < s) where
  pub starts_within : {t : Start} → Starts n s l t → (t.offset + 1 ≡ s → ⊥) → Starts n s (l + 1) (record { place = t.place + 1; offset = t.offset + 1 })
  starts_within {t} T h =
      let b : l % s + 1 < s = omega (arith, mod-lt l ps, T.offset) in
      let e = digits_within s l ps b in
      let f : (l + 1) / s * (n * s) ≡ l / s * (n * s) = ap (λ q. q * (n * s)) e.0 in
      record { place = omega (arith, f, e.1, T.place); offset = omega (arith, e.1, T.offset) }

  pub starts_past : {t : Start} → 0 < n → Starts n s l t → t.offset + 1 ≡ s → Starts n s (l + 1) (record { place = t.place + (n - 1) * s + 1; offset = 0 })
  starts_past {t} pn T h =
      let b : l % s + 1 ≡ s = omega (arith, T.offset) in
      let e = digits_past s l ps b in
      let f : (l + 1) / s * (n * s) ≡ (l / s + 1) * (n * s) = ap (λ q. q * (n * s)) e.0 in
      let g : n * s ≡ (n - 1) * s + s = ap (λ m. m * s) (more n pn) ∙ suc-mul (n - 1) s in
      record { place = omega (arith, f, g, suc-mul (l / s) (n * s), e.1, T.place); offset = sym e.1 }
    where
      more : (m : ℕ) → 0 < m → m ≡ suc (m - 1)
      more m h = omega arith
