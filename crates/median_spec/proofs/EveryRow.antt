-- The loop over the rows: those below r are set, and all of them are the answer.
-- Assumes nothing.
use mathlib.Core.Path.{◌≡◌, refl, sym, ap, ◌∙◌}
use mathlib.Core.Bool.{Bool, true, false, not, ◌||◌, ◌&&◌}
use mathlib.Core.List.{List, [], ◌∷◌}
use Prim.Native.Nat.{ℕ, ◌+◌, ◌*◌, ◌≤◌}
use native.Mathlib.Nat.{mul-one, mul_assoc, add-mul}
use native.Mathlib.Omega.{arith}
use borrow.Author.Tests.{ltb-true, lt-ltb, le-ltb}
use lib.Dec.{ltb}
use lib.ListN.{length}
use Rattle.numbers.specs.Lists.{tabulate}
use Rattle.numbers.proofs.Stored.{Stored, stored_none, stored_then, stored_all, table_stored}
use Rattle.median_spec.specs.Around.{median_answer}
use Rattle.median_spec.specs.ByRows.{in_row, set_row, median_of_place, MaskNeeds}

-- below row r + 1: in row r, or below it
row_next : (r n k : ℕ) → ltb k ((r + 1) * n) ≡ in_row (r * n) n k || ltb k (r * n)
row_next r n k = ap (ltb k) next ∙ go (ltb k (r * n)) refl
  where
    next : (r + 1) * n ≡ r * n + n
    next = omega (arith, add-mul r 1 n)

    go : (t : Bool) → ltb k (r * n) ≡ t → ltb k (r * n + n) ≡ (not t && ltb k (r * n + n)) || t
    go true e = lt-ltb k (r * n + n) (omega (arith, ltb-true k (r * n) e))
    go false e = or_none (ltb k (r * n + n))
      where
        or_none : (t : Bool) → t ≡ t || false
        or_none true = refl
        or_none false = refl

module _ (f : ℕ → Bool) (n : ℕ) where
  pub rows_none : (out : List Bool) → Stored false (λ k. ltb k (0 * n)) f out out
  rows_none out = stored_none false f (λ k. ltb k (0 * n)) out (λ k. le-ltb k (0 * n) (omega arith))

  pub rows_more : (r : ℕ) {out₀ out out' : List Bool} → Stored false (λ k. ltb k (r * n)) f out₀ out → out' ≡ set_row (r * n) n f out → Stored false (λ k. ltb k ((r + 1) * n)) f out₀ out'
  rows_more r {out₀} {out} {out'} S e =
      stored_then false f (λ k. ltb k (r * n)) (in_row (r * n) n) (λ k. ltb k ((r + 1) * n)) S (table_stored false f (in_row (r * n) n) out out' e) (row_next r n)

pub rows_all : {planes rows n r : ℕ} {mask out₀ out : List Bool} → MaskNeeds planes rows n mask → length out₀ ≡ length mask → r ≤ planes * rows → planes * rows ≤ r
    → Stored false (λ k. ltb k (r * n)) (median_of_place planes rows n mask) out₀ out → out ≡ median_answer (planes ∷ rows ∷ n ∷ []) mask
unfolding median_answer
rows_all {planes} {rows} {n} {r} {mask} {out₀} {out} L long below last S =
    stored_all false (median_of_place planes rows n mask) (λ k. ltb k (r * n)) (λ k b. lt-ltb k (r * n) (omega (arith, whole))) S ∙ ap (tabulate (median_of_place planes rows n mask) 0) (whole ∙ count)
  where
    same : r ≡ planes * rows
    same = omega arith

    whole : length out₀ ≡ r * n
    whole = long ∙ L.count ∙ sym (ap (λ (q : ℕ). q * n) same)

    count : r * n ≡ planes * (rows * (n * 1))
    count = ap (λ (q : ℕ). q * n) same ∙ mul_assoc planes rows n ∙ ap (λ (q : ℕ). planes * (rows * q)) (sym (mul-one n))
