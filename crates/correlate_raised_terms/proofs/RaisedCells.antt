-- A line whose cells are raised in place: what the loop keeps, and a raised cell times a raised weight on the machine.
-- Assumes nothing.
use Prim.Native.Nat.{ℕ, ◌+◌, ◌*◌, ◌^◌, ◌≤◌, ◌<◌}
use mathlib.Core.List.{List}
use mathlib.Core.Path.{◌≡◌, sym, ap, subst, ◌∙◌}
use native.Mathlib.Nat.{le_trans, mul-le-mul}
use native.Mathlib.Omega.{arith}
use lib.Dec.{T}
use lib.IntN.{ℤ, pos, nat_abs, ◌+ℤ◌, ◌-ℤ◌, ◌*ℤ◌, +ℤ-neg_ℤ_cancel, -ℤ-+ℤ_cancel}
use lib.ListN.{length, get_or, set, length-map, get_or-map}
use lib.Signed.{non_neg}
use mir.Syntax.{w32, w64}
use mir.Val.{Fits, SFits}
use mir.ValLaws.{to_z-of_z}
use Rattle.numbers.proofs.Index.{get_d_default}
use Rattle.numbers.proofs.Tabulate.{get_d_tabulate, tabulate_members, tabulate_unique}
use Rattle.correlate_spec.proofs.Along.{Pass, pass_more, pass_all, pass_old}
use Rattle.correlate_raised_terms.specs.Narrow.{Raised, Narrow}
use Rattle.correlate_spec.proofs.Computed.{read, computed_read}
use Rattle.correlate_raised_terms.specs.Products.{lowered, product}
use Rattle.correlate_raised_terms.proofs.RaisedNumber.{raised_at, raised_computed, plus_fits}

-- ---- a lowered line
pub length-lowered : (s : List ℤ) → length (lowered s) ≡ length s
length-lowered s = length-map s (λ x. x -ℤ pos 2147483648)

cell-lowered : (s : List ℤ) (k : ℕ) → k < length s → get_or (lowered s) k (pos 0) ≡ get_or s k (pos 0) -ℤ pos 2147483648
cell-lowered s k h = get_d_default (lowered s) k (pos 0) (pos 0 -ℤ pos 2147483648) (omega (arith, length-lowered s)) ∙ get_or-map (λ x. x -ℤ pos 2147483648) s k (pos 0)

-- ---- the loop over the cells of s: those before place i are raised
abbrev pub raised_cell : List ℤ → ℕ → ℤ
raised_cell s k = get_or s k (pos 0) +ℤ pos 2147483648

module _ {s l : List ℤ} {n i : ℕ} (N : Narrow s) (P : Pass (pos 0) (raised_cell s) s n i l) (b : i < n) where
  cell : Raised 2147483648 4294967295 (get_or s i (pos 0))
  cell = raised_at s N (omega arith) i

  -- whichever number is added, the sum fits
  pub raise_fits : (m : ℕ) → m < 2 ^ 32 → SFits w64 (read (get_or l i (pos 0)) +ℤ pos m)
  raise_fits m h = subst (λ (x : ℤ). SFits w64 (read x +ℤ pos m)) (sym (pass_old P b)) (plus_fits (omega arith) (omega arith) cell m h)

  pub raise_more : Pass (pos 0) (raised_cell s) s n (i + 1) (set l i (read (read (get_or l i (pos 0)) +ℤ pos 2147483648)))
  raise_more = pass_more P b (ap (λ (x : ℤ). read (read x +ℤ pos 2147483648)) (pass_old P b) ∙ computed_read (raised_computed (omega arith) (omega arith) cell))

pub raise_all : {s l : List ℤ} {n i : ℕ} → Pass (pos 0) (raised_cell s) s n i l → n ≤ i → lowered l ≡ s
raise_all {s} {l} P h =
    tabulate_unique (pos 0) (λ k. get_or s k (pos 0)) (lowered l) (length s) (length-lowered l ∙ P.stored.kept)
    (λ k b. cell-lowered l k (subst (λ (n : ℕ). k < n) (sym P.stored.kept) b) ∙ ap (λ (x : ℤ). x -ℤ pos 2147483648) (at k b) ∙ +ℤ-neg_ℤ_cancel (get_or s k (pos 0)) (pos 2147483648))
    ∙ tabulate_members (pos 0) s
  where
    at : (k : ℕ) → k < length s → get_or l k (pos 0) ≡ raised_cell s k
    at k b = ap (λ (x : List ℤ). get_or x k (pos 0)) (pass_all P h) ∙ get_d_tabulate (raised_cell s) (length s) k (pos 0) b

-- ---- the cell at place k of a raised line, times a raised weight v
module _ (s : List ℤ) (N : Narrow (lowered s)) (k : ℕ) (b : k < length s) where
  low : Raised 2147483648 4294967295 (get_or (lowered s) k (pos 0))
  low = raised_at (lowered s) N (omega arith) k

  cell_is : get_or s k (pos 0) ≡ pos low.to
  cell_is = sym (-ℤ-+ℤ_cancel (get_or s k (pos 0)) (pos 2147483648)) ∙ ap (λ (x : ℤ). x +ℤ pos 2147483648) (sym (cell-lowered s k b)) ∙ low.is

  cell-read : read (get_or s k (pos 0)) ≡ pos low.to
  cell-read = ap read cell_is ∙ to_z-of_z w64 (pos low.to) (record { sfits = omega (arith, low.small) })

  pub cell_narrow : T (non_neg (read (get_or s k (pos 0)))) × Fits w32 (nat_abs (read (get_or s k (pos 0))))
  cell_narrow = subst (λ (z : ℤ). T (non_neg z) × Fits w32 (nat_abs z)) (sym cell-read) (tt, record { fits = omega (arith, low.small) })

  pub cell_wide : Fits w64 (nat_abs (read (get_or s k (pos 0))))
  cell_wide = subst (λ (z : ℤ). Fits w64 (nat_abs z)) (sym cell-read) (record { fits = omega (arith, low.small) })

  cell_small : nat_abs (read (get_or s k (pos 0))) ≤ 4294967295
  cell_small = subst (λ (z : ℤ). nat_abs z ≤ 4294967295) (sym cell-read) low.small

  module _ {v : ℕ} (few : v ≤ 131070) where
    pub term_small : nat_abs (read (get_or s k (pos 0))) * v ≤ 2 ^ 38 * 65535
    term_small = le_trans (mul-le-mul cell_small few) (omega arith)

    pub term_fits : Fits w64 (nat_abs (read (get_or s k (pos 0))) * v)
    term_fits = record { fits = omega (arith, term_small) }

    pub term_is : pos (nat_abs (read (get_or s k (pos 0))) * v) ≡ product (lowered s) k v
    term_is = ap (λ (z : ℤ). pos (nat_abs z * v)) cell-read ∙ ap (λ (z : ℤ). z *ℤ pos v) (sym low.is)
