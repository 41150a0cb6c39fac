-- The level at place k of the sorted line as an offset from a low level: where the bisection looks for it, and what a count decides.
-- Assumes nothing.
use mathlib.Core.Path.{◌≡◌, refl, sym, ap, subst}
use mathlib.Core.Bool.{Bool, true, false}
use mathlib.Core.List.{List}
use Prim.Native.Nat.{ℕ, ◌≤◌, ◌<◌, zero-le}
use native.Mathlib.Nat.{not-le_of_lt, lt_of_not-le}
use native.Mathlib.Omega.{arith}
use lib.Dec.{T}
use lib.IntN.{ℤ, pos, nat_abs, neg_ℤ, ◌+ℤ◌, ◌-ℤ◌, +ℤ_idr}
use lib.ListN.{length}
use lib.Signed.{le_z, ◌≤ℤ◌, le_z_yes}
use Rattle.numbers.specs.Order.{Total, extreme, at_least}
use Rattle.numbers.proofs.Any.{every_at, every_mem}
use Rattle.numbers.proofs.IntOrder.{≤ℤ-trans, total_≤, total_≥, pos_≤, ≤-pos}
use Rattle.numbers.proofs.IntSum.{above_by, +ℤ-mono-right, +ℤ-cancel-left}
use Rattle.numbers.proofs.Extreme.{extreme_bound}
use Rattle.numbers.proofs.Size.{nat_abs_add, nat_abs_neg, size_between}
use Rattle.statistics_spec.specs.Sorting.{sorted, at_most}
use Rattle.statistics_spec.specs.Statistics.{minimum_of, maximum_of, ranked, unserved}
use Rattle.statistics_spec.proofs.Sorting.{length-sorted, every_sorted}
use Rattle.statistics_spec.proofs.Rank.{rank_reached, rank_passed}
use Rattle.statistics_spec.proofs.Served.{served_sized}
use Rattle.statistics_spec.proofs.Sizes.{size_minimum, size_maximum}

module _ (l : List ℤ) (k : ℕ) (b : k < length l) where
  -- ---- between the least level and the greatest
  module _ (le : ℤ → ℤ → Bool) (O : Total le) where
    ranked-after : T (le (extreme le (pos 0) l) (ranked l k))
    ranked-after =
        every_at (λ x. T (le (extreme le (pos 0) l) x)) (sorted le_z l) (pos 0)
        (every_sorted le_z (λ x. T (le (extreme le (pos 0) l) x)) l (every_mem _ l (λ x m. extreme_bound le O (pos 0) x l m)))
        k (omega (arith, length-sorted le_z l))

  pub ranked_above : minimum_of l ≤ℤ ranked l k
  ranked_above = le_z_yes (ranked-after le_z total_≤)

  pub ranked-below : ranked l k ≤ℤ maximum_of l
  ranked-below = le_z_yes (ranked-after at_least total_≥)

  -- ---- its offset from a level not above it
  module _ (low : ℤ) (h : low ≤ℤ ranked l k) where
    pub ranked_offset : ranked l k ≡ low +ℤ pos (nat_abs (ranked l k -ℤ low))
    ranked_offset = above_by low (ranked l k) h

    within : (m : ℕ) → ranked l k ≤ℤ (low +ℤ pos m) → nat_abs (ranked l k -ℤ low) ≤ m
    within m t = ≤-pos (+ℤ-cancel-left low (subst (λ (z : ℤ). z ≤ℤ (low +ℤ pos m)) ranked_offset t))

    beyond : (m : ℕ) → nat_abs (ranked l k -ℤ low) ≤ m → ranked l k ≤ℤ (low +ℤ pos m)
    beyond m t = subst (λ (z : ℤ). z ≤ℤ (low +ℤ pos m)) (sym ranked_offset) (+ℤ-mono-right low (pos_≤ t))

    -- at most that of any level that is not below it
    pub offset_most : (high : ℤ) → low ≤ℤ high → ranked l k ≤ℤ high → nat_abs (ranked l k -ℤ low) ≤ nat_abs (high -ℤ low)
    offset_most high g t = within (nat_abs (high -ℤ low)) (subst (λ (z : ℤ). ranked l k ≤ℤ z) (above_by low high g) t)

    -- more than k levels are at most this one: it is no further
    pub offset_reached : (m : ℕ) → k < at_most le_z (low +ℤ pos m) l → nat_abs (ranked l k -ℤ low) ≤ m
    offset_reached m t = go (le_z (ranked l k) (low +ℤ pos m)) refl
      where
        go : (s : Bool) → le_z (ranked l k) (low +ℤ pos m) ≡ s → nat_abs (ranked l k -ℤ low) ≤ m
        go true e = within m (le_z_yes (rw e tt))
        go false e = omega (arith, rank_passed le_z total_≤ (low +ℤ pos m) (pos 0) l k b (rw e tt))

    -- at most k levels are: it is further
    pub offset_passed : (m : ℕ) → at_most le_z (low +ℤ pos m) l ≤ k → m < nat_abs (ranked l k -ℤ low)
    offset_passed m t = lt_of_not-le (λ g. not-le_of_lt (rank_reached le_z total_≤ (low +ℤ pos m) (pos 0) l k b (beyond m g).le) t)

-- ---- where the bisection starts: the least level and the greatest of a line that is served
pub record Ends (l : List ℤ) (k : ℕ) (low high : ℤ) : Type 0 where
  pub low_size : nat_abs low ≤ 2147483647
  pub high_size : nat_abs high ≤ 2147483647
  pub low_high : low ≤ℤ high
  pub low-ranked : low ≤ℤ ranked l k
  pub ranked_high : ranked l k ≤ℤ high

pub ends : (l : List ℤ) (k : ℕ) {low high : ℤ} → unserved l ≡ false → k < length l → low ≡ minimum_of l → high ≡ maximum_of l → Ends l k low high
ends l k {low} {high} e b p q = record {
  low_size = omega (arith, ap nat_abs p, (size_minimum 2147483647 l (served_sized l e)).size);
  high_size = omega (arith, ap nat_abs q, (size_maximum 2147483647 l (served_sized l e)).size);
  low_high = ≤ℤ-trans above below;
  low-ranked = above;
  ranked_high = below;
}
  where
    above : low ≤ℤ ranked l k
    above = subst (λ (z : ℤ). z ≤ℤ ranked l k) (sym p) (ranked_above l k b)

    below : ranked l k ≤ℤ high
    below = subst (λ (z : ℤ). ranked l k ≤ℤ z) (sym q) (ranked-below l k b)

-- and how far they are apart
pub ends_apart : {l : List ℤ} {k : ℕ} {low high : ℤ} → Ends l k low high → nat_abs (high -ℤ low) ≤ 4294967294
ends_apart {l} {k} {low} {high} E = omega (arith, nat_abs_add high (neg_ℤ low), nat_abs_neg low, E.low_size, E.high_size)

-- a level no further above the least than the greatest is
pub offset_size : {l : List ℤ} {k : ℕ} {low high : ℤ} → Ends l k low high → (m : ℕ) → m ≤ nat_abs (high -ℤ low) → nat_abs (low +ℤ pos m) ≤ 2147483647
offset_size {l} {k} {low} {high} E m h = (size_between low high (low +ℤ pos m) (record { size = E.low_size }) (record { size = E.high_size }) from to).size
  where
    from : low ≤ℤ (low +ℤ pos m)
    from = subst (λ (z : ℤ). z ≤ℤ (low +ℤ pos m)) (+ℤ_idr low) (+ℤ-mono-right low (pos_≤ zero-le))

    to : (low +ℤ pos m) ≤ℤ high
    to = subst (λ (z : ℤ). (low +ℤ pos m) ≤ℤ z) (sym (above_by low high E.low_high)) (+ℤ-mono-right low (pos_≤ h))
