-- A correlation's answer along an axis, whole numbers: as many cells, of size at most the count of weights, times the greatest level, times the greatest weight.
-- Assumes nothing.
use Prim.Native.Nat.{ℕ, ◌-◌, ◌*◌, ◌/◌, ◌^◌, ◌≤◌, ◌<◌}
use mathlib.Core.Path.{◌≡◌, ap}
use mathlib.Core.Bool.{false}
use mathlib.Core.List.{List, map}
use native.Mathlib.Omega.{arith}
use lib.Dec.{eqb, eqb→eq}
use lib.IntN.{ℤ, pos, nat_abs, ◌+ℤ◌, ◌-ℤ◌, ◌*ℤ◌}
use lib.ListN.{length, get_or, length-map}
use Rattle.numbers.specs.Lists.{any_of}
use Rattle.numbers.specs.Ranges.{beyond}
use Rattle.numbers.proofs.Any.{none_any, every_imp, every_map}
use Rattle.numbers.proofs.Size.{Size, Sized, size_zero, size_mul, size_le, member_sized, beyond_sized}
use Rattle.numbers.proofs.Tabulate.{every_table}
use Rattle.numbers.proofs.Tests.{cond_ind}
use Rattle.lanes.specs.Lanes.{along_axis}
use Rattle.lanes.proofs.AlongAxis.{length_along}
use Rattle.lanes.proofs.Passes.{every_along}
use Rattle.border.specs.Border.{Border, constant, along}
use Rattle.pad_line.specs.Line.{padded_line}
use Rattle.pad_line.proofs.Sizes.{SizedBorder, line_sized}
use Rattle.symmetry_spec.specs.declared.SymmetryState.TheVariants.{NonSymmetric}
use Rattle.correlate_spec.specs.Weighed.{whole_ops, weighed_at}
use Rattle.correlate_spec.specs.Correlated.{correlated_line, correlated_by, correlate1d_z}
use Rattle.correlate_spec.proofs.Sizes.{size_plain}

-- ---- a greater bound
pub sized_le : {p q : ℕ} (l : List ℤ) → Sized p l → p ≤ q → Sized q l
sized_le {p} {q} l h e = every_imp (λ x. Size x p) (λ x. Size x q) l (λ x s. size_le s e) h

pub border_le : {p q : ℕ} (b : Border ℤ) → SizedBorder p b → p ≤ q → SizedBorder q b
border_le (constant c) h e = size_le h e
border_le (along m) h e = tt

-- no number of a list leaves 64 bits
pub within_sized : {p : ℕ} (l : List ℤ) → Sized p l → p < 2 ^ 63 → any_of beyond l ≡ false
within_sized {p} l h e = none_any beyond l (every_imp (λ x. Size x p) _ l (λ x s. beyond_sized x s e) h)

-- ---- levels and a constant of size at most p, weights of size at most q
module _ (p q : ℕ) (b : Border ℤ) (w : List ℤ) (c : SizedBorder p b) (k : Sized q w) where
  sum : ℕ
  sum = length w * (p * q)

  -- the windows of a lane
  lane_sized : (left right : ℕ) (s : List ℤ) → Sized p s → Sized sum (correlated_line whole_ops NonSymmetric b left right w s)
  unfolding sum
  lane_sized left right s h = every_table (λ x. Size x sum) (weighed_at whole_ops NonSymmetric w line) 0 (length s) window
    where
      line : List ℤ
      line = padded_line (pos 0) b left right s

      window : (i : ℕ) → Size (weighed_at whole_ops NonSymmetric w line i) sum
      window i = size_le (size_plain p q w line (member_sized p line (line_sized p b c left right s h)) (member_sized q w k) (length w) i) (omega arith)

  pub answer_sized : (o : ℤ) (ns : List ℕ) (a : ℕ) (cells : List ℤ) → Sized p cells → Sized (length w * (p * q)) (correlate1d_z b o w ns a cells)
  unfolding correlated_by sum
  answer_sized o ns a cells h =
      cond_ind (eqb (length w) 1) (map (λ x. x *ℤ get_or w 0 (pos 0)) cells) (along_axis (pos 0) line ns a cells) (Sized sum)
      (λ t. every_map (λ x. Size x sum) (λ x. x *ℤ get_or w 0 (pos 0)) cells
      (every_imp (λ x. Size x p) _ cells (λ x s. size_le (size_mul s (member_sized q w k 0)) (omega (arith, ap (λ n. n * (p * q)) (eqb→eq (length w) 1 t)))) h))
      (λ t. every_along (pos 0) (λ x. Size x p) (λ x. Size x sum) line (size_zero p) (size_zero sum) (lane_sized left right) ns a cells h)
    where
      left : ℕ
      left = nat_abs (pos (length w / 2) +ℤ o)

      right : ℕ
      right = nat_abs (pos (length w - length w / 2 - 1) -ℤ o)

      line : List ℤ → List ℤ
      line s = correlated_line whole_ops NonSymmetric b left right w s

-- as many cells as there were
pub length_answer : (b : Border ℤ) (o : ℤ) (w : List ℤ) (ns : List ℕ) (a : ℕ) (cells : List ℤ) → length (correlate1d_z b o w ns a cells) ≡ length cells
unfolding correlated_by
length_answer b o w ns a cells =
    cond_ind (eqb (length w) 1) (map (λ x. x *ℤ get_or w 0 (pos 0)) cells) _ (λ l. length l ≡ length cells) (λ t. length-map cells _) (λ t. length_along (pos 0) _ ns a cells)
