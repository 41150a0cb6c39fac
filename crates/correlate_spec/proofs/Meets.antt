-- Which cell a weight of a convolution meets: the one that the reversed weights meet in the window of the changed origin, for odd and even counts alike.
-- Assumes nothing.
use Prim.Native.Nat.{ℕ, ◌+◌, ◌-◌, ◌/◌, ◌%◌, ◌<◌}
use mathlib.Core.Path.{◌≡◌, refl, sym, ap, ◌∙◌}
use mathlib.Core.Bool.{Bool, true, false, cond}
use native.Mathlib.Omega.{arith}
use borrow.Author.Tests.{eqb-true, eqb-false}
use lib.Dec.{eqb}
use lib.IntN.{ℤ, pos, neg_ℤ, nat_abs, ◌+ℤ◌, ◌-ℤ◌, +ℤ_assoc, neg_ℤ-+ℤ, neg_ℤ-neg_ℤ, +ℤ-neg_ℤ_cancel}
use Rattle.numbers.proofs.IntSum.{+ℤ-right-comm}
use Rattle.window_spec.specs.Origin.{bad_origin}
use Rattle.window_spec.specs.Window.{left_pad, changed_origin}
use Rattle.window_spec.proofs.Origins.{axis-accepted}
use Rattle.window_spec.proofs.Changed.{changed_range}
use Rattle.correlate_spec.specs.Convolved.{meets, from_end}

-- a − (h − o − e) = b + o − j, where a + e + j = b + h
moved-over : (a b h o e j : ℤ) → a +ℤ e +ℤ j ≡ b +ℤ h → a -ℤ (h +ℤ (neg_ℤ o -ℤ e)) ≡ b +ℤ o -ℤ j
moved-over a b h o e j q = opened ∙ sym closed
  where
    -- both are a + e − h + o
    opened : a -ℤ (h +ℤ (neg_ℤ o -ℤ e)) ≡ a +ℤ e -ℤ h +ℤ o
    opened =
        ap (λ (x : ℤ). a +ℤ x) (neg_ℤ-+ℤ h (neg_ℤ o -ℤ e) ∙ ap (λ (x : ℤ). neg_ℤ h +ℤ x) (neg_ℤ-+ℤ (neg_ℤ o) (neg_ℤ e) ∙ (λ t. neg_ℤ-neg_ℤ o t +ℤ neg_ℤ-neg_ℤ e t)))
        ∙ sym (+ℤ_assoc a (neg_ℤ h) (o +ℤ e)) ∙ sym (+ℤ_assoc (a -ℤ h) o e) ∙ +ℤ-right-comm (a -ℤ h) o e
        ∙ ap (λ (x : ℤ). x +ℤ o) (+ℤ-right-comm a (neg_ℤ h) e)

    closed : b +ℤ o -ℤ j ≡ a +ℤ e -ℤ h +ℤ o
    closed =
        ap (λ (x : ℤ). x +ℤ o -ℤ j) (sym (+ℤ-neg_ℤ_cancel b h) ∙ ap (λ (x : ℤ). x -ℤ h) (sym q))
        ∙ +ℤ-right-comm (a +ℤ e +ℤ j -ℤ h) o (neg_ℤ j)
        ∙ ap (λ (x : ℤ). x +ℤ o) (+ℤ-right-comm (a +ℤ e +ℤ j) (neg_ℤ h) (neg_ℤ j) ∙ ap (λ (x : ℤ). x -ℤ h) (+ℤ-neg_ℤ_cancel (a +ℤ e) j))

-- twice the half, by the parity
halves : (len : ℕ) → 0 < len → cond (eqb (len % 2) 0) 1 0 + (len - 1) ≡ len / 2 + len / 2
halves len h = go (eqb (len % 2) 0) refl
  where
    go : (t : Bool) → eqb (len % 2) 0 ≡ t → cond t 1 0 + (len - 1) ≡ len / 2 + len / 2
    go true q = let m = eqb-true (len % 2) 0 q in omega arith
    go false q = let m = eqb-false (len % 2) 0 q in omega arith

-- place i + k of a line that starts so many places before cell 0
pub met_place : (len : ℕ) (o : ℤ) → bad_origin len o ≡ false → (i k : ℕ) → k < len → pos (i + k) -ℤ pos (left_pad len (changed_origin len o)) ≡ meets len o i (from_end len k)
met_place len o e i k b =
    ap (λ (x : ℤ). pos (i + k) -ℤ x) (axis-accepted len (changed_origin len o) (changed_range len o ∙ e)).left_pad_lem
    ∙ moved-over (pos (i + k)) (pos i +ℤ pos (len / 2)) (pos (len / 2)) o (pos (cond (eqb (len % 2) 0) 1 0)) (pos (from_end len k))
    (ap pos (omega (arith, halves len (omega arith))))
