-- A window that begins at i − l − o and ends at i + r − o: its length, and how far before and after the cell it reaches.
-- Assumes nothing.
use mathlib.Core.Path.{◌≡◌, sym, ap, subst, subst₂, ◌∙◌}
use Prim.Native.Nat.{ℕ, suc, ◌+◌, ◌≤◌, zero-le}
use lib.IntN.{ℤ, pos, negsuc, neg_ℤ, ◌+ℤ◌, ◌-ℤ◌, +ℤ_idl, +ℤ_idr, +ℤ_assoc, +ℤ_comm, +ℤ_invl, -ℤ-+ℤ_cancel, neg_ℤ-+ℤ}
use lib.Signed.{◌≤ℤ◌}
use Rattle.numbers.proofs.IntOrder.{≤ℤ-trans, pos_≤, ≤-pos}
use Rattle.numbers.proofs.IntSum.{+ℤ-mono-left, +ℤ-mono-right}

pub ends : (i o : ℤ) (l r : ℕ) → i +ℤ pos r -ℤ o ≡ (i -ℤ pos l -ℤ o) +ℤ pos (l + r)
ends i o l r =
    +ℤ_assoc i (pos r) (neg_ℤ o) ∙ ap (λ (x : ℤ). i +ℤ x) (+ℤ_comm (pos r) (neg_ℤ o) ∙ ap (λ (x : ℤ). neg_ℤ o +ℤ x) r_is)
    ∙ sym (+ℤ_assoc i (neg_ℤ o) (neg_ℤ (pos l) +ℤ pos (l + r))) ∙ sym (+ℤ_assoc (i -ℤ o) (neg_ℤ (pos l)) (pos (l + r)))
    ∙ ap (λ (x : ℤ). x +ℤ pos (l + r)) (+ℤ_assoc i (neg_ℤ o) (neg_ℤ (pos l)) ∙ ap (λ (x : ℤ). i +ℤ x) (+ℤ_comm (neg_ℤ o) (neg_ℤ (pos l))) ∙ sym (+ℤ_assoc i (neg_ℤ (pos l)) (neg_ℤ o)))
  where
    r_is : pos r ≡ neg_ℤ (pos l) +ℤ pos (l + r)
    r_is = sym (+ℤ_idl (pos r)) ∙ ap (λ (x : ℤ). x +ℤ pos r) (sym (+ℤ_invl (pos l))) ∙ +ℤ_assoc (neg_ℤ (pos l)) (pos l) (pos r)

-- the window's own cell, drawn back and forth by the left pad
own_back : (i l o : ℤ) → (i -ℤ l -ℤ o) +ℤ (l +ℤ o) ≡ i
own_back i l o =
    ap (λ (x : ℤ). x +ℤ (l +ℤ o)) (+ℤ_assoc i (neg_ℤ l) (neg_ℤ o) ∙ ap (λ (x : ℤ). i +ℤ x) (sym (neg_ℤ-+ℤ l o)))
    ∙ -ℤ-+ℤ_cancel i (l +ℤ o)

-- pads that are not negative leave the cell in its window
pub own_from : (i l o : ℤ) (p : ℕ) → pos p ≡ l +ℤ o → (i -ℤ l -ℤ o) ≤ℤ i
own_from i l o p e =
    subst₂ (λ (x y : ℤ). x ≤ℤ y) (+ℤ_idr (i -ℤ l -ℤ o)) (ap (λ (x : ℤ). (i -ℤ l -ℤ o) +ℤ x) e ∙ own_back i l o) (+ℤ-mono-right (i -ℤ l -ℤ o) (pos_≤ zero-le))

pub own_to : (i r o : ℤ) (q : ℕ) → pos q ≡ r -ℤ o → i ≤ℤ (i +ℤ r -ℤ o)
own_to i r o q e =
    subst₂ (λ (x y : ℤ). x ≤ℤ y) (+ℤ_idr i) (ap (λ (x : ℤ). i +ℤ x) e ∙ sym (+ℤ_assoc i r (neg_ℤ o))) (+ℤ-mono-right i (pos_≤ zero-le))

-- what a pad of at most b lets a window reach, before and after
pub reach-left : (i l o z b : ℤ) → (i -ℤ l -ℤ o) ≤ℤ z → (l +ℤ o) ≤ℤ b → i ≤ℤ (z +ℤ b)
reach-left i l o z b h k =
    ≤ℤ-trans (subst (λ (x : ℤ). x ≤ℤ (z +ℤ (l +ℤ o))) (own_back i l o) (+ℤ-mono-left (l +ℤ o) h)) (+ℤ-mono-right z k)

pub reach-right : (i r o z b : ℤ) → z ≤ℤ (i +ℤ r -ℤ o) → (r -ℤ o) ≤ℤ b → z ≤ℤ (i +ℤ b)
reach-right i r o z b h k = ≤ℤ-trans (subst (λ (x : ℤ). z ≤ℤ x) (+ℤ_assoc i r (neg_ℤ o)) h) (+ℤ-mono-right i k)

-- a coordinate before 0 that b carries back to 0 or more
pub carried : (i j b : ℕ) → pos i ≤ℤ (negsuc j +ℤ pos b) → i + suc j ≤ b
carried i j b h =
    ≤-pos (subst (λ (x : ℤ). (pos i +ℤ pos (suc j)) ≤ℤ x) back (+ℤ-mono-left (pos (suc j)) h))
  where
    back : negsuc j +ℤ pos b +ℤ pos (suc j) ≡ pos b
    back = ap (λ (x : ℤ). x +ℤ pos (suc j)) (+ℤ_comm (negsuc j) (pos b)) ∙ -ℤ-+ℤ_cancel (pos b) (pos (suc j))
