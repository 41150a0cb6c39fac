-- Signed numbers of 64 bits: they are equal exactly where their bits are, and all but the least one can be negated.
-- Assumes nothing.
use Prim.Native.Nat.{ℕ, zero, suc, ◌+◌, ◌-◌, ◌<◌, ◌^◌}
use mathlib.Core.Path.{◌≡◌, refl, sym, ap, ◌∙◌}
use mathlib.Core.Bool.{Bool, true, false, true≢false}
use mathlib.Core.List.{List}
use native.Mathlib.Omega.{arith}
use borrow.Author.Tests.{eq-eqb, ne_eqb, eqb-true}
use lib.Dec.{eqb}
use lib.IntN.{ℤ, pos, negsuc, neg_ℤ}
use lib.ListN.{get_or}
use lib.Signed.{mag}
use mir.Syntax.{Width, w64}
use mir.Val.{SFits, of_z, to_z}
use mir.ValLaws.{to_z-of_z}
use Rattle.symmetry_spec.specs.Class.{equal_z, differ_z}

equal_itself : (z : ℤ) → equal_z z z ≡ true
equal_itself (pos a) = eq-eqb a a refl
equal_itself (negsuc a) = eq-eqb a a refl

pub equal_true : (a b : ℤ) → equal_z a b ≡ true → a ≡ b
equal_true (pos a) (pos b) h = ap pos (eqb-true a b h)
equal_true (pos a) (negsuc b) h = absurd (true≢false (sym h))
equal_true (negsuc a) (pos b) h = absurd (true≢false (sym h))
equal_true (negsuc a) (negsuc b) h = ap negsuc (eqb-true a b h)

module _ (w : Width) (a b : ℤ) (fa : SFits w a) (fb : SFits w b) where
  by_tests : (t s : Bool) → eqb (of_z w a) (of_z w b) ≡ t → equal_z a b ≡ s → eqb (of_z w a) (of_z w b) ≡ equal_z a b
  by_tests true s p q =
      let e : a ≡ b = sym (to_z-of_z w a fa) ∙ ap (to_z w) (eqb-true (of_z w a) (of_z w b) p) ∙ to_z-of_z w b fb in
      p ∙ sym (ap (equal_z a) (sym e) ∙ equal_itself a)
  by_tests false true p q = absurd (true≢false (sym (eq-eqb (of_z w a) (of_z w b) (ap (of_z w) (equal_true a b q))) ∙ p))
  by_tests false false p q = p ∙ sym q

  pub bits_equal : eqb (of_z w a) (of_z w b) ≡ equal_z a b
  bits_equal = by_tests (eqb (of_z w a) (of_z w b)) (equal_z a b) refl refl

-- the bits of −2^63 are those of 2^63
pub negated_fits : (z : ℤ) → SFits w64 z → (of_z w64 z ≡ 2 ^ 63 → ⊥) → SFits w64 (neg_ℤ z)
negated_fits (pos zero) f h = record { sfits = omega arith }
negated_fits (pos (suc n)) f h = record { sfits = let m = f.sfits in omega arith }
negated_fits (negsuc n) f h = record { sfits = let m = f.sfits in omega arith }

pub least_differs : (a z : ℤ) → SFits w64 a → SFits w64 z → of_z w64 z ≡ 2 ^ 63 → equal_z a (neg_ℤ z) ≡ false
least_differs a (pos n) fa f h = absurd (let m = f.sfits in omega arith)
least_differs (pos m) (negsuc n) fa f h =
    let l = fa.sfits in
    let k = f.sfits in
    ne_eqb m (suc n) (λ (e : m ≡ suc n). omega arith)
least_differs (negsuc m) (negsuc n) fa f h = refl

-- the pair at a distance of i, read out of a slice: what is known of it speaks of its bits
pub differs_read : (turned r : Bool) (w : List ℤ) (h i : ℕ) → mag (get_or w (h + i) (pos 0)) < 2 ^ 63 → mag (get_or w (h - i) (pos 0)) < 2 ^ 63
    → r ≡ differ_z turned (to_z w64 (of_z w64 (get_or w (h + i) (pos 0)))) (to_z w64 (of_z w64 (get_or w (h - i) (pos 0))))
    → differ_z turned (get_or w (h + i) (pos 0)) (get_or w (h - i) (pos 0)) ≡ r
differs_read turned r w h i a b e =
    sym (rw (to_z-of_z w64 (get_or w (h + i) (pos 0)) (record { sfits = a }), to_z-of_z w64 (get_or w (h - i) (pos 0)) (record { sfits = b })) at e)
