-- Which lists may be raised: levels within condition 3, and weights that are not below 0 or are raised by 65,535.
-- Assumes nothing.
use Prim.Native.Nat.{suc, ◌+◌, ◌-◌, ◌≤◌}
use mathlib.Core.Path.{◌≡◌, refl, sym, subst}
use mathlib.Core.Bool.{Bool, true, false, true≢false}
use mathlib.Core.List.{List, [], ◌∷◌}
use native.Mathlib.Omega.{arith}
use lib.IntN.{ℤ, pos, negsuc, neg_ℤ}
use lib.Signed.{lt_z}
use Rattle.numbers.specs.Lists.{any_of, Every}
use Rattle.numbers.specs.Ranges.{outside_z}
use Rattle.numbers.proofs.Any.{every_imp}
use Rattle.numbers.proofs.IntSum.{minus_pos}
use Rattle.numbers.proofs.Size.{Size, tested_sized}
use Rattle.numbers.proofs.Tests.{or_false, cond_yes, cond_no, cond_ind}
use Rattle.correlate_raised_terms.specs.Narrow.{Raised, Narrow, raise_of}

-- ---- a level within condition 3 is 0 to 2^32 - 1, raised
raised_level : (x : ℤ) → Size x 2147483647 → Raised 2147483648 4294967295 x
raised_level (pos n) h = record { to = n + 2147483648; is = refl; small = omega (arith, h.size) }
raised_level (negsuc n) h = record { to = 2147483648 - suc n; is = minus_pos 2147483648 (suc n) (omega (arith, h.size)); small = omega arith }

pub levels_narrow : (s : List ℤ) → any_of (outside_z (neg_ℤ (pos 2147483647)) (pos 2147483647)) s ≡ false → Narrow s
levels_narrow s h = every_imp _ _ s raised_level (tested_sized 2147483647 s h)

-- ---- a weight: raised by 65,535, or not below 0
raised_up : (x : ℤ) → Size x 65535 → Raised 65535 131070 x
raised_up (pos n) h = record { to = n + 65535; is = refl; small = omega (arith, h.size) }
raised_up (negsuc n) h = record { to = 65535 - suc n; is = minus_pos 65535 (suc n) h.size; small = omega arith }

abbrev pub below : ℤ → Bool
below z = lt_z z (pos 0)

raised_none : (x : ℤ) → Size x 65535 → below x ≡ false → Raised 0 131070 x
raised_none (pos n) h e = record { to = n + 0; is = refl; small = omega (arith, h.size) }
raised_none (negsuc n) h e = absurd (true≢false e)

weights_up : (w : List ℤ) → Every (λ x. Size x 65535) w → Every (Raised 65535 131070) w
weights_up w h = every_imp _ _ w raised_up h

weights_none : (w : List ℤ) → Every (λ x. Size x 65535) w → any_of below w ≡ false → Every (Raised 0 131070) w
weights_none [] h e = tt
weights_none (x ∷ xs) h e = let p = or_false (below x) (any_of below xs) e in (raised_none x h.0 p.0, weights_none xs h.1 p.1)

-- ---- by how much: as the code finds it, and that it serves
pub raise_some : (w : List ℤ) → any_of below w ≡ true → 65535 ≡ raise_of w
unfolding raise_of
raise_some w e = sym (cond_yes (any_of below w) 65535 0 e)

pub raise_none : (w : List ℤ) → any_of below w ≡ false → 0 ≡ raise_of w
unfolding raise_of
raise_none w e = sym (cond_no (any_of below w) 65535 0 e)

pub raise_low : (w : List ℤ) → raise_of w ≤ 65535
unfolding raise_of
raise_low w = cond_ind (any_of below w) 65535 0 (λ n. n ≤ 65535) (λ t. omega arith) (λ t. omega arith)

pub raise_raised : (w : List ℤ) → any_of (outside_z (neg_ℤ (pos 65535)) (pos 65535)) w ≡ false → Every (Raised (raise_of w) 131070) w
raise_raised w h = go (any_of below w) refl
  where
    go : (t : Bool) → any_of below w ≡ t → Every (Raised (raise_of w) 131070) w
    go true e = subst (λ n. Every (Raised n 131070) w) (raise_some w e) (weights_up w (tested_sized 65535 w h))
    go false e = subst (λ n. Every (Raised n 131070) w) (raise_none w e) (weights_none w (tested_sized 65535 w h) e)
