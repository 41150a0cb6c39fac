-- A digit that reaches no cap: it is no gap, and lengthens the word as it is.
-- Assumes nothing.
use Prim.Native.Nat.{ℕ, ◌+◌, ◌-◌, ◌*◌, ◌≤◌, ◌<◌, min}
use native.Mathlib.Omega.{arith}
use mathlib.Core.Path.{◌≡◌, refl, sym, ap, ◌∙◌}
use mathlib.Core.Bool.{true, false, ◌&&◌, ◌||◌, cond}
use borrow.Author.Tests.{le-ltb, lt-ltb, lt-leb, ne_eqb, leb-true, ltb-true}
use lib.Dec.{leb, ltb, eqb}
use Rattle.numbers.proofs.Tests.{or_none, or_no, and_true}
use Rattle.text_spec.specs.Reading.{digit_of, no_digit}
use Rattle.grid_text_spec.specs.declared.TextWord.{TextWord}
use Rattle.grid_text_spec.specs.Words.{gap_byte}
use Rattle.grid_text_spec.specs.Machine.{digit_cap, size_cap, capped, is_empty, minus_word, longer_word, next_byte}

abbrev pub Plain : TextWord → ℕ → Type 0
Plain w x = (48 ≤ x) × (x < 58) × (w.digits < 18) × (w.size < 10000000000000000)

-- what a yes of `is_plain` says
pub plain_is : (w : TextWord) (x : ℕ) → leb 48 x && (ltb x 58 && (ltb w.digits 18 && ltb w.size 10000000000000000)) ≡ true → Plain w x
plain_is w x e =
    let a = and_true (leb 48 x) (ltb x 58 && (ltb w.digits 18 && ltb w.size 10000000000000000)) e in
    let b = and_true (ltb x 58) (ltb w.digits 18 && ltb w.size 10000000000000000) a.1 in
    let d = and_true (ltb w.digits 18) (ltb w.size 10000000000000000) b.1 in
    (leb-true 48 x a.0, ltb-true x 58 b.0, ltb-true w.digits 18 d.0, ltb-true w.size 10000000000000000 d.1)

apart : (x n : ℕ) → 48 ≤ x → n < 48 → eqb x n ≡ false
apart x n h l = ne_eqb x n (clash h l)
  where
    clash : 48 ≤ x → n < 48 → x ≡ n → ⊥
    clash h l e = omega arith

uncut : (n k : ℕ) → n < 10000000000000000 → k < 10 → min (min n size_cap * 10 + k) size_cap ≡ n * 10 + k
uncut n k h l = omega arith

module _ (w : TextWord) (x : ℕ) (p : Plain w x) where
  pub plain_gap : gap_byte x ≡ false
  plain_gap = or_no (eqb x 32) (eqb x 10) (apart x 32 p.0 (omega arith)) (apart x 10 p.0 (omega arith))

  digit_is : digit_of x ≡ x - 48
  digit_is = rw (le-ltb x 48 p.0, lt-ltb x 58 p.1) refl

  below : x - 48 < 10
  below = omega (arith, p.0, p.1)

  odd-kept : w.odd || no_digit 10 x ≡ w.odd
  odd-kept = ap (λ t. w.odd || t) (ap (leb 10) digit_is ∙ lt-leb 10 (x - 48) below) ∙ or_none w.odd

  digits_more : min (w.digits + 1) digit_cap ≡ w.digits + 1
  digits_more = omega (arith, p.2)

  size_more : capped (capped w.size * 10 + digit_of x) ≡ w.size * 10 + (x - 48)
  size_more = ap (λ n. capped (capped w.size * 10 + n)) digit_is ∙ uncut w.size (x - 48) p.3 below

  pub plain-next : record { minus = w.minus; odd = w.odd; digits = w.digits + 1; size = w.size * 10 + (x - 48) } ≡ next_byte w x
  unfolding next_byte
  plain-next =
      sym (ap (λ t. cond (t && is_empty w) (minus_word w) (longer_word w x)) (apart x 45 p.0 (omega arith))
      ∙ (λ i. record { minus = w.minus; odd = odd-kept i; digits = digits_more i; size = size_more i }))
