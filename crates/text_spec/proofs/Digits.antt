-- The digits of a number: how many, each below the base, their value, and writing them from the last one on.
-- Assumes nothing.
use Prim.Native.Nat.{ℕ, zero, suc, ◌+◌, ◌-◌, ◌*◌, ◌/◌, ◌%◌, ◌^◌, ◌≤◌, ◌<◌}
use native.Mathlib.Nat.{mod-lt, mul_comm, div-add-mod', div-one, div-div-eq-div-mul, div-lt_iff_lt-mul, le-div_iff_mul-le, not-suc-le-zero, pow-zero, pow-suc, pow-succ', one-le-pow, pow-le-pow_right}
use native.Mathlib.Numerals.{add-one, sub-one}
use native.Mathlib.Omega.{arith}
use mathlib.Core.Path.{◌≡◌, refl, sym, ap, ◌∙◌}
use mathlib.Core.Bool.{Bool, true, false, cond}
use mathlib.Core.List.{List, [], ◌∷◌, ◌++◌, append_assoc}
use borrow.Author.Tests.{lt-ltb, le-ltb, ltb-true, ltb-false}
use lib.Dec.{ltb}
use lib.ListN.{length, drop, set, length-append, length-set}
use lib.Seq.{drop-cons, get_or-set_same, drop-set-lt, lt-length-set}
use Rattle.text_spec.specs.Reading.{digit_of, value_of}
use Rattle.text_spec.specs.Writing.{glyph_of, digits_of, places_of}

pub digits_length : (b k n : ℕ) → length (digits_of b k n) ≡ k
digits_length b zero n = refl
digits_length b (suc k) n = omega (arith, length-append (digits_of b k (n / b)) (glyph_of (n % b) ∷ []), digits_length b k (n / b))

-- a digit's byte is that digit
pub digit_glyph : (d : ℕ) → d < 16 → digit_of (glyph_of d) ≡ d
digit_glyph d h = go (ltb d 10) refl
  where
    go : (t : Bool) → ltb d 10 ≡ t → digit_of (cond t (48 + d) (87 + d)) ≡ d
    go true e = let l = ltb-true d 10 e in rw (le-ltb (48 + d) 48 (omega arith), lt-ltb (48 + d) 58 (omega arith)) (omega arith)
    go false e =
        let l = ltb-false d 10 e in
        rw (
          le-ltb (87 + d) 48 (omega arith),
          le-ltb (87 + d) 58 (omega arith),
          le-ltb (87 + d) 97 (omega arith),
          lt-ltb (87 + d) 103 (omega arith),
        )
        (omega arith)

pub value_append : (b n : ℕ) (s t : List ℕ) → value_of b n (s ++ t) ≡ value_of b (value_of b n s) t
value_append b n [] t = refl
value_append b n (x ∷ s) t = value_append b (n * b + digit_of x) s t

pub digits_value : (b : ℕ) → 1 < b → b ≤ 16 → (k n : ℕ) → n < b ^ k → value_of b 0 (digits_of b k n) ≡ n
digits_value b h l zero n f = omega (arith, pow-zero b)
digits_value b h l (suc k) n f =
    value_append b 0 (digits_of b k (n / b)) (glyph_of (n % b) ∷ [])
    ∙ ap (λ m. m * b + digit_of (glyph_of (n % b))) (digits_value b h l k (n / b) ((div-lt_iff_lt-mul {k = b} pos_b).1 (rw pow-suc at f)))
    ∙ ap (λ m. n / b * b + m) (digit_glyph (n % b) (omega (arith, mod-lt n pos_b)))
    ∙ div-add-mod' n b
  where
    pos_b : 0 < b
    pos_b = omega arith

-- ---- how many decimal digits
pub places-least : (f n : ℕ) → 1 ≤ places_of f n
unfolding places_of
places-least zero n = omega arith
places-least (suc f) n = go (ltb n 10)
  where
    go : (t : Bool) → 1 ≤ cond t 1 (suc (places_of f (n / 10)))
    go true = omega arith
    go false = omega arith

pub places_most : (f n : ℕ) → places_of f n ≤ suc f
unfolding places_of
places_most zero n = omega arith
places_most (suc f) n = go (ltb n 10) (places_most f (n / 10))
  where
    go : (t : Bool) → places_of f (n / 10) ≤ suc f → cond t 1 (suc (places_of f (n / 10))) ≤ suc (suc f)
    go true h = omega arith
    go false h = omega arith

pub places_hold : (f n : ℕ) → n < 10 ^ suc f → n < 10 ^ places_of f n
unfolding places_of
places_hold zero n h = h
places_hold (suc f) n h = go (ltb n 10) refl (places_hold f (n / 10) ((div-lt_iff_lt-mul {k = 10} (omega arith)).1 (rw (pow-suc 10 (suc f)) at h)))
  where
    go : (t : Bool) → ltb n 10 ≡ t → n / 10 < 10 ^ places_of f (n / 10) → n < 10 ^ cond t 1 (suc (places_of f (n / 10)))
    go true e l = ltb-true n 10 e
    go false e l = rw pow-suc ((div-lt_iff_lt-mul {k = 10} (omega arith)).0 l)

-- a turn of the count, with f + 1 turns left
pub places_end : (f n : ℕ) → n < 10 → places_of f n ≡ 1
unfolding places_of
places_end zero n h = refl
places_end (suc f) n h = rw (lt-ltb n 10 h) refl

pub places-none : (n : ℕ) → places_of 0 n ≡ 1
unfolding places_of
places-none n = refl

pub places-more : (f n : ℕ) → 0 < f → 10 ≤ n → places_of f n ≡ 1 + places_of (f - 1) (n / 10)
unfolding places_of
places-more zero n h l = absurd (not-suc-le-zero h)
places-more (suc f) n h l = rw (sub-one, le-ltb n 10 l) (omega arith)

-- ---- the count by rising powers: after k turns the power is 10^(k + 1)
pub record Counting (n k power : ℕ) : Type 0 where
  pub few : k ≤ 18
  pub power_is : power ≡ 10 ^ (k + 1)
  pub counted : k + places_of (18 - k) (n / 10 ^ k) ≡ places_of 18 n

power_next : (k : ℕ) → 10 ^ (k + 1) ≡ 10 * 10 ^ k
power_next k = ap (λ (e : ℕ). 10 ^ e) (add-one k) ∙ pow-succ' 10 k

pub count_none : (n : ℕ) → Counting n 0 10
count_none n = record { few = omega arith; power_is = refl; counted = omega (arith, ap (places_of 18) (div-one n)) }

pub count_more : {n k power : ℕ} → Counting n k power → k < 18 → power ≤ n → Counting n (k + 1) (power * 10)
count_more {n} {k} {power} c h l = record { few = omega arith; power_is = risen; counted = omega (arith, c.counted, turned) }
  where
    risen : power * 10 ≡ 10 ^ (k + 1 + 1)
    risen = mul_comm power 10 ∙ ap (λ (p : ℕ). 10 * p) c.power_is ∙ sym (power_next (k + 1))

    some : 10 ≤ n / 10 ^ k
    some = (le-div_iff_mul-le (one-le-pow k 10 (omega arith))).1 (rw (sym (power_next k), sym c.power_is) l)

    on : n / 10 ^ k / 10 ≡ n / 10 ^ (k + 1)
    on = div-div-eq-div-mul n (10 ^ k) 10 ∙ ap (λ (p : ℕ). n / p) (mul_comm (10 ^ k) 10 ∙ sym (power_next k))

    fewer : 18 - k - 1 ≡ 18 - (k + 1)
    fewer = omega arith

    turned : places_of (18 - k) (n / 10 ^ k) ≡ 1 + places_of (18 - (k + 1)) (n / 10 ^ (k + 1))
    turned = places-more (18 - k) (n / 10 ^ k) (omega arith) some ∙ ap (λ (m : ℕ). 1 + places_of (18 - k - 1) m) on ∙ ap (λ (f : ℕ). 1 + places_of f (n / 10 ^ (k + 1))) fewer

-- ten times the power fits
pub count_fits : {n k power : ℕ} → Counting n k power → k < 18 → power ≤ 1000000000000000000
count_fits {k = k} c h = rw c.power_is (pow-le-pow_right {n = 10} (omega arith) {i = k + 1} {j = 18} (omega arith))

pub count_end_lem : {n k power : ℕ} → Counting n k power → n < power → k + 1 ≡ places_of 18 n
count_end_lem {n} {k} {power} c h = ap (λ (m : ℕ). k + m) (sym (places_end (18 - k) (n / 10 ^ k) few)) ∙ c.counted
  where
    few : n / 10 ^ k < 10
    few = (div-lt_iff_lt-mul (one-le-pow k 10 (omega arith))).1 (rw (sym (power_next k), sym c.power_is) h)

pub count_all : {n k power : ℕ} → Counting n k power → 18 ≤ k → k + 1 ≡ places_of 18 n
count_all {n} {k} c h = ap (λ (m : ℕ). k + m) (sym (places-none (n / 10 ^ k))) ∙ ap (λ (f : ℕ). k + places_of f (n / 10 ^ k)) none ∙ c.counted
  where
    none : 0 ≡ 18 - k
    none = omega arith

-- ---- writing from the last digit on: the digit at i - 1
pub spell_step : (b i rest : ℕ) (out : List ℕ) → 0 < i → i ≤ length out
    → digits_of b (i - 1) (rest / b) ++ drop (i - 1) (set out (i - 1) (glyph_of (rest % b))) ≡ digits_of b i rest ++ drop i out
spell_step b zero rest out h l = absurd (not-suc-le-zero h)
spell_step b (suc j) rest out h l =
    rw sub-one
    (ap (λ t. digits_of b j (rest / b) ++ t)
    (drop-cons (set out j v) j 0 (lt-length-set out j v l)
    ∙ rw (get_or-set_same out j v 0 l, drop-set-lt (suc j) out j v (omega arith)) refl)
    ∙ sym (append_assoc (digits_of b j (rest / b)) (v ∷ []) (drop (suc j) out)))
  where
    v : ℕ
    v = glyph_of (rest % b)

-- two decimal digits a turn
pub spell_two : (i rest : ℕ) (out : List ℕ) → 1 < i → i ≤ length out
    → digits_of 10 (i - 2) (rest / 100) ++ drop (i - 2) (set (set out (i - 1) (glyph_of (rest % 100 % 10))) (i - 2) (glyph_of (rest % 100 / 10)))
    ≡ digits_of 10 i rest ++ drop i out
spell_two i rest out h l = rw (last, next, on, fewer) (spell_step 10 (i - 1) (rest / 10) kept (omega arith) inside ∙ spell_step 10 i rest out (omega arith) l)
  where
    kept : List ℕ
    kept = set out (i - 1) (glyph_of (rest % 10))

    inside : i - 1 ≤ length kept
    inside = omega (arith, length-set out (i - 1) (glyph_of (rest % 10)))

    last : rest % 100 % 10 ≡ rest % 10
    last = omega arith

    next : rest % 100 / 10 ≡ rest / 10 % 10
    next = omega arith

    on : rest / 100 ≡ rest / 10 / 10
    on = omega arith

    fewer : i - 2 ≡ i - 1 - 1
    fewer = omega arith
