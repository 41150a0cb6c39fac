-- What the machine keeps of a word, byte by byte, and what its tests say of the word.
-- Assumes nothing.
use Prim.Native.Nat.{ℕ, zero, suc, ◌+◌, ◌-◌, ◌*◌, ◌≤◌, ◌<◌, min}
use native.Mathlib.Omega.{arith}
use mathlib.Core.Path.{◌≡◌, refl, sym, ap, ◌∙◌}
use mathlib.Core.Bool.{Bool, true, false, not, ◌&&◌, ◌||◌, cond}
use mathlib.Core.List.{List, [], ◌∷◌, ◌++◌}
use borrow.Author.Tests.{lt-ltb, le-ltb, ltb-true, ltb-false, ne_eqb}
use lib.Dec.{eqb, ltb}
use lib.IntN.{pos, neg_ℤ}
use lib.ListN.{length, length-append}
use Rattle.numbers.specs.Lists.{any_of}
use Rattle.numbers.specs.Ranges.{outside, outside_z}
use Rattle.numbers.proofs.Any.{any_append}
use Rattle.numbers.proofs.Tests.{or_none, or_false}
use Rattle.text_spec.specs.Reading.{digit_of, no_digit, value_of}
use Rattle.text_spec.proofs.Digits.{value_append}
use Rattle.grid_text_spec.specs.declared.TextWord.{TextWord}
use Rattle.grid_text_spec.specs.Words.{most_digits, minus_first, body_of, not_number, word_size, word_value, bad_word, word_outside, axis_count}
use Rattle.grid_text_spec.specs.Machine.{digit_cap, size_cap, length_cap, cell_cap, capped, is_empty, minus_word, longer_word, next_byte, broken_word, wrong_word, out_word, axes_after, cells_after}

-- t: a minus went before; b: the bytes after it
abbrev pub summary : Bool → List ℕ → TextWord
summary t b = record { minus = t; odd = any_of (no_digit 10) b; digits = min (length b) digit_cap; size = capped (value_of 10 0 b) }

abbrev pub word_of : List ℕ → TextWord
word_of w = summary (minus_first w) (body_of w)

-- ---- byte by byte
grown : (t : Bool) (b : List ℕ) (x : ℕ) → longer_word (summary t b) x ≡ summary t (b ++ x ∷ [])
grown t b x = (λ i. record { minus = t; odd = p i; digits = q i; size = r i })
  where
    p : any_of (no_digit 10) b || no_digit 10 x ≡ any_of (no_digit 10) (b ++ x ∷ [])
    p = sym (any_append (no_digit 10) b (x ∷ []) ∙ ap (λ u. any_of (no_digit 10) b || u) (or_none (no_digit 10 x)))

    more : (n : ℕ) → min (min n digit_cap + 1) digit_cap ≡ min (n + 1) digit_cap
    more n = omega arith

    q : min (min (length b) digit_cap + 1) digit_cap ≡ min (length (b ++ x ∷ [])) digit_cap
    q = more (length b) ∙ ap (λ n. min n digit_cap) (sym (length-append b (x ∷ [])))

    next : (n d : ℕ) → min (min (min n size_cap) size_cap * 10 + d) size_cap ≡ min (n * 10 + d) size_cap
    next n d = omega arith

    r : capped (capped (capped (value_of 10 0 b)) * 10 + digit_of x) ≡ capped (value_of 10 0 (b ++ x ∷ []))
    r = next (value_of 10 0 b) (digit_of x) ∙ ap capped (sym (value_append 10 0 b (x ∷ [])))

pub filled_word : (y : ℕ) (v : List ℕ) → is_empty (word_of (y ∷ v)) ≡ false
filled_word y v = go (eqb y 45)
  where
    some : (n : ℕ) → min (suc n) digit_cap ≡ 0 → ⊥
    some n e = omega arith

    go : (t : Bool) → is_empty (summary t (cond t v (y ∷ v))) ≡ false
    go true = refl
    go false = ne_eqb (min (suc (length v)) digit_cap) 0 (some (length v))

and_false : (a : Bool) → a && false ≡ false
and_false true = refl
and_false false = refl

pub word_more : (w : List ℕ) (x : ℕ) → next_byte (word_of w) x ≡ word_of (w ++ x ∷ [])
unfolding next_byte
word_more [] x = go (eqb x 45)
  where
    go : (t : Bool) → cond (t && true) (minus_word (summary false [])) (longer_word (summary false []) x) ≡ summary t (cond t [] (x ∷ []))
    go true = refl
    go false = grown false [] x
word_more (y ∷ v) x = ap (λ t. cond (eqb x 45 && t) (minus_word (word_of (y ∷ v))) (longer_word (word_of (y ∷ v)) x)) (filled_word y v)
    ∙ ap (λ t. cond t (minus_word (word_of (y ∷ v))) (longer_word (word_of (y ∷ v)) x)) (and_false (eqb x 45))
    ∙ go (eqb y 45)
  where
    go : (t : Bool) → longer_word (summary t (cond t v (y ∷ v))) x ≡ summary t (cond t (v ++ x ∷ []) (y ∷ (v ++ x ∷ [])))
    go true = grown true v x
    go false = grown false (y ∷ v) x

-- ---- the tests
pub same_test : (a b c d : ℕ) → (c < d → a < b) → (d ≤ c → b ≤ a) → ltb a b ≡ ltb c d
same_test a b c d f g = go (ltb c d) refl
  where
    go : (t : Bool) → ltb c d ≡ t → ltb a b ≡ t
    go true e = lt-ltb a b (f (ltb-true c d e))
    go false e = le-ltb a b (g (ltb-false c d e))

none_same : (n : ℕ) → eqb (min n digit_cap) 0 ≡ eqb n 0
none_same zero = refl
none_same (suc n) = ne_eqb (min (suc n) digit_cap) 0 a ∙ sym (ne_eqb (suc n) 0 b)
  where
    a : min (suc n) digit_cap ≡ 0 → ⊥
    a e = omega arith

    b : suc n ≡ 0 → ⊥
    b e = omega arith

long_same : (n : ℕ) → ltb most_digits (min n digit_cap) ≡ ltb most_digits n
long_same n = same_test most_digits (min n digit_cap) most_digits n (λ h. omega arith) (λ h. omega arith)

module _ (w : List ℕ) where
  pub broken_word_lem : broken_word (word_of w) ≡ not_number w
  unfolding broken_word not_number
  broken_word_lem = ap (λ t. any_of (no_digit 10) (body_of w) || t) (none_same (length (body_of w)))

  pub wrong_word_lem : wrong_word (word_of w) ≡ bad_word w
  unfolding wrong_word bad_word
  wrong_word_lem = ap (λ t. t || ltb most_digits (min (length (body_of w)) digit_cap)) broken_word_lem ∙ ap (λ t. not_number w || t) (long_same (length (body_of w)))

  module _ (lo hi : ℕ) (l : 0 < lo) (a : lo ≤ size_cap) (b : hi < size_cap) where
    sides : (t : Bool) (n : ℕ) → t || outside lo hi (capped n) ≡ outside_z (pos lo) (pos hi) (cond t (neg_ℤ (pos n)) (pos n))
    sides true zero = sym (ap (λ t. t || ltb hi 0) (lt-ltb 0 lo l))
    sides true (suc n) = refl
    sides false n =
        ap (λ t. t || ltb hi (capped n)) (same_test (capped n) lo n lo (λ h. omega arith) (λ h. omega arith))
        ∙ ap (λ t. ltb n lo || t) (same_test hi (capped n) hi n (λ h. omega arith) (λ h. omega arith))

    pub out_word_lem : out_word lo hi (word_of w) ≡ word_outside lo hi w
    unfolding out_word word_outside
    out_word_lem = ap (λ t. not t && (minus_first w || outside lo hi (capped (word_size w)))) broken_word_lem ∙ ap (λ t. not (not_number w) && t) (sides (minus_first w) (word_size w))

    -- a number that is not refused
    pub good_size : not_number w ≡ false → word_outside lo hi w ≡ false → (minus_first w ≡ false) × (lo ≤ word_size w) × (word_size w ≤ hi)
    unfolding word_outside
    good_size e f =
        let g : minus_first w || outside lo hi (capped (word_size w)) ≡ false = sides (minus_first w) (word_size w) ∙ ap (λ t. not t && outside_z (pos lo) (pos hi) (word_value w)) (sym e) ∙ f in
        let p = or_false (minus_first w) (outside lo hi (capped (word_size w))) g in
        let q = or_false (ltb (capped (word_size w)) lo) (ltb hi (capped (word_size w))) p.1 in
        let x = ltb-false (capped (word_size w)) lo q.0 in
        let y = ltb-false hi (capped (word_size w)) q.1 in
        (p.0, omega arith, omega arith)

  pub axes_word : (ws : List (List ℕ)) → axes_after (word_of w) ≡ axis_count (w ∷ ws)
  unfolding axes_after axis_count
  axes_word ws =
      ap (λ t. cond (t || out_word 1 3 (word_of w)) 0 (min (capped (word_size w)) 3)) broken_word_lem
      ∙ ap (λ t. cond (not_number w || t) 0 (min (capped (word_size w)) 3)) (out_word_lem 1 3 (omega arith) (omega arith) (omega arith))
      ∙ go (not_number w) refl (word_outside 1 3 w) refl
    where
      go : (s : Bool) → not_number w ≡ s → (t : Bool) → word_outside 1 3 w ≡ t → cond (s || t) 0 (min (capped (word_size w)) 3) ≡ cond (s || t) 0 (word_size w)
      go true e t f = refl
      go false e true f = refl
      go false e false f = let g = good_size 1 3 (omega arith) (omega arith) (omega arith) e f in omega arith

  -- the length that counts in the product
  abbrev pub factor : ℕ
  factor = cond (not_number w) 0 (min (word_size w) length_cap)

  pub cells_word : (p : ℕ) → cells_after p (word_of w) ≡ min (p * factor) cell_cap
  unfolding cells_after
  cells_word p = ap (λ t. cond t 0 (min (p * min (capped (word_size w)) length_cap) cell_cap)) broken_word_lem ∙ go (not_number w)
    where
      once : (n : ℕ) → min (capped n) length_cap ≡ min n length_cap
      once n = omega arith

      go : (t : Bool) → cond t 0 (min (p * min (capped (word_size w)) length_cap) cell_cap) ≡ min (p * cond t 0 (min (word_size w) length_cap)) cell_cap
      go true = omega arith
      go false = ap (λ n. min (p * n) cell_cap) (once (word_size w))
