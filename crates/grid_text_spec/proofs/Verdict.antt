-- The machine's judge and the definition by words give the same number.
-- Assumes nothing.
use Prim.Native.Nat.{ℕ, ◌+◌, ◌*◌, ◌≤◌, min}
use native.Mathlib.Nat.{zero-mul, mul-zero}
use native.Mathlib.Omega.{arith}
use mathlib.Core.Path.{◌≡◌, refl, sym, ap, ◌∙◌}
use mathlib.Core.Bool.{Bool, true, false, not, ◌&&◌, ◌||◌, cond, true≢false}
use mathlib.Core.List.{List, [], ◌∷◌, map}
use borrow.Author.Tests.{ltb-false, eq-eqb, ne_eqb, eqb-true, eqb-false}
use lib.Dec.{eqb, ltb}
use lib.ListN.{length, drop}
use Rattle.numbers.specs.Limits.{longest_axis, most_cells}
use Rattle.numbers.specs.Lists.{any_of}
use Rattle.numbers.specs.Refusal.{refusal_of}
use Rattle.numbers.proofs.Any.{any_none, none_any, every_imp, every_take, every_drop}
use Rattle.numbers.proofs.Tests.{or_false}
use Rattle.array_spec.specs.Grid.{cell_count}
use Rattle.grid_text_spec.specs.Words.{not_number, word_size, bad_word, word_outside, count_word, axis_count, length_words, text_lengths, bad_cell_count, bad_text_words, words_judged}
use Rattle.grid_text_spec.specs.Machine.{word_cap, length_cap, cell_cap, large_shape, shape_judged}
use Rattle.grid_text_spec.proofs.Summary.{factor, good_size, same_test}
use Rattle.grid_text_spec.proofs.Shapes.{factors, shape_of, axes_most}

abbrev number : Bool → Bool → ℕ
number a b = cond a 1 (cond b 2 0)

and_one : (a : Bool) → a && true ≡ a
and_one true = refl
and_one false = refl

-- a length that is no number makes the product 0, and others count whole
factor-none : (w : List ℕ) → not_number w ≡ true → factor w ≡ 0
factor-none w e = rw e refl

factor-whole : (w : List ℕ) → not_number w ≡ false → word_outside 1 longest_axis w ≡ false → factor w ≡ word_size w
factor-whole w e f = let g = good_size w 1 longest_axis (omega arith) (omega arith) (omega arith) e f in ap (λ t. cond t 0 (min (word_size w) length_cap)) e ∙ omega arith

factors-none : (l : List (List ℕ)) → any_of not_number l ≡ true → factors l ≡ 0
factors-none [] e = absurd (true≢false (sym e))
factors-none (w ∷ l) e = go (factors-none l) (not_number w) refl e
  where
    go : (any_of not_number l ≡ true → factors l ≡ 0) → (t : Bool) → not_number w ≡ t → t || any_of not_number l ≡ true → factor w * factors l ≡ 0
    go f true p q = ap (λ n. n * factors l) (factor-none w p) ∙ zero-mul (factors l)
    go f false p q = ap (λ n. factor w * n) (f q) ∙ mul-zero (factor w)

pub factors-whole : (l : List (List ℕ)) → any_of not_number l ≡ false → any_of (word_outside 1 longest_axis) l ≡ false → factors l ≡ cell_count (map word_size l)
factors-whole [] e f = refl
factors-whole (w ∷ l) e f =
    let p = or_false (not_number w) (any_of not_number l) e in
    let q = or_false (word_outside 1 longest_axis w) (any_of (word_outside 1 longest_axis) l) f in
    ap (λ n. n * factors l) (factor-whole w p.0 q.0) ∙ ap (λ n. word_size w * n) (factors-whole l p.1 q.1)

-- ---- a part of words that are not faulty
number_of : (w : List ℕ) → bad_word w ≡ false → not_number w ≡ false
unfolding bad_word
number_of w e = (or_false (not_number w) _ e).0

pub all-numbers : (ws : List (List ℕ)) → any_of bad_word ws ≡ false → any_of not_number (length_words ws) ≡ false
all-numbers ws e =
    none_any not_number (length_words ws)
    (every_take (λ w. not_number w ≡ false) (drop 1 ws) (axis_count ws)
    (every_drop (λ w. not_number w ≡ false) ws 1 (every_imp (λ w. bad_word w ≡ false) (λ w. not_number w ≡ false) ws number_of (any_none bad_word ws e))))

module _ (ws : List (List ℕ)) where
  -- ---- condition 1
  large_same : any_of (word_outside 1 longest_axis) (length_words ws) ≡ false
      → large_shape (shape_of ws) ≡ ltb (axis_count ws) (length ws) && not (any_of not_number (length_words ws)) && ltb most_cells (cell_count (text_lengths ws))
  unfolding large_shape
  large_same f =
      ap (λ t. t && ltb most_cells (min (factors (length_words ws)) cell_cap)) (there (axes_most ws))
      ∙ go (ltb (axis_count ws) (length ws)) (any_of not_number (length_words ws)) refl
    where
      there : axis_count ws ≤ 3 → ltb (axis_count ws) (min (length ws) word_cap) ≡ ltb (axis_count ws) (length ws)
      there h = same_test (axis_count ws) (min (length ws) word_cap) (axis_count ws) (length ws) (λ l. omega arith) (λ l. omega arith)

      over : (p : ℕ) → ltb most_cells (min p cell_cap) ≡ ltb most_cells p
      over p = same_test most_cells (min p cell_cap) most_cells p (λ l. omega arith) (λ l. omega arith)

      go : (s t : Bool) → any_of not_number (length_words ws) ≡ t → s && ltb most_cells (min (factors (length_words ws)) cell_cap) ≡ s && not t && ltb most_cells (cell_count (text_lengths ws))
      go false t e = refl
      go true true e = ap (λ p. ltb most_cells (min p cell_cap)) (factors-none (length_words ws) e)
      go true false e = over (factors (length_words ws)) ∙ ap (ltb most_cells) (factors-whole (length_words ws) e f)

  -- ---- condition 2
  count_same : any_of (word_outside 1 longest_axis) (length_words ws) ≡ false → any_of bad_word ws ≡ false → ltb (axis_count ws) (length ws) && ltb most_cells (cell_count (text_lengths ws)) ≡ false
      → eqb (min (length ws) word_cap) (1 + axis_count ws + min (factors (length_words ws)) cell_cap) ≡ eqb (length ws) (1 + axis_count ws + cell_count (text_lengths ws))
  count_same f e g =
      ap (λ p. eqb (min (length ws) word_cap) (1 + axis_count ws + min p cell_cap)) (factors-whole (length_words ws) (all-numbers ws e) f)
      ∙ go (ltb (axis_count ws) (length ws)) refl g (cell_count (text_lengths ws)) refl
    where
      few : (p : ℕ) → length ws ≤ axis_count ws → length ws ≡ 1 + axis_count ws + p → ⊥
      few p h q = omega arith

      cut : (p : ℕ) → length ws ≤ axis_count ws → min (length ws) word_cap ≡ 1 + axis_count ws + min p cell_cap → ⊥
      cut p h q = omega arith

      go : (t : Bool) → ltb (axis_count ws) (length ws) ≡ t → t && ltb most_cells (cell_count (text_lengths ws)) ≡ false → (p : ℕ) → cell_count (text_lengths ws) ≡ p
          → eqb (min (length ws) word_cap) (1 + axis_count ws + min p cell_cap) ≡ eqb (length ws) (1 + axis_count ws + p)
      go false q g p z =
          let h = ltb-false (axis_count ws) (length ws) q in
          ne_eqb (min (length ws) word_cap) (1 + axis_count ws + min p cell_cap) (cut p h) ∙ sym (ne_eqb (length ws) (1 + axis_count ws + p) (few p h))
      go true q g p z = whole (eqb (length ws) (1 + axis_count ws + p)) refl (axes_most ws) (ltb-false most_cells p (ap (ltb most_cells) (sym z) ∙ g))
        where
          same : axis_count ws ≤ 3 → p ≤ most_cells → length ws ≡ 1 + axis_count ws + p → min (length ws) word_cap ≡ 1 + axis_count ws + min p cell_cap
          same h l e = omega arith

          other : axis_count ws ≤ 3 → p ≤ most_cells → (length ws ≡ 1 + axis_count ws + p → ⊥) → min (length ws) word_cap ≡ 1 + axis_count ws + min p cell_cap → ⊥
          other h l n e = n (back h l e)
            where
              back : axis_count ws ≤ 3 → p ≤ most_cells → min (length ws) word_cap ≡ 1 + axis_count ws + min p cell_cap → length ws ≡ 1 + axis_count ws + p
              back h l e = omega arith

          whole : (t : Bool) → eqb (length ws) (1 + axis_count ws + p) ≡ t → axis_count ws ≤ 3 → p ≤ most_cells → eqb (min (length ws) word_cap) (1 + axis_count ws + min p cell_cap) ≡ t
          whole true e h l = eq-eqb (min (length ws) word_cap) (1 + axis_count ws + min p cell_cap) (same h l (eqb-true (length ws) (1 + axis_count ws + p) e))
          whole false e h l = ne_eqb (min (length ws) word_cap) (1 + axis_count ws + min p cell_cap) (other h l (eqb-false (length ws) (1 + axis_count ws + p) e))

  -- ---- both
  pub verdict : refusal_of (shape_judged (shape_of ws)) ≡ refusal_of (words_judged ws)
  verdict = go (word_outside 1 3 (count_word ws) || any_of (word_outside 1 longest_axis) (length_words ws)) refl
    where
      counts : any_of (word_outside 1 longest_axis) (length_words ws) ≡ false → (f : Bool) → any_of bad_word ws ≡ f → (b : Bool) → bad_cell_count ws ≡ b
          → number b (f || not (eqb (min (length ws) word_cap) (1 + axis_count ws + min (factors (length_words ws)) cell_cap)))
          ≡ number b (f || not (eqb (length ws) (1 + axis_count ws + cell_count (text_lengths ws))))
      counts r f e true z = refl
      counts r true e false z = refl
      counts r false e false z =
          ap (λ t. number false (not t))
          (count_same r e
          (ap (λ t. t && ltb most_cells (cell_count (text_lengths ws))) (sym (and_one (ltb (axis_count ws) (length ws))))
          ∙ ap (λ t. ltb (axis_count ws) (length ws) && not t && ltb most_cells (cell_count (text_lengths ws))) (sym (all-numbers ws e))
          ∙ z))

      go : (a : Bool) → word_outside 1 3 (count_word ws) || any_of (word_outside 1 longest_axis) (length_words ws) ≡ a
          → number (a || large_shape (shape_of ws)) (any_of bad_word ws || not (eqb (min (length ws) word_cap) (1 + axis_count ws + min (factors (length_words ws)) cell_cap)))
          ≡ number (a || bad_cell_count ws) (bad_text_words ws)
      go true e = refl
      go false e =
          let r = (or_false (word_outside 1 3 (count_word ws)) (any_of (word_outside 1 longest_axis) (length_words ws)) e).1 in
          ap (λ t. number t (any_of bad_word ws || not (eqb (min (length ws) word_cap) (1 + axis_count ws + min (factors (length_words ws)) cell_cap)))) (large_same r)
          ∙ counts r (any_of bad_word ws) refl (bad_cell_count ws) refl
