-- What the machine keeps of the words before, word by word.
-- Assumes nothing.
use Prim.Native.Nat.{ℕ, zero, suc, ◌+◌, ◌*◌, ◌≤◌, ◌<◌, min}
use native.Mathlib.Nat.{le-mul_of_pos_right, mul_assoc, mul_comm}
use native.Mathlib.Omega.{arith}
use mathlib.Core.Path.{◌≡◌, refl, sym, ap, ◌∙◌}
use mathlib.Core.Bool.{Bool, true, false, ◌||◌, cond}
use mathlib.Core.List.{List, [], ◌∷◌, ◌++◌}
use borrow.Author.Tests.{le-leb, lt-leb, ltb-true, ltb-false, ne_eqb}
use lib.Dec.{ltb, leb}
use lib.ListN.{length, take, length-append}
use lib.Seq.{take-nil, take_all, take-append-le}
use Rattle.numbers.specs.Limits.{longest_axis}
use Rattle.numbers.specs.Lists.{any_of}
use Rattle.numbers.proofs.Any.{any_append}
use Rattle.numbers.proofs.Tests.{or_none, or_assoc}
use Rattle.grid_text_spec.specs.declared.TextShape.{TextShape}
use Rattle.grid_text_spec.specs.Words.{not_number, word_size, bad_word, word_outside, count_word, axis_count, length_words}
use Rattle.grid_text_spec.specs.Machine.{word_cap, cell_cap, wrong_word, out_word, one_more, cells_after, count_end, length_end, level_end, word_end, start_state}
use Rattle.grid_text_spec.proofs.Summary.{word_of, wrong_word_lem, out_word_lem, good_size, axes_word, factor, cells_word}

abbrev pub factors : List (List ℕ) → ℕ
factors [] = 1
factors (w ∷ ws) = factor w * factors ws

abbrev pub shape_of : List (List ℕ) → TextShape
shape_of ws = record {
  words = min (length ws) word_cap;
  axes = axis_count ws;
  cells = min (factors (length_words ws)) cell_cap;
  refused = word_outside 1 3 (count_word ws) || any_of (word_outside 1 longest_axis) (length_words ws);
  faulty = any_of bad_word ws;
}

pub shape-none : start_state.shape ≡ shape_of []
unfolding axis_count not_number word_outside
shape-none = refl

-- at most three axes
pub axes_most : (ws : List (List ℕ)) → axis_count ws ≤ 3
unfolding axis_count
axes_most ws = go (not_number (count_word ws)) refl (word_outside 1 3 (count_word ws)) refl
  where
    go : (s : Bool) → not_number (count_word ws) ≡ s → (t : Bool) → word_outside 1 3 (count_word ws) ≡ t → cond (s || t) 0 (word_size (count_word ws)) ≤ 3
    go true e t f = omega arith
    go false e true f = omega arith
    go false e false f = (good_size (count_word ws) 1 3 (omega arith) (omega arith) (omega arith) e f).2

-- ---- products and searches of one word more
factors-last : (ws : List (List ℕ)) (w : List ℕ) → factors (ws ++ w ∷ []) ≡ factors ws * factor w
factors-last [] w = mul_comm (factor w) 1
factors-last (x ∷ ws) w = ap (λ n. factor x * n) (factors-last ws w) ∙ sym (mul_assoc (factor x) (factors ws) (factor w))

cut_product : (p s : ℕ) → min (min p cell_cap * s) cell_cap ≡ min (p * s) cell_cap
cut_product p s = go s (ltb cell_cap p) refl
  where
    go : (s : ℕ) (t : Bool) → ltb cell_cap p ≡ t → min (min p cell_cap * s) cell_cap ≡ min (p * s) cell_cap
    go s false e = ap (λ n. min (n * s) cell_cap) (small (ltb-false cell_cap p e))
      where
        small : p ≤ cell_cap → min p cell_cap ≡ p
        small h = omega arith
    go zero true e = omega arith
    go (suc s) true e = both (min p cell_cap * suc s) (p * suc s) (le-mul_of_pos_right (min p cell_cap) some) (le-mul_of_pos_right p some) (ltb-true cell_cap p e)
      where
        some : 0 < suc s
        some = omega arith

        both : (a b : ℕ) → min p cell_cap ≤ a → p ≤ b → cell_cap < p → min a cell_cap ≡ min b cell_cap
        both a b h l q = omega arith

any_last : (f : List ℕ → Bool) (ws : List (List ℕ)) (w : List ℕ) → any_of f (ws ++ w ∷ []) ≡ any_of f ws || f w
any_last f ws w = any_append f ws (w ∷ []) ∙ ap (λ t. any_of f ws || t) (or_none (f w))

length_last : (ws : List (List ℕ)) (w : List ℕ) → one_more (min (length ws) word_cap) ≡ min (length (ws ++ w ∷ [])) word_cap
length_last ws w = more (length ws) ∙ ap (λ n. min n word_cap) (sym (length-append ws (w ∷ [])))
  where
    more : (n : ℕ) → min (min n word_cap + 1) word_cap ≡ min (n + 1) word_cap
    more n = omega arith

faulty_last : (ws : List (List ℕ)) (w : List ℕ) → any_of bad_word ws || wrong_word (word_of w) ≡ any_of bad_word (ws ++ w ∷ [])
faulty_last ws w = ap (λ t. any_of bad_word ws || t) (wrong_word_lem w) ∙ sym (any_last bad_word ws w)

-- ---- the three kinds of words
first_word : (w : List ℕ) → count_end (shape_of []) (word_of w) ≡ shape_of (w ∷ [])
first_word w = (λ i. record { words = 1; axes = axes_word w [] i; cells = p i; refused = q i; faulty = faulty_last [] w i })
  where
    none : length_words (w ∷ []) ≡ []
    none = take-nil (axis_count (w ∷ []))

    p : (shape_of []).cells ≡ min (factors (length_words (w ∷ []))) cell_cap
    p = ap (λ s. s.cells) (sym shape-none) ∙ ap (λ l. min (factors l) cell_cap) (sym none)

    q : (shape_of []).refused || out_word 1 3 (word_of w) ≡ word_outside 1 3 w || any_of (word_outside 1 longest_axis) (length_words (w ∷ []))
    q =
        ap (λ s. s.refused || out_word 1 3 (word_of w)) (sym shape-none)
        ∙ out_word_lem w 1 3 (omega arith) (omega arith) (omega arith)
        ∙ sym (or_none (word_outside 1 3 w))
        ∙ ap (λ l. word_outside 1 3 w || any_of (word_outside 1 longest_axis) l) (sym none)

module _ (c : List ℕ) (r : List (List ℕ)) (w : List ℕ) where
  pub same_axes : axis_count (c ∷ r) ≡ axis_count (c ∷ (r ++ w ∷ []))
  unfolding axis_count
  same_axes = refl

  length_word : length r < axis_count (c ∷ r) → length_end (shape_of (c ∷ r)) (word_of w) ≡ shape_of (c ∷ (r ++ w ∷ []))
  length_word h = (λ i. record { words = length_last (c ∷ r) w i; axes = same_axes i; cells = p i; refused = q i; faulty = faulty_last (c ∷ r) w i })
    where
      old : length_words (c ∷ r) ≡ r
      old = take_all (axis_count (c ∷ r)) r (omega arith)

      new : length_words (c ∷ (r ++ w ∷ [])) ≡ r ++ w ∷ []
      new = ap (λ k. take k (r ++ w ∷ [])) (sym same_axes) ∙ take_all (axis_count (c ∷ r)) (r ++ w ∷ []) (omega (arith, length-append r (w ∷ [])))

      p : cells_after (min (factors (length_words (c ∷ r))) cell_cap) (word_of w) ≡ min (factors (length_words (c ∷ (r ++ w ∷ [])))) cell_cap
      p =
          cells_word w (min (factors (length_words (c ∷ r))) cell_cap)
          ∙ cut_product (factors (length_words (c ∷ r))) (factor w)
          ∙ ap (λ l. min (factors l * factor w) cell_cap) old
          ∙ ap (λ k. min k cell_cap) (sym (factors-last r w))
          ∙ ap (λ l. min (factors l) cell_cap) (sym new)

      q : (shape_of (c ∷ r)).refused || out_word 1 longest_axis (word_of w) ≡ word_outside 1 3 c || any_of (word_outside 1 longest_axis) (length_words (c ∷ (r ++ w ∷ [])))
      q =
          ap (λ t. (shape_of (c ∷ r)).refused || t) (out_word_lem w 1 longest_axis (omega arith) (omega arith) (omega arith))
          ∙ or_assoc (word_outside 1 3 c) (any_of (word_outside 1 longest_axis) (length_words (c ∷ r))) (word_outside 1 longest_axis w)
          ∙ ap (λ l. word_outside 1 3 c || (any_of (word_outside 1 longest_axis) l || word_outside 1 longest_axis w)) old
          ∙ ap (λ t. word_outside 1 3 c || t) (sym (any_last (word_outside 1 longest_axis) r w))
          ∙ ap (λ l. word_outside 1 3 c || any_of (word_outside 1 longest_axis) l) (sym new)

  level_word : axis_count (c ∷ r) ≤ length r → level_end (shape_of (c ∷ r)) (word_of w) ≡ shape_of (c ∷ (r ++ w ∷ []))
  level_word h = (λ i. record {
    words = length_last (c ∷ r) w i;
    axes = same_axes i;
    cells = min (factors (same i)) cell_cap;
    refused = word_outside 1 3 c || any_of (word_outside 1 longest_axis) (same i);
    faulty = faulty_last (c ∷ r) w i;
  })
    where
      same : length_words (c ∷ r) ≡ length_words (c ∷ (r ++ w ∷ []))
      same = sym (ap (λ k. take k (r ++ w ∷ [])) (sym same_axes) ∙ take-append-le (axis_count (c ∷ r)) r (w ∷ []) h)

pub shape-more : (ws : List (List ℕ)) (w : List ℕ) → word_end (shape_of ws) (word_of w) ≡ shape_of (ws ++ w ∷ [])
unfolding word_end
shape-more [] w = first_word w
shape-more (c ∷ r) w =
    ap (λ t. cond t (count_end (shape_of (c ∷ r)) (word_of w))
    (cond (leb (min (suc (length r)) word_cap) (axis_count (c ∷ r))) (length_end (shape_of (c ∷ r)) (word_of w)) (level_end (shape_of (c ∷ r)) (word_of w))))
    (ne_eqb (min (suc (length r)) word_cap) 0 (some (length r)))
    ∙ go (ltb (length r) (axis_count (c ∷ r))) refl
  where
    some : (n : ℕ) → min (suc n) word_cap ≡ 0 → ⊥
    some n e = omega arith

    few : length r < axis_count (c ∷ r) → min (suc (length r)) word_cap ≤ axis_count (c ∷ r)
    few h = omega arith

    above : axis_count (c ∷ r) ≤ length r → axis_count (c ∷ r) ≤ 3 → axis_count (c ∷ r) < min (suc (length r)) word_cap
    above h l = omega arith

    go : (t : Bool) → ltb (length r) (axis_count (c ∷ r)) ≡ t
        → cond (leb (min (suc (length r)) word_cap) (axis_count (c ∷ r))) (length_end (shape_of (c ∷ r)) (word_of w)) (level_end (shape_of (c ∷ r)) (word_of w)) ≡ shape_of (c ∷ (r ++ w ∷ []))
    go true e =
        let h = ltb-true (length r) (axis_count (c ∷ r)) e in
        ap (λ t. cond t (length_end (shape_of (c ∷ r)) (word_of w)) (level_end (shape_of (c ∷ r)) (word_of w)))
        (le-leb (min (suc (length r)) word_cap) (axis_count (c ∷ r)) (few h))
        ∙ length_word c r w h
    go false e =
        let h = ltb-false (length r) (axis_count (c ∷ r)) e in
        ap (λ t. cond t (length_end (shape_of (c ∷ r)) (word_of w)) (level_end (shape_of (c ∷ r)) (word_of w)))
        (lt-leb (min (suc (length r)) word_cap) (axis_count (c ∷ r)) (above h (axes_most (c ∷ r))))
        ∙ level_word c r w h
