-- The shape of an accepted text.
-- Assumes nothing.
use Prim.Native.Nat.{ℕ, ◌≤◌, ◌<◌, min}
use native.Mathlib.Omega.{arith}
use mathlib.Core.Path.{◌≡◌, refl, ap, ◌∙◌}
use mathlib.Core.Bool.{false, ◌||◌}
use mathlib.Core.List.{List, [], ◌∷◌, map}
use borrow.Author.Tests.{le-ltb}
use lib.Dec.{ltb}
use lib.ListN.{length}
use Rattle.numbers.specs.Limits.{longest_axis, most_cells}
use Rattle.numbers.specs.Lists.{any_of}
use Rattle.numbers.specs.Ranges.{outside}
use Rattle.numbers.specs.Refusal.{refusal_of}
use Rattle.numbers.proofs.Chain.{judged-all}
use Rattle.numbers.proofs.Tests.{or_false, or_no}
use Rattle.array_spec.specs.Conditions.{bad_shape}
use Rattle.array_spec.specs.Grid.{cell_count}
use Rattle.grid_text_spec.specs.Words.{not_number, word_size, bad_word, word_outside, count_word, axis_count, length_words, text_lengths, bad_cell_count, words_judged}
use Rattle.grid_text_spec.specs.Machine.{cell_cap}
use Rattle.grid_text_spec.proofs.Summary.{good_size}
use Rattle.grid_text_spec.proofs.Shapes.{shape_of}
use Rattle.grid_text_spec.proofs.Verdict.{factors-whole, all-numbers}
use Rattle.grid_text_spec.proofs.Grids.{sound, counted, no_more, lengths_count}

inside : (lo hi n : ℕ) → lo ≤ n → n ≤ hi → outside lo hi n ≡ false
inside lo hi n h l = or_no (ltb n lo) (ltb hi n) (le-ltb n lo h) (le-ltb hi n l)

good_lengths : (ws : List (List ℕ)) → any_of not_number ws ≡ false → any_of (word_outside 1 longest_axis) ws ≡ false → any_of (outside 1 longest_axis) (map word_size ws) ≡ false
good_lengths [] e f = refl
good_lengths (w ∷ ws) e f =
    let p = or_false (not_number w) (any_of not_number ws) e in
    let q = or_false (word_outside 1 longest_axis w) (any_of (word_outside 1 longest_axis) ws) f in
    let g = good_size w 1 longest_axis (omega arith) (omega arith) (omega arith) p.0 q.0 in
    or_no (outside 1 longest_axis (word_size w)) (any_of (outside 1 longest_axis) (map word_size ws)) (inside 1 longest_axis (word_size w) g.1 g.2) (good_lengths ws p.1 q.1)

-- a count that is accepted is 1 to 3
axes_good : (ws : List (List ℕ)) → not_number (count_word ws) ≡ false → word_outside 1 3 (count_word ws) ≡ false → (1 ≤ axis_count ws) × (axis_count ws ≤ 3)
unfolding axis_count
axes_good ws e f =
    let g = good_size (count_word ws) 1 3 (omega arith) (omega arith) (omega arith) e f in
    rw (e, f) (g.1, g.2)

first-number : (ws : List (List ℕ)) → any_of bad_word ws ≡ false → 0 < length ws → not_number (count_word ws) ≡ false
unfolding bad_word
first-number [] e h = absurd (no h)
  where
    no : 0 < 0 → ⊥
    no h = omega arith
first-number (w ∷ ws) e h = (or_false (not_number w) _ (or_false (bad_word w) (any_of bad_word ws) e).0).0

module _ (ws : List (List ℕ)) (z : refusal_of (words_judged ws) ≡ 0) where
  parts : (word_outside 1 3 (count_word ws) || any_of (word_outside 1 longest_axis) (length_words ws) ≡ false) × (bad_cell_count ws ≡ false)
  parts = or_false (word_outside 1 3 (count_word ws) || any_of (word_outside 1 longest_axis) (length_words ws)) (bad_cell_count ws) (judged-all (words_judged ws) (tt, (tt, tt)) z).0

  pub shape_good : bad_shape (text_lengths ws) ≡ false
  unfolding bad_shape
  shape_good =
      let p = or_false (word_outside 1 3 (count_word ws)) (any_of (word_outside 1 longest_axis) (length_words ws)) parts.0 in
      let a = axes_good ws (first-number ws (sound ws z) (omega (arith, counted ws z))) p.0 in
      or_no (outside 1 3 (length (text_lengths ws)) || any_of (outside 1 longest_axis) (text_lengths ws)) (ltb most_cells (cell_count (text_lengths ws)))
      (or_no (outside 1 3 (length (text_lengths ws))) (any_of (outside 1 longest_axis) (text_lengths ws))
      (ap (outside 1 3) (lengths_count ws z) ∙ inside 1 3 (axis_count ws) a.0 a.1) (good_lengths (length_words ws) (all-numbers ws (sound ws z)) p.1))
      (le-ltb most_cells (cell_count (text_lengths ws)) (no_more ws z))

  -- the product that the machine keeps is whole
  pub cells_whole : (shape_of ws).cells ≡ cell_count (text_lengths ws)
  cells_whole =
      let p = or_false (word_outside 1 3 (count_word ws)) (any_of (word_outside 1 longest_axis) (length_words ws)) parts.0 in
      ap (λ n. min n cell_cap) (factors-whole (length_words ws) (all-numbers ws (sound ws z)) p.1) ∙ uncut (cell_count (text_lengths ws)) (no_more ws z)
    where
      uncut : (n : ℕ) → n ≤ most_cells → min n cell_cap ≡ n
      uncut n h = omega arith
