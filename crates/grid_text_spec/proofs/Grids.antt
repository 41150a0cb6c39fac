-- A text that is accepted leaves its lengths and its levels in what is lent.
-- Assumes nothing.
use Prim.Native.Nat.{ℕ, suc, ◌+◌, ◌-◌, ◌*◌, ◌^◌, ◌≤◌, ◌<◌}
use native.Mathlib.Nat.{pow-le-pow_right, pow-suc, lt_of_lt_of_le}
use native.Mathlib.Omega.{arith}
use mathlib.Core.Path.{◌≡◌, refl, sym, ap, ◌∙◌}
use mathlib.Core.Bool.{Bool, true, false, not, ◌&&◌, ◌||◌, cond}
use mathlib.Core.List.{List, [], ◌∷◌, ◌++◌, map, append-nil}
use borrow.Author.Tests.{ltb-false, leb-false, lt-ltb, eqb-true, not-false}
use lib.Dec.{eqb, ltb}
use lib.IntN.{ℤ, pos, neg_ℤ}
use lib.Seq.{take-nil, drop-nil}
use lib.ListN.{length, drop, length-append, length-take, length-drop, length-map}
use Rattle.numbers.specs.Limits.{longest_axis, most_cells}
use Rattle.numbers.specs.Lists.{any_of, Every}
use Rattle.numbers.specs.Refusal.{refusal_of}
use Rattle.numbers.proofs.Any.{any_none, every_take, every_drop}
use Rattle.numbers.proofs.Chain.{judged-all}
use Rattle.numbers.proofs.Tests.{or_false}
use Rattle.text_spec.specs.Reading.{digit_of, no_digit, value_of}
use Rattle.array_spec.specs.Grid.{cell_count}
use Rattle.grid_text_spec.specs.Words.{gap_byte, filled_pieces, text_words, most_digits, minus_first, body_of, not_number, word_size, word_value, bad_word, word_outside}
use Rattle.grid_text_spec.specs.Words.{count_word, axis_count, length_words, level_words, text_lengths, text_levels, bad_cell_count, words_judged, text_judged}
use Rattle.grid_text_spec.specs.Machine.{size_cap, word_cap, capped, is_empty, stored_level, lengths_after, levels_after, start_state, Machine, machine, byte_fed, fed}
use Rattle.grid_text_spec.proofs.Summary.{word_of, filled_word}
use Rattle.grid_text_spec.proofs.Shapes.{shape_of, axes_most}
use Rattle.grid_text_spec.proofs.Verdict.{all-numbers}
use Rattle.grid_text_spec.proofs.Lexed.{state_of, words_left, gap_empty, gap_word, byte_more, left_gap_empty, left_gap_word, left_byte, on_none, start_none}
use Rattle.grid_text_spec.proofs.Filled.{front, sizes_held, levels_held, lengths_in, levels_in, lengths_more, levels-more}

-- ---- a number of up to 18 digits is kept whole
below_ten : (x : ℕ) → no_digit 10 x ≡ false → digit_of x < 10
below_ten x e = leb-false 10 (digit_of x) e

within : (t : List ℕ) (n j : ℕ) → n < 10 ^ j → j + length t ≤ most_digits → any_of (no_digit 10) t ≡ false → value_of 10 n t < size_cap
within [] n j h l e = lt_of_lt_of_le h (pow-le-pow_right {n = 10} (omega arith) {i = j} {j = most_digits} (omega arith))
within (x ∷ t) n j h l e =
    let p = or_false (no_digit 10 x) (any_of (no_digit 10) t) e in
    let d = below_ten x p.0 in
    within t (n * 10 + digit_of x) (suc j) (omega (arith, pow-suc 10 j)) (omega arith) p.1

short : (w : List ℕ) → bad_word w ≡ false → word_size w < size_cap
unfolding bad_word not_number
short w e =
    let p = or_false (any_of (no_digit 10) (body_of w) || eqb (length (body_of w)) 0) (ltb most_digits (length (body_of w))) e in
    let q = or_false (any_of (no_digit 10) (body_of w)) (eqb (length (body_of w)) 0) p.0 in
    let l = ltb-false most_digits (length (body_of w)) p.1 in
    within (body_of w) 0 0 (omega arith) (omega arith) q.0

whole_size : (w : List ℕ) → bad_word w ≡ false → capped (word_size w) ≡ word_size w
whole_size w e = let h = short w e in omega arith

whole-level : (w : List ℕ) → bad_word w ≡ false → stored_level (word_of w) ≡ word_value w
whole-level w e = ap (λ n. cond (minus_first w) (neg_ℤ (pos n)) (pos n)) (twice (word_size w) ∙ whole_size w e)
  where
    twice : (n : ℕ) → capped (capped n) ≡ capped n
    twice n = omega arith

map_same : {A B : Type 0} (f g : A → B) (P : A → Type 0) (l : List A) → ((x : A) → P x → f x ≡ g x) → Every P l → map f l ≡ map g l
map_same f g P [] h e = refl
map_same f g P (x ∷ l) h e = (λ i. h x e.0 i ∷ map_same f g P l h e.1 i)

same_count : (ws : List (List ℕ)) (w : List ℕ) (rest : List (List ℕ)) → axis_count (ws ++ w ∷ []) ≡ axis_count ((ws ++ w ∷ []) ++ rest)
unfolding axis_count
same_count [] w rest = refl
same_count (c ∷ r) w rest = refl

-- ---- fed to the end and one line feed more, where there is room
module _ (l : List ℕ) (v : List ℤ) (room : 3 ≤ length l) where
  abbrev holding : List (List ℕ) → List ℕ → Machine
  holding ws w = machine (state_of ws w) (lengths_in l v room ws) (levels_in l v room ws)

  gap_kept : (ws : List (List ℕ)) (x : ℕ) → gap_byte x ≡ true → byte_fed (holding ws []) x ≡ holding ws []
  unfolding byte_fed
  gap_kept ws x e =
      (λ i. machine (gap_empty ws x e i)
      (stays (lengths_in l v room ws) (lengths_after (shape_of ws) (word_of []) (lengths_in l v room ws)) (gap_byte x) i)
      (stays (levels_in l v room ws) (levels_after (shape_of ws) (word_of []) (levels_in l v room ws)) (gap_byte x) i))
    where
      stays : {A : Type 0} (a b : A) (t : Bool) → cond (t && false) b a ≡ a
      stays a b true = refl
      stays a b false = refl

  byte_on : (ws : List (List ℕ)) (w : List ℕ) (x : ℕ) → gap_byte x ≡ false → byte_fed (holding ws w) x ≡ holding ws (w ++ x ∷ [])
  unfolding byte_fed
  byte_on ws w x e =
      (λ i. machine (byte_more ws w x e i)
      (cond (e i && not (is_empty (word_of w))) (lengths_after (shape_of ws) (word_of w) (lengths_in l v room ws)) (lengths_in l v room ws))
      (cond (e i && not (is_empty (word_of w))) (levels_after (shape_of ws) (word_of w) (levels_in l v room ws)) (levels_in l v room ws)))

  word_ends : (ws : List (List ℕ)) (y : ℕ) (u : List ℕ) (x : ℕ) → gap_byte x ≡ true → length (ws ++ (y ∷ u) ∷ []) ≤ word_cap
      → length (ws ++ (y ∷ u) ∷ []) ≤ 1 + axis_count (ws ++ (y ∷ u) ∷ []) + length v → byte_fed (holding ws (y ∷ u)) x ≡ holding (ws ++ (y ∷ u) ∷ []) []
  unfolding byte_fed
  word_ends ws y u x e a b = (λ i. machine (gap_word ws y u x e i) (p i) (q i))
    where
      p : cond (gap_byte x && not (is_empty (word_of (y ∷ u)))) (lengths_after (shape_of ws) (word_of (y ∷ u)) (lengths_in l v room ws)) (lengths_in l v room ws) ≡ lengths_in l v room (ws ++ (y ∷ u) ∷ [])
      p =
          (λ i. cond (e i && not (filled_word y u i)) (lengths_after (shape_of ws) (word_of (y ∷ u)) (lengths_in l v room ws)) (lengths_in l v room ws))
          ∙ lengths_more l v room ws (y ∷ u)

      q : cond (gap_byte x && not (is_empty (word_of (y ∷ u)))) (levels_after (shape_of ws) (word_of (y ∷ u)) (levels_in l v room ws)) (levels_in l v room ws) ≡ levels_in l v room (ws ++ (y ∷ u) ∷ [])
      q =
          (λ i. cond (e i && not (filled_word y u i)) (levels_after (shape_of ws) (word_of (y ∷ u)) (levels_in l v room ws)) (levels_in l v room ws))
          ∙ levels-more l v room ws (y ∷ u) a b

  -- all words of the text
  module _ (all : List (List ℕ)) (few : length all ≤ word_cap) (fits : length all ≤ 1 + axis_count all + length v) where
    -- words that ended are the first of all
    starts_few : (ws rest : List (List ℕ)) → ws ++ rest ≡ all → length ws ≤ word_cap
    starts_few ws rest e = omega (arith, few, ap length e, length-append ws rest)

    starts_fit : (ws : List (List ℕ)) (w : List ℕ) (rest : List (List ℕ)) → (ws ++ w ∷ []) ++ rest ≡ all → length (ws ++ w ∷ []) ≤ 1 + axis_count (ws ++ w ∷ []) + length v
    starts_fit ws w rest e = omega (arith, fits, ap length e, length-append (ws ++ w ∷ []) rest, ap axis_count e, same_count ws w rest)

    abbrev Ends : List ℕ → Type 0
    Ends t = (ws : List (List ℕ)) (w : List ℕ) → words_left ws w t ≡ all → fed (holding ws w) (t ++ 10 ∷ []) ≡ holding all []

    last : Ends []
    last ws [] e = gap_kept ws 10 refl ∙ ap (λ s. holding s []) (sym (append-nil ws) ∙ e)
    last ws (y ∷ u) e =
        word_ends ws y u 10 refl (starts_few (ws ++ (y ∷ u) ∷ []) [] f) (starts_fit ws (y ∷ u) [] f) ∙ ap (λ s. holding s []) (sym (append-nil (ws ++ (y ∷ u) ∷ [])) ∙ f)
      where
        f : (ws ++ (y ∷ u) ∷ []) ++ [] ≡ all
        f = append-nil (ws ++ (y ∷ u) ∷ []) ∙ ap (λ q. ws ++ (y ∷ q) ∷ []) (sym (append-nil u)) ∙ e

    more : (x : ℕ) (t : List ℕ) → Ends t → Ends (x ∷ t)
    more x t ih ws w e = go (gap_byte x) refl w e
      where
        go : (b : Bool) → gap_byte x ≡ b → (w : List ℕ) → words_left ws w (x ∷ t) ≡ all → fed (byte_fed (holding ws w) x) (t ++ 10 ∷ []) ≡ holding all []
        go true p [] e = ap (λ m. fed m (t ++ 10 ∷ [])) (gap_kept ws x p) ∙ ih ws [] (left_gap_empty ws x t p ∙ e)
        go true p (y ∷ u) e =
            let f = left_gap_word ws y u x t p ∙ e in
            ap (λ m. fed m (t ++ 10 ∷ [])) (word_ends ws y u x p (starts_few (ws ++ (y ∷ u) ∷ []) _ f) (starts_fit ws (y ∷ u) _ f)) ∙ ih (ws ++ (y ∷ u) ∷ []) [] f
        go false p w e = ap (λ m. fed m (t ++ 10 ∷ [])) (byte_on ws w x p) ∙ ih ws (w ++ x ∷ []) (left_byte ws w x t p ∙ e)

    ended : (t : List ℕ) → Ends t
    ended [] = last
    ended (x ∷ t) = more x t (ended t)

-- ---- a text that is accepted
module _ (ws : List (List ℕ)) (z : refusal_of (words_judged ws) ≡ 0) where
  pub sound : any_of bad_word ws ≡ false
  sound = (or_false (any_of bad_word ws) _ (judged-all (words_judged ws) (tt, (tt, tt)) z).1.0).0

  pub counted : length ws ≡ 1 + axis_count ws + cell_count (text_lengths ws)
  counted = let e = (or_false (any_of bad_word ws) _ (judged-all (words_judged ws) (tt, (tt, tt)) z).1.0).1 in eqb-true (length ws) (1 + axis_count ws + cell_count (text_lengths ws)) (not-false _ e)

  pub no_more : cell_count (text_lengths ws) ≤ most_cells
  no_more = ltb-false most_cells (cell_count (text_lengths ws)) (sym (both there (all-numbers ws sound)) ∙ within_most)
    where
      within_most : ltb (axis_count ws) (length ws) && not (any_of not_number (length_words ws)) && ltb most_cells (cell_count (text_lengths ws)) ≡ false
      within_most = (or_false (word_outside 1 3 (count_word ws) || any_of (word_outside 1 longest_axis) (length_words ws)) (bad_cell_count ws) (judged-all (words_judged ws) (tt, (tt, tt)) z).0).1

      there : ltb (axis_count ws) (length ws) ≡ true
      there = lt-ltb (axis_count ws) (length ws) (omega (arith, counted))

      both : ltb (axis_count ws) (length ws) ≡ true → any_of not_number (length_words ws) ≡ false
          → ltb (axis_count ws) (length ws) && not (any_of not_number (length_words ws)) && ltb most_cells (cell_count (text_lengths ws)) ≡ ltb most_cells (cell_count (text_lengths ws))
      both a b = (λ i. a i && not (b i) && ltb most_cells (cell_count (text_lengths ws)))

  each : Every (λ w. bad_word w ≡ false) (drop 1 ws)
  each = every_drop (λ w. bad_word w ≡ false) ws 1 (any_none bad_word ws sound)

  rest_length : length (drop 1 ws) ≡ axis_count ws + cell_count (text_lengths ws)
  rest_length = omega (arith, length-drop 1 ws, counted)

  lengths_are : sizes_held (length_words ws) ≡ text_lengths ws
  lengths_are = map_same _ word_size (λ w. bad_word w ≡ false) (length_words ws) whole_size (every_take (λ w. bad_word w ≡ false) (drop 1 ws) (axis_count ws) each)

  levels_are : levels_held (level_words ws) ≡ text_levels ws
  levels_are = map_same _ word_value (λ w. bad_word w ≡ false) (level_words ws) whole-level (every_drop (λ w. bad_word w ≡ false) (drop 1 ws) (axis_count ws) each)

  pub lengths_count : length (text_lengths ws) ≡ axis_count ws
  lengths_count = length-map (length_words ws) word_size ∙ length-take (axis_count ws) (drop 1 ws) ∙ omega (arith, rest_length)

  pub levels_count : length (text_levels ws) ≡ cell_count (text_lengths ws)
  levels_count = length-map (level_words ws) word_value ∙ length-drop (axis_count ws) (drop 1 ws) ∙ omega (arith, rest_length)

pub text_grid : (l : List ℕ) (v : List ℤ) (t : List ℕ) → 3 ≤ length l → most_cells ≤ length v → refusal_of (text_judged t) ≡ 0
    → ((fed (machine start_state l v) (t ++ 10 ∷ [])).lengths ≡ text_lengths (text_words t) ++ drop (axis_count (text_words t)) l)
    × ((fed (machine start_state l v) (t ++ 10 ∷ [])).levels ≡ text_levels (text_words t) ++ drop (cell_count (text_lengths (text_words t))) v)
    × ((fed (machine start_state l v) (t ++ 10 ∷ [])).state.shape ≡ shape_of (text_words t))
text_grid l v t a b z = (ap (λ m. m.lengths) whole ∙ p, ap (λ m. m.levels) whole ∙ q, ap (λ m. m.state.shape) whole)
  where
    begun : machine start_state l v ≡ holding l v a [] []
    begun = (λ i. machine (start_none i) (front (sizes_held (sym (take-nil {A = List ℕ} (axis_count [])) i)) l) (front (levels_held (sym (drop-nil {A = List ℕ} (axis_count [])) i)) v))

    whole : fed (machine start_state l v) (t ++ 10 ∷ []) ≡ holding l v a (text_words t) []
    whole =
        ap (λ m. fed m (t ++ 10 ∷ [])) begun
        ∙ ended l v a (text_words t) (omega (arith, counted (text_words t) z, no_more (text_words t) z, axes_most (text_words t)))
        (omega (arith, counted (text_words t) z, no_more (text_words t) z)) t [] [] (ap filled_pieces (on_none t))

    p : lengths_in l v a (text_words t) ≡ text_lengths (text_words t) ++ drop (axis_count (text_words t)) l
    p = ap (λ s. front s l) (lengths_are (text_words t) z) ∙ ap (λ n. text_lengths (text_words t) ++ drop n l) (lengths_count (text_words t) z)

    q : levels_in l v a (text_words t) ≡ text_levels (text_words t) ++ drop (cell_count (text_lengths (text_words t))) v
    q = ap (λ s. front s v) (levels_are (text_words t) z) ∙ ap (λ n. text_levels (text_words t) ++ drop n v) (levels_count (text_words t) z)
