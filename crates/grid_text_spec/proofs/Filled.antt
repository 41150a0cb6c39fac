-- What is lent, word by word: the sizes of the lengths' words from the front on, and the levels of the others.
-- Assumes nothing.
use Prim.Native.Nat.{ℕ, suc, ◌+◌, ◌-◌, ◌≤◌, ◌<◌, min}
use native.Mathlib.Numerals.{add-one}
use native.Mathlib.Omega.{arith}
use mathlib.Core.Path.{◌≡◌, refl, sym, ap, ◌∙◌}
use mathlib.Core.Bool.{Bool, true, false, ◌||◌, cond}
use mathlib.Core.List.{List, [], ◌∷◌, ◌++◌, map, map-append, append_assoc}
use borrow.Author.Tests.{lt-ltb, le-ltb, le-leb, lt-leb, ltb-true, ltb-false, ne_eqb}
use lib.Dec.{ltb, leb}
use lib.IntN.{ℤ}
use lib.ListN.{length, set, take, drop, length-append, length-drop, length-map, drop_of_length-le}
use lib.Seq.{take-nil, drop-nil, take_all, take-append-le, drop-append-le, drop-cons, set_at}
use Rattle.grid_text_spec.specs.Words.{word_size, axis_count, length_words, level_words}
use Rattle.grid_text_spec.specs.Machine.{word_cap, capped, stored_level, lengths_after, levels_after}
use Rattle.grid_text_spec.proofs.Summary.{word_of}
use Rattle.grid_text_spec.proofs.Shapes.{shape_of, axes_most, same_axes}

-- members at the front of what was held
abbrev pub front : {A : Type 0} → List A → List A → List A
front xs held = xs ++ drop (length xs) held

-- one member more
front-set : {A : Type 0} (xs held : List A) (a : A) (k : ℕ) → k ≡ length xs → k < length held → set (front xs held) k a ≡ front (xs ++ a ∷ []) held
front-set xs held a k e h =
    ap (λ t. set (xs ++ t) k a) (drop-cons held (length xs) a (omega arith))
    ∙ set_at xs _ (drop (suc (length xs)) held) a k (sym e)
    ∙ ap (λ n. xs ++ a ∷ drop n held) (sym (add-one (length xs)) ∙ sym (length-append xs (a ∷ [])))
    ∙ sym (append_assoc xs (a ∷ []) (drop (length (xs ++ a ∷ [])) held))

abbrev pub sizes_held : List (List ℕ) → List ℕ
sizes_held ws = map (λ w. capped (word_size w)) ws

abbrev pub levels_held : List (List ℕ) → List ℤ
levels_held ws = map (λ w. stored_level (word_of w)) ws

module _ (l : List ℕ) (v : List ℤ) (room : 3 ≤ length l) where
  abbrev pub lengths_in : List (List ℕ) → List ℕ
  lengths_in ws = front (sizes_held (length_words ws)) l

  abbrev pub levels_in : List (List ℕ) → List ℤ
  levels_in ws = front (levels_held (level_words ws)) v

  some : (n : ℕ) → min (suc n) word_cap ≡ 0 → ⊥
  some n e = omega arith

  pub lengths_more : (ws : List (List ℕ)) (w : List ℕ) → lengths_after (shape_of ws) (word_of w) (lengths_in ws) ≡ lengths_in (ws ++ w ∷ [])
  unfolding lengths_after
  lengths_more [] w = ap (λ s. front (sizes_held s) l) (take-nil (axis_count []) ∙ sym (take-nil (axis_count (w ∷ []))))
  lengths_more (c ∷ r) w =
      ap (λ t. cond (t || ltb (axis_count (c ∷ r)) (min (suc (length r)) word_cap)) (lengths_in (c ∷ r)) (set (lengths_in (c ∷ r)) (min (suc (length r)) word_cap - 1) (capped (word_size w))))
      (ne_eqb (min (suc (length r)) word_cap) 0 (some (length r)))
      ∙ go (ltb (length r) (axis_count (c ∷ r))) refl (axes_most (c ∷ r))
    where
      go : (t : Bool) → ltb (length r) (axis_count (c ∷ r)) ≡ t → axis_count (c ∷ r) ≤ 3
          → cond (ltb (axis_count (c ∷ r)) (min (suc (length r)) word_cap)) (lengths_in (c ∷ r)) (set (lengths_in (c ∷ r)) (min (suc (length r)) word_cap - 1) (capped (word_size w)))
          ≡ lengths_in (c ∷ (r ++ w ∷ []))
      go true e m =
          let h = ltb-true (length r) (axis_count (c ∷ r)) e in
          ap (λ t. cond t (lengths_in (c ∷ r)) (set (lengths_in (c ∷ r)) (min (suc (length r)) word_cap - 1) (capped (word_size w))))
          (le-ltb (axis_count (c ∷ r)) (min (suc (length r)) word_cap) (omega arith))
          ∙ ap (λ s. set (front (sizes_held s) l) (min (suc (length r)) word_cap - 1) (capped (word_size w))) (take_all (axis_count (c ∷ r)) r (omega arith))
          ∙ front-set (sizes_held r) l (capped (word_size w)) (min (suc (length r)) word_cap - 1) (place (length r) h m ∙ sym (length-map r (λ w. capped (word_size w)))) (inside (length r) h m)
          ∙ ap (λ s. front s l) (sym (map-append (λ w. capped (word_size w)) r (w ∷ [])))
          ∙ ap (λ s. front (sizes_held s) l)
          (sym (ap (λ k. take k (r ++ w ∷ [])) (sym (same_axes c r w)) ∙ take_all (axis_count (c ∷ r)) (r ++ w ∷ []) (omega (arith, length-append r (w ∷ [])))))
        where
          place : (n : ℕ) → n < axis_count (c ∷ r) → axis_count (c ∷ r) ≤ 3 → min (suc n) word_cap - 1 ≡ n
          place n h m = omega arith

          inside : (n : ℕ) → n < axis_count (c ∷ r) → axis_count (c ∷ r) ≤ 3 → min (suc n) word_cap - 1 < length l
          inside n h m = omega (arith, room)
      go false e m =
          let h = ltb-false (length r) (axis_count (c ∷ r)) e in
          ap (λ t. cond t (lengths_in (c ∷ r)) (set (lengths_in (c ∷ r)) (min (suc (length r)) word_cap - 1) (capped (word_size w))))
          (lt-ltb (axis_count (c ∷ r)) (min (suc (length r)) word_cap) (omega arith))
          ∙ ap (λ s. front (sizes_held s) l) (sym (ap (λ k. take k (r ++ w ∷ [])) (sym (same_axes c r w)) ∙ take-append-le (axis_count (c ∷ r)) r (w ∷ []) h))

  pub levels-more : (ws : List (List ℕ)) (w : List ℕ) → length (ws ++ w ∷ []) ≤ word_cap → length (ws ++ w ∷ []) ≤ 1 + axis_count (ws ++ w ∷ []) + length v
      → levels_after (shape_of ws) (word_of w) (levels_in ws) ≡ levels_in (ws ++ w ∷ [])
  unfolding levels_after
  levels-more [] w a b =
      ap (λ t. cond t (levels_in []) (set (levels_in []) (0 - 1 - axis_count []) (stored_level (word_of w)))) (le-leb 0 (axis_count []) (omega arith))
      ∙ ap (λ s. front (levels_held s) v) (drop-nil (axis_count []) ∙ sym (drop-nil (axis_count (w ∷ []))))
  levels-more (c ∷ r) w a b = go (ltb (length r) (axis_count (c ∷ r))) refl (axes_most (c ∷ r))
    where
      long : length (r ++ w ∷ []) ≡ length r + 1
      long = length-append r (w ∷ [])

      go : (t : Bool) → ltb (length r) (axis_count (c ∷ r)) ≡ t → axis_count (c ∷ r) ≤ 3
          → cond (leb (min (suc (length r)) word_cap) (axis_count (c ∷ r))) (levels_in (c ∷ r)) (set (levels_in (c ∷ r)) (min (suc (length r)) word_cap - 1 - axis_count (c ∷ r)) (stored_level (word_of w)))
          ≡ levels_in (c ∷ (r ++ w ∷ []))
      go true e m =
          let h = ltb-true (length r) (axis_count (c ∷ r)) e in
          ap (λ t. cond t (levels_in (c ∷ r)) (set (levels_in (c ∷ r)) (min (suc (length r)) word_cap - 1 - axis_count (c ∷ r)) (stored_level (word_of w))))
          (le-leb (min (suc (length r)) word_cap) (axis_count (c ∷ r)) (omega arith))
          ∙ ap (λ s. front (levels_held s) v) (drop_of_length-le r {i = axis_count (c ∷ r)} (omega arith))
          ∙ ap (λ s. front (levels_held s) v)
          (sym (ap (λ k. drop k (r ++ w ∷ [])) (sym (same_axes c r w)) ∙ drop_of_length-le (r ++ w ∷ []) {i = axis_count (c ∷ r)} (omega (arith, long))))
      go false e m =
          let h = ltb-false (length r) (axis_count (c ∷ r)) e in
          ap (λ t. cond t (levels_in (c ∷ r)) (set (levels_in (c ∷ r)) (min (suc (length r)) word_cap - 1 - axis_count (c ∷ r)) (stored_level (word_of w))))
          (lt-leb (min (suc (length r)) word_cap) (axis_count (c ∷ r)) (omega arith))
          ∙ front-set (levels_held (drop (axis_count (c ∷ r)) r)) v (stored_level (word_of w)) (min (suc (length r)) word_cap - 1 - axis_count (c ∷ r))
          (place h ∙ sym (length-map (drop (axis_count (c ∷ r)) r) (λ w. stored_level (word_of w)) ∙ length-drop (axis_count (c ∷ r)) r)) (inside h)
          ∙ ap (λ s. front s v) (sym (map-append (λ w. stored_level (word_of w)) (drop (axis_count (c ∷ r)) r) (w ∷ [])))
          ∙ ap (λ s. front (levels_held s) v)
          (sym (ap (λ k. drop k (r ++ w ∷ [])) (sym (same_axes c r w)) ∙ drop-append-le (axis_count (c ∷ r)) r (w ∷ []) h))
        where
          place : axis_count (c ∷ r) ≤ length r → min (suc (length r)) word_cap - 1 - axis_count (c ∷ r) ≡ length r - axis_count (c ∷ r)
          place h = omega (arith, long, a)

          inside : axis_count (c ∷ r) ≤ length r → min (suc (length r)) word_cap - 1 - axis_count (c ∷ r) < length v
          inside h = omega (arith, long, a, b, same_axes c r w)
