-- Levels written as lines at the front of a list, one line after another.
-- Assumes nothing.
use Prim.Native.Nat.{ℕ, suc, ◌+◌, ◌-◌, ◌*◌, ◌/◌, ◌≤◌, ◌<◌}
use native.Mathlib.Numerals.{add-one}
use native.Mathlib.Omega.{arith}
use mathlib.Core.Path.{◌≡◌, refl, sym, ap, ◌∙◌}
use mathlib.Core.List.{List, [], ◌∷◌, ◌++◌, append_assoc, append-nil}
use borrow.Author.Tests.{le-ltb}
use borrow.Rule.Slice.PartMut.{put_mid, post_of}
use lib.IntN.{ℤ, pos, negsuc}
use lib.ListN.{length, get_or, set, take, drop, length-append, length-drop, drop_of_length-le}
use lib.Seq.{take_all, take-suc, drop-cons, set-append_seam, take_at, drop_at, drop-drop}
use Rattle.text_spec.specs.Writing.{places_of, signed_text, written_in, written_count}
use Rattle.text_spec.proofs.Digits.{digits_length, places_most}
use Rattle.text_spec.proofs.Written.{all_from}
use Rattle.grid_text_spec.specs.Lines.{line_of, level_lines, lines_in, lines_count}

-- ---- one line
text_most : (z : ℤ) → length (signed_text z) ≤ 20
text_most (pos n) = omega (arith, digits_length 10 (places_of 18 n) n, places_most 18 n)
text_most (negsuc n) = omega (arith, digits_length 10 (places_of 18 (suc n)) (suc n), places_most 18 (suc n))

one_more_lem : (l : List ℕ) (x : ℕ) → length (l ++ x ∷ []) ≡ suc (length l)
one_more_lem l x = length-append l (x ∷ []) ∙ add-one (length l)

line-length : (z : ℤ) → length (line_of z) ≡ suc (length (signed_text z))
line-length z = one_more_lem (signed_text z) _

pub line_most : (z : ℤ) → length (line_of z) ≤ 21
line_most z = omega (arith, line-length z, text_most z)

-- a number at the front of a list, and a line feed behind it
module _ (z : ℤ) (l : List ℕ) (room : 21 ≤ length l) where
  enough : 20 ≤ length l
  enough = omega arith

  pub put_count : written_count (signed_text z) l ≡ length (signed_text z)
  put_count = rw (le-ltb (length l) 20 enough) refl

  put_text : written_in (signed_text z) l ≡ signed_text z ++ drop (length (signed_text z)) l
  put_text = rw (le-ltb (length l) 20 enough) refl

  pub put_line : (l' : List ℕ) (n : ℕ) → n ≡ written_count (signed_text z) l → l' ≡ written_in (signed_text z) l
      → (n + 1 ≡ length (line_of z)) × (set l' n 10 ≡ line_of z ++ drop (length (line_of z)) l)
  put_line l' n e f = (
    add-one n ∙ ap suc (e ∙ put_count) ∙ sym (line-length z),
    (λ i. set ((f ∙ put_text) i) ((e ∙ put_count) i) 10)
        ∙ ap (λ s. set (signed_text z ++ s) (length (signed_text z)) 10) (drop-cons l (length (signed_text z)) 0 (omega (arith, room, text_most z)))
        ∙ set-append_seam (signed_text z) (get_or l (length (signed_text z)) 0) (drop (suc (length (signed_text z))) l) 10
        ∙ sym (append_assoc (signed_text z) (10 ∷ []) (drop (suc (length (signed_text z))) l))
        ∙ ap (λ k. line_of z ++ drop k l) (sym (line-length z)),
  )

  pub put_place : (n : ℕ) → n ≡ written_count (signed_text z) l → n < length l
  put_place n e = omega (arith, room, e, put_count, text_most z)

-- ---- one line more
lines_append : (xs ys : List ℤ) → level_lines (xs ++ ys) ≡ level_lines xs ++ level_lines ys
lines_append [] ys = refl
lines_append (x ∷ xs) ys = ap (λ t. line_of x ++ t) (lines_append xs ys) ∙ sym (append_assoc (line_of x) (level_lines xs) (level_lines ys))

lines_next : (zs : List ℤ) (i : ℕ) (d : ℤ) → i < length zs → level_lines (take (i + 1) zs) ≡ level_lines (take i zs) ++ line_of (get_or zs i d)
lines_next zs i d h =
    ap (λ k. level_lines (take k zs)) (add-one i)
    ∙ ap level_lines (take-suc zs i d h)
    ∙ lines_append (take i zs) (get_or zs i d ∷ [])
    ∙ ap (λ t. level_lines (take i zs) ++ t) (append-nil (line_of (get_or zs i d)))

-- room for the line at place i
pub room_left : (n i at : ℕ) (out : List ℕ) → i < n → n ≤ length out / 21 → at ≤ 21 * i → 21 ≤ length (take (length out - at) (drop at out))
room_left n i at out h l b = rw (all_from at out) (omega (arith, length-drop at out))

module _ (levels : List ℤ) (out₀ out m : List ℕ) (at i n : ℕ) (d z : ℤ) (h : i < length levels) (a : at ≡ length (level_lines (take i levels)))
    (e : out ≡ level_lines (take i levels) ++ drop at out₀) (y : z ≡ get_or levels i d) (g : n ≡ length (line_of z)) where
  next : level_lines (take (i + 1) levels) ≡ level_lines (take i levels) ++ line_of z
  next = lines_next levels i d h ∙ ap (λ x. level_lines (take i levels) ++ line_of x) (sym y)

  pub more_count : at + n ≡ length (level_lines (take (i + 1) levels))
  more_count = (λ j. a j + g j) ∙ sym (length-append (level_lines (take i levels)) (line_of z)) ∙ ap length (sym next)

  pub more_most : at ≤ 21 * i → at + n ≤ 21 * (i + 1)
  more_most b = omega (arith, g, line_most z)

  pub more_lines : m ≡ line_of z ++ drop (length (line_of z)) (take (length out - at) (drop at out))
      → put_mid at (length out - at) out m ≡ level_lines (take (i + 1) levels) ++ drop (at + n) out₀
  more_lines f =
      (λ j. front j ++ (m ++ past j))
      ∙ ap (λ s. level_lines (take i levels) ++ s) (append-nil m ∙ f ∙ ap (λ s. line_of z ++ drop (length (line_of z)) s) (all_from at out ∙ rest)
      ∙ ap (λ s. line_of z ++ s) (drop-drop (length (line_of z)) at out₀))
      ∙ sym (append_assoc (level_lines (take i levels)) (line_of z) (drop (at + length (line_of z)) out₀))
      ∙ (λ j. sym next j ++ drop (at + sym g j) out₀)
    where
      front : take at out ≡ level_lines (take i levels)
      front = ap (take at) e ∙ take_at (level_lines (take i levels)) (drop at out₀) at (sym a)

      rest : drop at out ≡ drop at out₀
      rest = ap (drop at) e ∙ drop_at (level_lines (take i levels)) (drop at out₀) at (sym a)

      past : post_of at (length out - at) out ≡ []
      past = drop_of_length-le (drop at out) {i = length out - at} (omega (arith, length-drop at out))

-- ---- all lines
pub all_lines : (levels : List ℤ) (out₀ out : List ℕ) (at i : ℕ) → length levels ≤ i → length levels ≤ length out₀ / 21 → at ≡ length (level_lines (take i levels))
    → out ≡ level_lines (take i levels) ++ drop at out₀ → (at ≡ lines_count levels out₀) × (out ≡ lines_in levels out₀)
all_lines levels out₀ out at i h r a e =
    let t : take i levels ≡ levels = take_all i levels h in
    let b : at ≡ length (level_lines levels) = a ∙ ap (λ l. length (level_lines l)) t in
    rw (le-ltb (length out₀ / 21) (length levels) r) (b, e ∙ (λ j. level_lines (t j) ++ drop (b j) out₀))
