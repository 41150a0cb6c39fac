-- Targets rise with the cells: of two cells of a grid the later one stands later in the padded grid too. So the places between the target of one row and that of the
-- next are not in the middle, and a row's target ends where the cells of the next rows have not begun.
-- Assumes nothing.
use mathlib.Core.Path.{◌≡◌, refl, sym, ap, ◌∙◌}
use mathlib.Core.Bool.{Bool, true, false}
use mathlib.Core.List.{List, [], ◌∷◌}
use Prim.Native.Nat.{ℕ, zero, suc, ◌+◌, ◌-◌, ◌*◌, ◌≤◌, ◌<◌, zero-le, suc-le-suc}
use native.Mathlib.Nat.{add-mul, mul-le-mul, le_refl}
use native.Mathlib.Omega.{arith}
use borrow.Author.Tests.{ltb-true, ltb-false}
use lib.Dec.{ltb}
use lib.ListN.{length, get_or}
use Rattle.array_spec.specs.Grid.{cell_count, place_of, coordinate}
use Rattle.array_spec.proofs.Places.{Within, length_pos, place_lt, coordinate_within, place_coordinate}
use Rattle.pad_spec.specs.Pads.{middle_from}
use Rattle.pad_spec.specs.Frame.{Framed, target_of, row_length}
use Rattle.pad_spec.proofs.Room.{grid_accepted}
use Rattle.pad_middle.proofs.Targets.{source_of, framed_at, framed_within, source_lt, target_source}
use Rattle.pad_middle.proofs.Row.{target_row}

-- two numbers of a leading digit and a rest, in two bases: the leading digits decide, or where they are equal the rests
digits_rise : (x y d r s c u v e : ℕ) → r < c → s < c → u < e → x * c + r < y * c + s → (r < s → u < v) → (d + x) * e + u < (d + y) * e + v
digits_rise x y d r s c u v e hr hs hu h f = go (ltb x y) refl (ltb y x) refl
  where
    go : (t : Bool) → ltb x y ≡ t → (w : Bool) → ltb y x ≡ w → (d + x) * e + u < (d + y) * e + v
    go true p w q = omega (arith, mul-le-mul (more (ltb-true x y p)) (le_refl e), add-mul (d + x) 1 e)
      where
        more : x < y → d + x + 1 ≤ d + y
        more l = omega arith
    go false p true q = absurd (omega (arith, mul-le-mul (ltb-true y x q) (le_refl c), add-mul y 1 c))
    go false p false q = let z : x ≡ y = omega (arith, ltb-false x y p, ltb-false y x q) in
        omega (arith, ap (λ n. n * c) z, ap (λ n. (d + n) * e) z, f (omega (arith, ap (λ n. n * c) z)))

place_rises : (ns ps : List ℕ) (d p q : ℕ → ℕ) → length ps ≡ length ns → Within ns p → Within ns q → Within ps (λ a. d a + p a) → place_of ns p < place_of ns q
    → place_of ps (λ a. d a + p a) < place_of ps (λ a. d a + q a)
unfolding place_of
place_rises [] ps d p q e hp hq hr h = absurd (omega arith)
place_rises (n ∷ ns) [] d p q e hp hq hr h = absurd (omega arith)
place_rises (n ∷ ns) (m ∷ ps) d p q e hp hq hr h =
    digits_rise (p 0) (q 0) (d 0) (place_of ns p') (place_of ns q') (cell_count ns) (place_of ps (λ a. d' a + p' a)) (place_of ps (λ a. d' a + q' a)) (cell_count ps)
    (place_lt ns p' within_p) (place_lt ns q' within_q) (place_lt ps (λ a. d' a + p' a) within_r) h
    (λ l. place_rises ns ps d' p' q' (omega arith) within_p within_q within_r l)
  where
    d' : ℕ → ℕ
    d' a = d (suc a)

    p' : ℕ → ℕ
    p' a = p (suc a)

    q' : ℕ → ℕ
    q' a = q (suc a)

    within_p : Within ns p'
    within_p a l = hp (suc a) (suc-le-suc l)

    within_q : Within ns q'
    within_q a l = hq (suc a) (suc-le-suc l)

    within_r : Within ps (λ a. d' a + p' a)
    within_r a l = hr (suc a) (suc-le-suc l)

module _ (ns lefts ps : List ℕ) (F : Framed ns lefts ps) where
  target_rises : (j k : ℕ) → j < k → k < cell_count ns → target_of ns lefts ps j < target_of ns lefts ps k
  target_rises j k h b =
      let w = own j (omega arith) in
      place_rises ns ps (λ a. get_or lefts a 0) (coordinate ns j) (coordinate ns k) F.axes w (own k b) (framed_within ns lefts ps F (coordinate ns j) w)
      (omega (arith, place_coordinate ns j (grid_accepted F).full (omega arith), place_coordinate ns k (grid_accepted F).full b))
    where
      own : (i : ℕ) → i < cell_count ns → Within ns (coordinate ns i)
      own i l = coordinate_within ns i (grid_accepted F).full l

  target_keeps : (j k : ℕ) → j ≤ k → k < cell_count ns → target_of ns lefts ps j ≤ target_of ns lefts ps k
  target_keeps j k h b = go (ltb j k) refl
    where
      go : (t : Bool) → ltb j k ≡ t → target_of ns lefts ps j ≤ target_of ns lefts ps k
      go true q = omega (arith, target_rises j k (ltb-true j k q) b)
      go false q = let z : j ≡ k = omega (arith, ltb-false j k q) in omega (arith, ap (target_of ns lefts ps) z)

  -- a place of the middle, against the target of a row
  module _ (row : ℕ) (b : row * row_length ns + row_length ns ≤ cell_count ns) {at : ℕ} (e : at ≡ target_of ns lefts ps (row * row_length ns)) (k : ℕ) (l : k < cell_count ps)
      (m : middle_from ns lefts 0 (coordinate ps k) ≡ true) where
    some : 0 < row_length ns
    some = length_pos ns (length ns - 1) (grid_accepted F).full

    -- the row's last cell
    last : target_of ns lefts ps (row * row_length ns + (row_length ns - 1)) ≡ at + (row_length ns - 1)
    last = target_row ns lefts ps F row (row_length ns - 1) (omega (arith, some)) (omega (arith, some)) ∙ ap (λ x. x + (row_length ns - 1)) (sym e)

    place : target_of ns lefts ps (source_of ns lefts ps k) ≡ k
    place = target_source ns lefts ps F k l m

    -- cells from the row on stand from its target on
    pub from_row : row * row_length ns ≤ source_of ns lefts ps k → at ≤ k
    from_row h = omega (arith, e, place, target_keeps (row * row_length ns) (source_of ns lefts ps k) h (source_lt ns lefts ps F k l m))

    -- cells up to its end stand before the end of its target, and later ones do not
    pub to_row : source_of ns lefts ps k < row * row_length ns + row_length ns → k < at + row_length ns
    to_row h = omega (arith, place, last, some, target_keeps (source_of ns lefts ps k) (row * row_length ns + (row_length ns - 1)) (omega (arith, some)) (omega (arith, some)))

    pub past_row : row * row_length ns + row_length ns ≤ source_of ns lefts ps k → at + row_length ns ≤ k
    past_row h =
        let f = row * row_length ns + (row_length ns - 1) in
        omega (arith, place, last, some, target_rises f (source_of ns lefts ps k) (omega (arith, some)) (source_lt ns lefts ps F k l m))
