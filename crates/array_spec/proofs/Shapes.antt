-- When condition 1 refuses a shape, from the lengths of three axes, of which the missing ones have length 1; and what an accepted shape is.
-- Assumes nothing.
use mathlib.Core.Path.{◌≡◌, refl, sym, ap, ◌∙◌}
use mathlib.Core.Bool.{Bool, true, false, ◌||◌, cond, true≢false}
use mathlib.Core.List.{List, [], ◌∷◌}
use Prim.Native.Nat.{ℕ, zero, suc, ◌*◌, ◌≤◌, ◌<◌}
use native.Mathlib.Nat.{not-suc-le-zero, le_of_suc-le-suc, mul-one}
use native.Mathlib.Omega.{arith}
use borrow.Author.Tests.{lt-ltb, le-ltb, ltb-false, eq-eqb, ne_eqb, eqb-true, not-false}
use lib.Dec.{ltb, eqb}
use lib.ListN.{length, drop_of_length-le}
use Rattle.numbers.specs.Lists.{any_of}
use Rattle.numbers.specs.Ranges.{outside}
use Rattle.numbers.proofs.Tests.{or_false, or_no, cond_yes, cond_no}
use Rattle.array_spec.specs.Grid.{cell_count, length_of, stride_of}
use Rattle.array_spec.specs.Conditions.{bad_shape, grid_count, bad_length}
use Rattle.array_spec.proofs.Places.{Positive, count_pos}

or_left : (a b : Bool) → a ≡ true → a || b ≡ true
or_left a b e = rw e refl

or_right : (a b : Bool) → b ≡ true → a || b ≡ true
or_right true b e = refl
or_right false b e = e

-- ---- refused
pub shape_few : (ns : List ℕ) → length ns < 1 → bad_shape ns ≡ true
unfolding bad_shape
shape_few ns h = or_left _ _ (or_left _ _ (or_left _ _ (lt-ltb (length ns) 1 h)))

pub shape_many : (ns : List ℕ) → 3 < length ns → bad_shape ns ≡ true
unfolding bad_shape
shape_many ns h = or_left _ _ (or_left _ _ (or_right (ltb (length ns) 1) _ (lt-ltb 3 (length ns) h)))

-- ---- one to three axes: the lengths of axes 0, 1 and 2 say all
pub count_three : (ns : List ℕ) → 1 ≤ length ns → length ns ≤ 3 → cell_count ns ≡ length_of ns 0 * (length_of ns 1 * length_of ns 2)
count_three [] s f = absurd (not-suc-le-zero s)
count_three (a ∷ []) s f = refl
count_three (a ∷ b ∷ []) s f = refl
count_three (a ∷ b ∷ c ∷ []) s f = ap (λ x. a * (b * x)) (mul-one c)
count_three (a ∷ b ∷ c ∷ d ∷ ds) s f = absurd (not-suc-le-zero (le_of_suc-le-suc (le_of_suc-le-suc (le_of_suc-le-suc f))))

regroup : (x y z t : Bool) → x || (y || (z || false)) || t ≡ x || (y || (z || t))
regroup true y z t = refl
regroup false true z t = refl
regroup false false true t = refl
regroup false false false t = refl

abbrev pub bad_three : ℕ → ℕ → ℕ → Bool
bad_three a b c = outside 1 1024 a || (outside 1 1024 b || (outside 1 1024 c || ltb 8192 (a * (b * c))))

bad-three : (ns : List ℕ) → 1 ≤ length ns → length ns ≤ 3 → any_of (outside 1 1024) ns || ltb 8192 (cell_count ns) ≡ bad_three (length_of ns 0) (length_of ns 1) (length_of ns 2)
bad-three [] s f = absurd (not-suc-le-zero s)
bad-three (a ∷ []) s f = regroup (outside 1 1024 a) false false (ltb 8192 (a * 1))
bad-three (a ∷ b ∷ []) s f = regroup (outside 1 1024 a) (outside 1 1024 b) false (ltb 8192 (a * (b * 1)))
bad-three (a ∷ b ∷ c ∷ []) s f =
    regroup (outside 1 1024 a) (outside 1 1024 b) (outside 1 1024 c) (ltb 8192 (a * (b * (c * 1))))
    ∙ ap (λ x. outside 1 1024 a || (outside 1 1024 b || (outside 1 1024 c || ltb 8192 (a * (b * x))))) (mul-one c)
bad-three (a ∷ b ∷ c ∷ d ∷ ds) s f = absurd (not-suc-le-zero (le_of_suc-le-suc (le_of_suc-le-suc (le_of_suc-le-suc f))))

pub grid_three : (ns : List ℕ) → 1 ≤ length ns → length ns ≤ 3
    → grid_count ns ≡ cond (bad_three (length_of ns 0) (length_of ns 1) (length_of ns 2)) 0 (length_of ns 0 * (length_of ns 1 * length_of ns 2))
unfolding grid_count bad_shape
grid_three ns s f =
    (λ i. cond (or_no _ _ (le-ltb (length ns) 1 s) (le-ltb 3 (length ns) f) i || any_of (outside 1 1024) ns || ltb 8192 (cell_count ns)) 0 (cell_count ns))
    ∙ (λ i. cond (bad-three ns s f i) 0 (count_three ns s f i))

-- the strides of axes 0 and 1, and of any later one
pub stride_zero : (ns : List ℕ) → length ns ≤ 3 → stride_of ns 0 ≡ length_of ns 1 * length_of ns 2
stride_zero [] f = refl
stride_zero (a ∷ []) f = refl
stride_zero (a ∷ b ∷ []) f = refl
stride_zero (a ∷ b ∷ c ∷ []) f = ap (λ x. b * x) (mul-one c)
stride_zero (a ∷ b ∷ c ∷ d ∷ ds) f = absurd (not-suc-le-zero (le_of_suc-le-suc (le_of_suc-le-suc (le_of_suc-le-suc f))))

pub stride_one : (ns : List ℕ) → length ns ≤ 3 → stride_of ns 1 ≡ length_of ns 2
stride_one [] f = refl
stride_one (a ∷ []) f = refl
stride_one (a ∷ b ∷ []) f = refl
stride_one (a ∷ b ∷ c ∷ []) f = mul-one c
stride_one (a ∷ b ∷ c ∷ d ∷ ds) f = absurd (not-suc-le-zero (le_of_suc-le-suc (le_of_suc-le-suc (le_of_suc-le-suc f))))

pub stride_past : (ns : List ℕ) (a : ℕ) → length ns ≤ suc a → stride_of ns a ≡ 1
stride_past ns a h = ap cell_count (drop_of_length-le ns h)

-- ---- the count
pub count_refused : (ns : List ℕ) → bad_shape ns ≡ true → grid_count ns ≡ 0
unfolding grid_count
count_refused ns e = cond_yes (bad_shape ns) 0 (cell_count ns) e

pub count_accepted : (ns : List ℕ) → bad_shape ns ≡ false → grid_count ns ≡ cell_count ns
unfolding grid_count
count_accepted ns e = cond_no (bad_shape ns) 0 (cell_count ns) e

-- ---- an accepted shape
pub record Accepted (ns : List ℕ) : Type 0 where
  pub some : 1 ≤ length ns
  pub few : length ns ≤ 3
  pub full : Positive ns
  pub short : (a : ℕ) → length_of ns a ≤ 1024
  pub small : cell_count ns ≤ 8192

within_extent : (n : ℕ) → outside 1 1024 n ≡ false → (0 < n) × (n ≤ 1024)
within_extent n e = let p = or_false (ltb n 1) (ltb 1024 n) e in (omega (arith, ltb-false n 1 p.0), omega (arith, ltb-false 1024 n p.1))

extents : (ns : List ℕ) → any_of (outside 1 1024) ns ≡ false → Positive ns × ((a : ℕ) → length_of ns a ≤ 1024)
extents [] e = (tt, λ a. one)
  where
    one : 1 ≤ 1024
    one = omega arith
extents (n ∷ ns) e =
    let p = or_false (outside 1 1024 n) (any_of (outside 1 1024) ns) e in
    let h = within_extent n p.0 in
    let t = extents ns p.1 in
    ((h.0, t.0), at h.1 t.1)
  where
    at : n ≤ 1024 → ((a : ℕ) → length_of ns a ≤ 1024) → (a : ℕ) → length_of (n ∷ ns) a ≤ 1024
    at h t zero = h
    at h t (suc a) = t a

pub shape-accepted : (ns : List ℕ) → bad_shape ns ≡ false → Accepted ns
unfolding bad_shape
shape-accepted ns e =
    let p = or_false (outside 1 3 (length ns) || any_of (outside 1 1024) ns) (ltb 8192 (cell_count ns)) e in
    let q = or_false (outside 1 3 (length ns)) (any_of (outside 1 1024) ns) p.0 in
    let r = or_false (ltb (length ns) 1) (ltb 3 (length ns)) q.0 in
    let x = extents ns q.1 in record {
      some = ltb-false (length ns) 1 r.0;
      few = ltb-false 3 (length ns) r.1;
      full = x.0;
      short = x.1;
      small = ltb-false 8192 (cell_count ns) p.1;
    }

-- the count tells whether the shape is accepted
pub count_some : (ns : List ℕ) → (grid_count ns ≡ 0 → ⊥) → bad_shape ns ≡ false
count_some ns h = go (bad_shape ns) refl
  where
    go : (t : Bool) → bad_shape ns ≡ t → bad_shape ns ≡ false
    go true e = absurd (h (count_refused ns e))
    go false e = e

pub count_none : (ns : List ℕ) → grid_count ns ≡ 0 → bad_shape ns ≡ true
count_none ns h = go (bad_shape ns) refl
  where
    clash : cell_count ns ≡ 0 → 0 < cell_count ns → bad_shape ns ≡ true
    clash e p = absurd (omega arith)

    go : (t : Bool) → bad_shape ns ≡ t → bad_shape ns ≡ true
    go true e = e
    go false e = clash (sym (count_accepted ns e) ∙ h) (count_pos ns (shape-accepted ns e).full)

pub count_test : (ns : List ℕ) → eqb (grid_count ns) 0 ≡ bad_shape ns
count_test ns = go (bad_shape ns) refl
  where
    go : (t : Bool) → bad_shape ns ≡ t → eqb (grid_count ns) 0 ≡ bad_shape ns
    go true e = eq-eqb (grid_count ns) 0 (count_refused ns e) ∙ sym e
    go false e = ne_eqb (grid_count ns) 0 (λ z. true≢false (sym (count_none ns z) ∙ e)) ∙ sym e

-- condition 2 passed: the length is the count
pub length-judged : (ns : List ℕ) (len : ℕ) → bad_length ns len ≡ false → len ≡ grid_count ns
length-judged ns len e = eqb-true len (grid_count ns) (not-false (eqb len (grid_count ns)) e)
