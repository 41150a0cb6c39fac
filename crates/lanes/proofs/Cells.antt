-- The lanes of an axis of n cells that stand s places apart: every cell is on one lane, at one place of it, and a lane that is inside has all its cells in the grid.
-- Assumes nothing.
use mathlib.Core.Path.{◌≡◌, refl, sym, ap, ◌∙◌}
use mathlib.Core.Bool.{Bool, true, false, ◌&&◌}
use mathlib.Core.List.{List}
use Prim.Native.Nat.{ℕ, zero, suc, ◌+◌, ◌*◌, ◌-◌, ◌/◌, ◌%◌, ◌≤◌, ◌<◌, ◌^◌}
use native.Mathlib.Nat.{not-suc-le-zero, suc-mul, add-mul, mul_assoc, mul-le-mul, le_refl, le_trans, div-le_self, mod-lt, mod-eq_of_lt, div-one, div-eq_of_lt, div-add-mod', div-lt_iff_lt-mul, mul-one, zero-mul}
use native.Mathlib.Omega.{arith}
use borrow.Author.Tests.{le-leb, lt-ltb, leb-true, ltb-true, eqb-true, eqb-false, eq-eqb}
use lib.Arith.{digits_lt, digits_div, digits_mod, mod-mul}
use lib.Dec.{leb, ltb, eqb}
use lib.ListN.{length, get_or}
use Rattle.numbers.proofs.Tests.{and_true}
use Rattle.numbers.proofs.Tabulate.{length-tabulate, get_d_tabulate}
use Rattle.lanes.specs.Lanes.{lane_of, lane_base, lane_at, lane_inside}

-- ---- a line read from a grid
pub length-lane_at : {A : Type 0} (d : A) (g : List A) (at s n : ℕ) → length (lane_at d g at s n) ≡ n
unfolding lane_at
length-lane_at d g at s n = length-tabulate (λ i. get_or g (at + i * s) d) 0 n

pub get_d_lane_at : {A : Type 0} (d : A) (g : List A) (at s n i : ℕ) → i < n → get_or (lane_at d g at s n) i d ≡ get_or g (at + i * s) d
unfolding lane_at
get_d_lane_at d g at s n i h = get_d_tabulate (λ i. get_or g (at + i * s) d) n i d h

-- ---- products of an index below another
pub step_le : {i n : ℕ} (s : ℕ) → i < n → i * s + s ≤ n * s
step_le {i} {n} s h = omega (arith, mul-le-mul h (le_refl s), suc-mul i s)

pub index_in : {i n : ℕ} (at s count : ℕ) → i < n → at + n * s < count + s → at + i * s < count
index_in at s count h k = omega (arith, step_le s h)

-- ---- the lane of a cell, and its place there
module _ (n s : ℕ) (pn : 0 < n) (ps : 0 < s) where
  cell-run : (q i r : ℕ) → q * (n * s) + r + i * s ≡ q * (n * s) + (i * s + r)
  cell-run q i r = omega arith

  cell_digits : (q i r : ℕ) → q * (n * s) + r + i * s ≡ (q * n + i) * s + r
  cell_digits q i r = omega (arith, add-mul (q * n) i s, mul_assoc q n s)

  pub lane_of_cell : (l i : ℕ) → i < n → lane_of n s (lane_base n s l + i * s) ≡ l
  lane_of_cell l i h =
      let q = l / s in
      let r = l % s in
      let b : r < s = mod-lt l ps in
      let d : (q * (n * s) + r + i * s) / (n * s) ≡ q = rw (cell-run q i r) (digits_div q (digits_lt h b)) in
      let m : (q * (n * s) + r + i * s) % s ≡ r = rw (cell_digits q i r) (digits_mod (q * n + i) b) in
      (λ j. d j * s + m j) ∙ div-add-mod' l s

  pub place_of_cell : (l i : ℕ) → i < n → (lane_base n s l + i * s) / s % n ≡ i
  place_of_cell l i h =
      let q = l / s in
      let r = l % s in
      let d : (q * (n * s) + r + i * s) / s ≡ q * n + i = rw (cell_digits q i r) (digits_div (q * n + i) (mod-lt l ps)) in
      ap (λ x. x % n) d ∙ digits_mod q h

  pub cell_of_lane : (k : ℕ) → k ≡ lane_base n s (lane_of n s k) + k / s % n * s
  cell_of_lane k =
      let b : k % s < s = mod-lt k ps in
      let q = k / (n * s) in
      let d : lane_of n s k / s ≡ q = digits_div q b in
      let m : lane_of n s k % s ≡ k % s = digits_mod q b in
      sym ((λ j. d j * (n * s) + m j + k / s % n * s) ∙ cell-run q (k / s % n) (k % s) ∙ ap (λ x. q * (n * s) + x) (sym (mod-mul k pn ps)) ∙ div-add-mod' k (n * s))

  -- the first cell of the lane that a cell is on
  pub base_of : (k : ℕ) → lane_base n s (lane_of n s k) ≡ k / (n * s) * (n * s) + k % s
  base_of k =
      let b : k % s < s = mod-lt k ps in
      (λ j. digits_div (k / (n * s)) b j * (n * s) + digits_mod (k / (n * s)) b j)

  -- a cell is cell i of lane l exactly where it stands there
  pub same_cell : (l i k : ℕ) → i < n → eqb k (lane_base n s l + i * s) ≡ eqb (lane_of n s k) l && eqb (k / s % n) i
  same_cell l i k h = go (eqb k (lane_base n s l + i * s)) refl
    where
      here : k ≡ lane_base n s l + i * s → eqb (lane_of n s k) l && eqb (k / s % n) i ≡ true
      here e = (λ j. eq-eqb (lane_of n s k) l (ap (lane_of n s) e ∙ lane_of_cell l i h) j && eq-eqb (k / s % n) i (ap (λ x. x / s % n) e ∙ place_of_cell l i h) j)

      away : (t : Bool) → eqb (lane_of n s k) l && eqb (k / s % n) i ≡ t → (k ≡ lane_base n s l + i * s → ⊥) → false ≡ t
      away true e f =
          let p = and_true (eqb (lane_of n s k) l) (eqb (k / s % n) i) e in
          absurd (f (cell_of_lane k ∙ (λ j. lane_base n s (eqb-true (lane_of n s k) l p.0 j) + eqb-true (k / s % n) i p.1 j * s)))
      away false e f = refl

      go : (t : Bool) → eqb k (lane_base n s l + i * s) ≡ t → eqb k (lane_base n s l + i * s) ≡ eqb (lane_of n s k) l && eqb (k / s % n) i
      go true e = e ∙ sym (here (eqb-true k (lane_base n s l + i * s) e))
      go false e = e ∙ away (eqb (lane_of n s k) l && eqb (k / s % n) i) refl (eqb-false k (lane_base n s l + i * s) e)

  -- the lanes of outer runs of n times s cells
  pub lane_below : (outer k : ℕ) → k < outer * (n * s) → lane_of n s k < outer * s
  lane_below outer k h = digits_lt ((div-lt_iff_lt-mul (omega (arith, mul-le-mul pn ps))).1 h) (mod-lt k ps)

-- a lane's first cell is not before the lane's number
pub base_over : (n s l : ℕ) → 0 < n → l ≤ lane_base n s l
base_over n s l pn = omega (arith, div-add-mod' l s, mul-le-mul (le_refl (l / s)) (mul-le-mul pn (le_refl s)))

-- no product wraps
pub base_small : {n s l c : ℕ} → n ≤ c → s ≤ c → l ≤ c → 0 < s → c ≤ 32768 → lane_base n s l < 2 ^ 46
base_small {n} {s} {l} {c} hn hs hl ps hc =
    omega (arith, mul-le-mul (le_trans (div-le_self l s) (le_trans hl hc)) (mul-le-mul (le_trans hn hc) (le_trans hs hc)), mod-lt l ps)

-- a lane of neighbouring cells, and one of the first run of lanes
pub base_neighbours : (n l : ℕ) → lane_base n 1 l ≡ l * n
base_neighbours n l =
    let e : l / 1 * (n * 1) ≡ l * n = (λ j. div-one l j * mul-one n j) in
    omega (arith, mod-lt l {m = 1} (le_refl 1), e)

pub base_first : (n : ℕ) {s l : ℕ} → l < s → lane_base n s l ≡ l
base_first n {s} {l} h = omega (arith, ap (λ q. q * (n * s)) (div-eq_of_lt h), zero-mul (n * s), mod-eq_of_lt h)

-- ---- a lane that is inside
pub record Inside (n s l count : ℕ) : Type 0 where
  pub small : count ≤ 32768
  pub some : 0 < n
  pub apart : 0 < s
  pub short : s ≤ count
  pub last : lane_base n s l + (n - 1) * s < count

pub lane_inside_lem : (n s l count : ℕ) → lane_inside n s l count ≡ true → Inside n s l count
unfolding lane_inside
lane_inside_lem n s l count e =
    let p = and_true (leb count 32768 && leb 1 n && leb 1 s && leb s count) (ltb (lane_base n s l + (n - 1) * s) count) e in
    let q = and_true (leb count 32768 && leb 1 n && leb 1 s) (leb s count) p.0 in
    let r = and_true (leb count 32768 && leb 1 n) (leb 1 s) q.0 in
    let t = and_true (leb count 32768) (leb 1 n) r.0 in record {
      small = leb-true count 32768 t.0;
      some = leb-true 1 n t.1;
      apart = leb-true 1 s r.1;
      short = leb-true s count q.1;
      last = ltb-true (lane_base n s l + (n - 1) * s) count p.1;
    }

pub inside_yes : {n s l count : ℕ} → Inside n s l count → lane_inside n s l count ≡ true
unfolding lane_inside
inside_yes I = simp (le-leb _ _ I.small, le-leb _ _ I.some, le-leb _ _ I.apart, le-leb _ _ I.short, lt-ltb _ _ I.last)

pub inside_no : (n s l count : ℕ) → (Inside n s l count → ⊥) → lane_inside n s l count ≡ false
inside_no n s l count h = go (lane_inside n s l count) refl
  where
    go : (t : Bool) → lane_inside n s l count ≡ t → lane_inside n s l count ≡ false
    go true e = absurd (h (lane_inside_lem n s l count e))
    go false e = e

pub inside-whole : {n s l count : ℕ} → Inside n s l count → lane_base n s l + n * s < count + s
inside-whole {n} {s} {l} {count} I = omega (arith, I.last, whole n I.some)
  where
    whole : (n : ℕ) → 0 < n → n * s ≡ (n - 1) * s + s
    whole zero h = absurd (not-suc-le-zero h)
    whole (suc m) h = let e : m ≡ suc m - 1 = omega arith in suc-mul m s ∙ ap (λ x. x * s + s) e
