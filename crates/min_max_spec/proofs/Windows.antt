-- A window as a list and as an interval; what the pads of an accepted call reach.
-- Assumes nothing.
use mathlib.Core.Path.{◌≡◌, refl, sym, ap, subst, subst₂, ◌∙◌}
use mathlib.Core.Bool.{Bool, true, false, not, ◌&&◌, ◌||◌, cond}
use mathlib.Core.List.Memᴰ
use mathlib.Core.List.{List, Memᴰ}
use Prim.Native.Nat.{ℕ, suc, ◌+◌, ◌-◌, ◌/◌, ◌≤◌, ◌<◌, zero-le}
use native.Mathlib.Omega.{arith}
use borrow.Author.Tests.{ltb-true, ltb-false, eqb-true}
use lib.Dec.{ltb}
use lib.IntN.{ℤ, pos, negsuc, ◌+ℤ◌, ◌-ℤ◌, +ℤ_idr}
use lib.Signed.{◌≤ℤ◌, ≤ℤ_refl}
use Rattle.numbers.proofs.IntOrder.{≤ℤ-antisymm, pos_≤, ≤-pos}
use Rattle.numbers.proofs.IntSum.{above, +ℤ-cancel-left, +ℤ-mono-right}
use Rattle.numbers.proofs.Range.{up_mem, mem_up}
use Rattle.numbers.proofs.Tests.{or_false}
use Rattle.border.specs.Border.{Border, constant, along, cell_for, cell_after}
use Rattle.border.specs.declared.CellBorder.{CellBorder}
use Rattle.border.specs.declared.CellBorder.TheVariants.{Nearest, Mirror, Reflect, Wrap}
use Rattle.window_spec.specs.Origin.{bad_origin}
use Rattle.window_spec.proofs.Origins.{axis-accepted}
use Rattle.border.specs.Reach.{bad_pad}
use Rattle.min_max_spec.specs.Call.{Call, left, right, alone, first_in, last_in, InWindow, window, axis_length}
use Rattle.window_spec.specs.Window.{left_pad, right_pad}
use Rattle.min_max_spec.proofs.Passed.{Passed}
use Rattle.min_max_spec.proofs.Reach.{ends, own_from, own_to, reach-left, reach-right, carried}

last-first : (c : Call) (i : ℤ) → 0 < c.size → last_in c i ≡ first_in c i +ℤ pos (c.size - 1)
unfolding first_in last_in
last-first c i h = go (alone c) refl
  where
    go : (t : Bool) → alone c ≡ t → cond t i (i +ℤ pos (right c) -ℤ c.origin) ≡ cond t i (i -ℤ pos (left c) -ℤ c.origin) +ℤ pos (c.size - 1)
    go true e = sym (+ℤ_idr i) ∙ ap (λ (n : ℕ). i +ℤ pos n) (one c.size (eqb-true c.size 1 e))
      where
        one : (n : ℕ) → n ≡ 1 → 0 ≡ n - 1
        one n q = omega arith
    go false e = ends i c.origin (left c) (right c) ∙ ap (λ (n : ℕ). (i -ℤ pos (left c) -ℤ c.origin) +ℤ pos n) (halves c.size h)
      where
        halves : (n : ℕ) → 0 < n → n / 2 + (n - n / 2 - 1) ≡ n - 1
        halves n q = omega arith

-- a coordinate of the interval is in the list, and the other way round
pub in_list : (c : Call) (i z : ℤ) → 0 < c.size → InWindow c i z → Memᴰ z (window c i)
in_list c i z h w =
    let a = above (first_in c i) z w.from in
    let b : (first_in c i +ℤ pos a.0) ≤ℤ (first_in c i +ℤ pos (c.size - 1)) = subst₂ (λ (x y : ℤ). x ≤ℤ y) a.1 (last-first c i h) w.to in
    let l : a.0 ≤ c.size - 1 = ≤-pos (+ℤ-cancel-left (first_in c i) b) in
    Memᴰ.cast a.1 (up_mem (first_in c i) c.size a.0 (omega arith))

pub in_window : (c : Call) (i z : ℤ) → Memᴰ z (window c i) → InWindow c i z
in_window c i z m =
    let r = mem_up z (first_in c i) c.size m in
    let h : 0 < c.size = omega arith in
    let l : r.0 ≤ c.size - 1 = omega arith in
    record {
      from = subst₂ (λ (x y : ℤ). x ≤ℤ y) (+ℤ_idr (first_in c i)) (sym r.2) (+ℤ-mono-right (first_in c i) (pos_≤ zero-le));
      to = subst₂ (λ (x y : ℤ). x ≤ℤ y) (sym r.2) (sym (last-first c i h)) (+ℤ-mono-right (first_in c i) (pos_≤ l));
    }

-- ---- the coordinate reads a cell of the axis
abbrev pub Lands : {A : Type 0} → Border A → ℕ → ℤ → Type 0
Lands (constant v) n z = Unit {0}
Lands (along m) n z = cell_for m n z < n

pub cell-inside : (m : CellBorder) (n i : ℕ) → i < n → cell_for m n (pos i) ≡ i
unfolding cell_for
cell-inside m n i h = go (ltb i n) refl
  where
    go : (t : Bool) → ltb i n ≡ t → cond t i (cell_after m n (i + 1 - n)) ≡ i
    go true e = refl
    go false e = absurd (none (ltb-false i n e))
      where
        none : n ≤ i → ⊥
        none l = omega arith

pub lands_inside : {A : Type 0} (b : Border A) (n i : ℕ) → i < n → Lands b n (pos i)
lands_inside (constant v) n i h = tt
lands_inside (along m) n i h = rw (cell-inside m n i h) h

cond_lt : (x n y : ℕ) → (n ≤ x → y < n) → cond (ltb x n) x y < n
cond_lt x n y f = go (ltb x n) refl
  where
    go : (t : Bool) → ltb x n ≡ t → cond t x y < n
    go true e = ltb-true x n e
    go false e = f (ltb-false x n e)

-- p and q are the pads l + o and r − o
module _ (n i : ℕ) (h : i < n) (l r o : ℤ) (p q : ℕ) (ep : pos p ≡ l +ℤ o) (eq : pos q ≡ r -ℤ o) where
  before : (j : ℕ) → (pos i -ℤ l -ℤ o) ≤ℤ negsuc j → i + suc j ≤ p
  before j f = carried i j p (reach-left (pos i) l o (negsuc j) (pos p) f (subst (λ (x : ℤ). x ≤ℤ pos p) ep (≤ℤ_refl (pos p))))

  after : (x : ℕ) → pos x ≤ℤ (pos i +ℤ r -ℤ o) → x ≤ i + q
  after x f = ≤-pos (reach-right (pos i) r o (pos x) (pos q) f (subst (λ (y : ℤ). y ≤ℤ pos q) eq (≤ℤ_refl (pos q))))

  by_mode : (A : Type 0) (m : CellBorder) (z : ℤ) → bad_pad {A = A} (along m) n p ≡ false → bad_pad {A = A} (along m) n q ≡ false → (pos i -ℤ l -ℤ o) ≤ℤ z → z ≤ℤ (pos i +ℤ r -ℤ o) → cell_for m n z < n
  unfolding cell_for
  by_mode A Nearest (pos x) e f a b = cond_lt x n (n - 1) (λ k. omega arith)
  by_mode A Nearest (negsuc j) e f a b = omega arith
  by_mode A Mirror (pos x) e f a b = cond_lt x n (n - 1 - (x + 1 - n)) (λ k. omega arith)
  by_mode A Mirror (negsuc j) e f a b = omega (arith, before j a, ltb-false (n - 1) p e)
  by_mode A Reflect (pos x) e f a b = cond_lt x n (n - (x + 1 - n)) (λ k. omega arith)
  by_mode A Reflect (negsuc j) e f a b = omega (arith, before j a, ltb-false n p e)
  by_mode A Wrap (pos x) e f a b = cond_lt x n (x + 1 - n - 1) (λ k. omega (arith, after x b, ltb-false n q f))
  by_mode A Wrap (negsuc j) e f a b = omega arith

  by_pads : {A : Type 0} (b : Border A) (z : ℤ) → bad_pad b n p ≡ false → bad_pad b n q ≡ false → (pos i -ℤ l -ℤ o) ≤ℤ z → z ≤ℤ (pos i +ℤ r -ℤ o) → Lands b n z
  by_pads (constant v) z e f g k = tt
  by_pads {A} (along m) z e f g k = by_mode A m z e f g k

pub lands : (cells : List ℤ) (c : Call) → Passed cells c → (i : ℕ) → i < axis_length c → (z : ℤ) → InWindow c (pos i) z → Lands c.border (axis_length c) z
unfolding first_in last_in
lands cells c P i h z w = go (alone c) P.origin P.pads w.from w.to
  where
    go : (t : Bool) → (not t && bad_origin c.size c.origin) ≡ false
        → (not t && (bad_pad c.border (axis_length c) (left_pad c.size c.origin) || bad_pad c.border (axis_length c) (right_pad c.size c.origin))) ≡ false
        → cond t (pos i) (pos i -ℤ pos (left c) -ℤ c.origin) ≤ℤ z → z ≤ℤ cond t (pos i) (pos i +ℤ pos (right c) -ℤ c.origin)
        → Lands c.border (axis_length c) z
    go true o e f k = subst (Lands c.border (axis_length c)) (≤ℤ-antisymm f k) (lands_inside c.border (axis_length c) i h)
    go false o e f k =
        let s = or_false (bad_pad c.border (axis_length c) (left_pad c.size c.origin)) (bad_pad c.border (axis_length c) (right_pad c.size c.origin)) e in
        let a = axis-accepted c.size c.origin o in
        by_pads (axis_length c) i h (pos (left c)) (pos (right c)) c.origin (left_pad c.size c.origin) (right_pad c.size c.origin) a.left_pad_lem a.right_pad_lem c.border z s.0 s.1
        f k

-- every accepted window holds its own cell
pub own_cell : (cells : List ℤ) (c : Call) → Passed cells c → (i : ℤ) → InWindow c i i
unfolding first_in last_in
own_cell cells c P i = record { from = (go (alone c) P.origin).0; to = (go (alone c) P.origin).1 }
  where
    go : (t : Bool) → (not t && bad_origin c.size c.origin) ≡ false
        → (cond t i (i -ℤ pos (left c) -ℤ c.origin) ≤ℤ i) × (i ≤ℤ cond t i (i +ℤ pos (right c) -ℤ c.origin))
    go true o = (≤ℤ_refl i, ≤ℤ_refl i)
    go false o =
        let a = axis-accepted c.size c.origin o in
        (own_from i (pos (left c)) c.origin (left_pad c.size c.origin) a.left_pad_lem, own_to i (pos (right c)) c.origin (right_pad c.size c.origin) a.right_pad_lem)
