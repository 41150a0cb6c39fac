-- A border for each axis: the levels that a point can take whichever constant axis goes first, and the one that it takes when the lowest does.
-- Assumes nothing.
use mathlib.Core.Path.{◌≡◌, refl, sym, ap, subst, ◌∙◌}
use mathlib.Core.Bool.{true, false, cond, true≢false}
use mathlib.Core.Logic.{◌⊎◌, inl, inr}
use mathlib.Core.List.{List, [], ◌∷◌, ◌++◌}
use Prim.Native.Nat.{ℕ, zero, suc, ◌<◌, zero-le, suc-le-suc}
use native.Mathlib.Nat.{not-suc-le-zero, le_of_suc-le-suc}
use native.Mathlib.Omega.{arith}
use borrow.Author.Tests.{lt-ltb}
use lib.IntN.{ℤ, pos, nat_abs}
use lib.ListN.{length, get_or}
use Rattle.array_spec.specs.Grid.{length_of, level_at}
use Rattle.array_spec.proofs.Places.{place_ext}
use Rattle.border.specs.Border.{Border, constant, along, cell_for, cell_under, inside, own_constant, outer_constants, extended_lane, extended_grid_by}
use Rattle.min_max_spec.specs.Order.{Point}
use Rattle.min_max_spec.proofs.Passed.{true_or_false}
use Rattle.min_max_spec.proofs.Windows.{Lands, cell-inside}
use Rattle.min_max_spec.proofs.Sweep.{inside_lt}

-- ---- one axis: a coordinate reads a cell of it, or it is outside and takes the constant u
abbrev pub Reads : {A : Type 0} → Border A → ℕ → ℤ → Type 0
Reads (constant v) n z = inside n z ≡ true
Reads (along m) n z = cell_for m n z < n

abbrev pub Leaves : {A : Type 0} → Border A → ℕ → ℤ → A → Type 0
Leaves (constant v) n z u = (inside n z ≡ false) × (u ≡ v)
Leaves (along m) n z u = ⊥

pub reads_lt : {A : Type 0} (b : Border A) (n : ℕ) (z : ℤ) → Reads b n z → cell_under b n z < n
reads_lt (constant v) n z h = inside_lt n z h
reads_lt (along m) n z h = h

pub lane_reads : {A : Type 0} (b : Border A) (n : ℕ) (h : ℕ → A) (z : ℤ) → Reads b n z → extended_lane b n h z ≡ h (cell_under b n z)
unfolding extended_lane
lane_reads (constant v) n h z r = ap (λ t. cond t (h (nat_abs z)) v) r
lane_reads (along m) n h z r = refl

pub lane_leaves : {A : Type 0} (b : Border A) (n : ℕ) (h : ℕ → A) (z : ℤ) (u : A) → Leaves b n z u → extended_lane b n h z ≡ u
unfolding extended_lane
lane_leaves (constant v) n h z u l = ap (λ t. cond t (h (nat_abs z)) v) l.0 ∙ sym l.1
lane_leaves (along m) n h z u l = absurd l

own_reads : {A : Type 0} (b : Border A) (n : ℕ) (z : ℤ) → Reads b n z → own_constant b n z ≡ []
own_reads (constant v) n z r = ap (λ t. cond t [] (v ∷ [])) r
own_reads (along m) n z r = refl

own_leaves : {A : Type 0} (b : Border A) (n : ℕ) (z : ℤ) (u : A) → Leaves b n z u → own_constant b n z ≡ u ∷ []
own_leaves (constant v) n z u l = ap (λ t. cond t [] (v ∷ [])) l.0 ∙ ap (λ x. x ∷ []) (sym l.1)
own_leaves (along m) n z u l = absurd l

pub either : {A : Type 0} (b : Border A) (n : ℕ) (z : ℤ) → Lands b n z → Reads b n z ⊎ ((u : A) × Leaves b n z u)
either {A} (constant v) n z h = go (true_or_false (inside n z))
  where
    go : (inside n z ≡ true) ⊎ (inside n z ≡ false) → (inside n z ≡ true) ⊎ ((u : A) × ((inside n z ≡ false) × (u ≡ v)))
    go (inl e) = inl e
    go (inr e) = inr (v, (e, refl))
either (along m) n z h = inl h

-- a coordinate on the axis
pub reads_inside : {A : Type 0} (b : Border A) (n i : ℕ) → i < n → Reads b n (pos i)
reads_inside (constant v) n i h = lt-ltb i n h
reads_inside (along m) n i h = subst (λ x. x < n) (sym (cell-inside m n i h)) h

pub under_inside : {A : Type 0} (b : Border A) (n i : ℕ) → i < n → cell_under b n (pos i) ≡ i
under_inside (constant v) n i h = refl
under_inside (along m) n i h = cell-inside m n i h

pub not_both : {A : Type 0} (b : Border A) (n : ℕ) (z : ℤ) (u : A) → Reads b n z → Leaves b n z u → ⊥
not_both (constant v) n z u r l = true≢false (sym r ∙ l.0)
not_both (along m) n z u r l = l

-- ---- all axes
abbrev pub AllRead : (ℕ → Border ℤ) → List ℕ → Point → Type 0
AllRead bs ns q = (b : ℕ) → b < length ns → Reads (bs b) (length_of ns b) (q b)

-- the cell that a point reads
abbrev pub cells_under : (ℕ → Border ℤ) → List ℕ → Point → ℕ → ℕ
cells_under bs ns q b = cell_under (bs b) (length_of ns b) (q b)

-- The levels that a point can take: the constant of any constant axis along which it is outside, or, where there is none, the level of the cell that it reads.
pub data Takes (bs : ℕ → Border ℤ) (ns : List ℕ) (cells : List ℤ) (q : Point) (u : ℤ) : Type 0 where
  outside_on : (b : ℕ) → b < length ns → Leaves (bs b) (length_of ns b) (q b) u → Takes bs ns cells q u
  at-cell : AllRead bs ns q → u ≡ level_at (pos 0) ns cells (cells_under bs ns q) → Takes bs ns cells q u

-- ---- the constants of the axes that a point leaves: none where all coordinates read, one where all but one do
outer_none : (bs : ℕ → Border ℤ) (ns : List ℕ) (q : Point) → AllRead bs ns q → outer_constants bs ns q ≡ []
unfolding outer_constants
outer_none bs [] q h = refl
outer_none bs (n ∷ ns) q h =
    (λ j. own_reads (bs 0) n (q 0) (h zero (suc-le-suc zero-le)) j ++ outer_none (λ a. bs (suc a)) ns (λ a. q (suc a)) (λ b l. h (suc b) (suc-le-suc l)) j)

outer_one : (bs : ℕ → Border ℤ) (ns : List ℕ) (q : Point) (u : ℤ) (b : ℕ) → b < length ns → Leaves (bs b) (length_of ns b) (q b) u
    → ((x : ℕ) → x < length ns → (x ≡ b → ⊥) → Reads (bs x) (length_of ns x) (q x)) → outer_constants bs ns q ≡ u ∷ []
unfolding outer_constants
outer_one bs [] q u b l o h = absurd (not-suc-le-zero l)
outer_one bs (n ∷ ns) q u zero l o h =
    (λ j. own_leaves (bs 0) n (q 0) u o j ++ outer_none (λ a. bs (suc a)) ns (λ a. q (suc a)) (λ b m. h (suc b) (suc-le-suc m) (λ e. omega arith)) j)
outer_one bs (n ∷ ns) q u (suc b) l o h =
    (λ j. own_reads (bs 0) n (q 0) (h zero (suc-le-suc zero-le) (λ e. omega arith)) j
    ++ outer_one (λ a. bs (suc a)) ns (λ a. q (suc a)) u b (le_of_suc-le-suc l) o (λ x m f. h (suc x) (suc-le-suc m) (λ e. f (omega arith))) j)

-- the first of them is the constant of an axis that the point leaves
outer_takes : (bs : ℕ → Border ℤ) (ns : List ℕ) (q : Point) (v : ℤ) → ((b : ℕ) → b < length ns → Lands (bs b) (length_of ns b) (q b))
    → AllRead bs ns q ⊎ ((b : ℕ) × (b < length ns) × Leaves (bs b) (length_of ns b) (q b) (get_or (outer_constants bs ns q) 0 v))
unfolding outer_constants
outer_takes bs [] q v h = inl (λ b l. absurd (not-suc-le-zero l))
outer_takes bs (n ∷ ns) q v h =
    go (either (bs 0) n (q 0) (h zero (suc-le-suc zero-le))) (outer_takes (λ a. bs (suc a)) ns (λ a. q (suc a)) v (λ b l. h (suc b) (suc-le-suc l)))
  where
    rest : List ℤ
    rest = outer_constants (λ a. bs (suc a)) ns (λ a. q (suc a))

    all : Reads (bs 0) n (q 0) → AllRead (λ a. bs (suc a)) ns (λ a. q (suc a)) → AllRead bs (n ∷ ns) q
    all r f zero l = r
    all r f (suc b) l = f b (le_of_suc-le-suc l)

    go : Reads (bs 0) n (q 0) ⊎ ((u : ℤ) × Leaves (bs 0) n (q 0) u)
        → AllRead (λ a. bs (suc a)) ns (λ a. q (suc a)) ⊎ ((b : ℕ) × (b < length ns) × Leaves (bs (suc b)) (length_of ns b) (q (suc b)) (get_or rest 0 v))
        → AllRead bs (n ∷ ns) q ⊎ ((b : ℕ) × (b < length (n ∷ ns)) × Leaves (bs b) (length_of (n ∷ ns) b) (q b) (get_or (own_constant (bs 0) n (q 0) ++ rest) 0 v))
    go (inr o) r = inr (zero, suc-le-suc zero-le, subst (λ s. Leaves (bs 0) n (q 0) (get_or (s ++ rest) 0 v)) (sym (own_leaves (bs 0) n (q 0) o.0 o.1)) o.1)
    go (inl r) (inl f) = inl (all r f)
    go (inl r) (inr o) =
        inr (suc o.0, suc-le-suc o.1, subst (λ s. Leaves (bs (suc o.0)) (length_of ns o.0) (q (suc o.0)) (get_or (s ++ rest) 0 v)) (sym (own_reads (bs 0) n (q 0) r)) o.2)

-- ---- the extended grid takes one of these levels; the cell's level where all coordinates read, and the constant where all but one do
module _ (bs : ℕ → Border ℤ) (ns : List ℕ) (cells : List ℤ) (q : Point) where
  pub grid_reads : AllRead bs ns q → extended_grid_by (pos 0) bs ns cells q ≡ level_at (pos 0) ns cells (cells_under bs ns q)
  unfolding extended_grid_by
  grid_reads h = ap (λ s. get_or s 0 (level_at (pos 0) ns cells (cells_under bs ns q))) (outer_none bs ns q h)

  pub grid_one : (u : ℤ) (b : ℕ) → b < length ns → Leaves (bs b) (length_of ns b) (q b) u
      → ((x : ℕ) → x < length ns → (x ≡ b → ⊥) → Reads (bs x) (length_of ns x) (q x)) → extended_grid_by (pos 0) bs ns cells q ≡ u
  unfolding extended_grid_by
  grid_one u b l o h = ap (λ s. get_or s 0 (level_at (pos 0) ns cells (cells_under bs ns q))) (outer_one bs ns q u b l o h)

  pub grid_takes : ((b : ℕ) → b < length ns → Lands (bs b) (length_of ns b) (q b)) → Takes bs ns cells q (extended_grid_by (pos 0) bs ns cells q)
  unfolding extended_grid_by
  grid_takes h = go (outer_takes bs ns q v h)
    where
      v : ℤ
      v = level_at (pos 0) ns cells (cells_under bs ns q)

      go : AllRead bs ns q ⊎ ((b : ℕ) × (b < length ns) × Leaves (bs b) (length_of ns b) (q b) (get_or (outer_constants bs ns q) 0 v)) → Takes bs ns cells q (get_or (outer_constants bs ns q) 0 v)
      go (inl r) = at-cell r (ap (λ s. get_or s 0 v) (outer_none bs ns q r))
      go (inr o) = outside_on o.0 o.1 o.2

-- ---- the borders past the axis count are not read
outer_ext : (bs bs' : ℕ → Border ℤ) (ns : List ℕ) (q : Point) → ((a : ℕ) → a < length ns → bs a ≡ bs' a) → outer_constants bs ns q ≡ outer_constants bs' ns q
unfolding outer_constants
outer_ext bs bs' [] q h = refl
outer_ext bs bs' (n ∷ ns) q h =
    (λ j. own_constant (h zero (suc-le-suc zero-le) j) n (q 0) ++ outer_ext (λ a. bs (suc a)) (λ a. bs' (suc a)) ns (λ a. q (suc a)) (λ a l. h (suc a) (suc-le-suc l)) j)

pub grid_ext : (bs bs' : ℕ → Border ℤ) (ns : List ℕ) (cells : List ℤ) (q : Point) → ((a : ℕ) → a < length ns → bs a ≡ bs' a)
    → extended_grid_by (pos 0) bs ns cells q ≡ extended_grid_by (pos 0) bs' ns cells q
unfolding extended_grid_by
grid_ext bs bs' ns cells q h =
    (λ j. get_or (outer_ext bs bs' ns q h j) 0 (get_or cells (place_ext ns (cells_under bs ns q) (cells_under bs' ns q) (λ a l. ap (λ b. cell_under b (length_of ns a) (q a)) (h a l)) j) (pos 0)))
