-- A grid in the middle of a padded one: each cell has its target there, each place of the middle its source, and the two undo each other.
-- Assumes nothing.
use mathlib.Core.Path.{◌≡◌, refl, sym, ap, ◌∙◌}
use mathlib.Core.Bool.{Bool, true, ◌&&◌}
use mathlib.Core.List.{List}
use Prim.Native.Nat.{ℕ, zero, suc, ◌+◌, ◌-◌, ◌≤◌, ◌<◌}
use native.Mathlib.Nat.{not-suc-le-zero, add-zero, zero-add, suc-add, add-suc}
use native.Mathlib.Omega.{arith}
use lib.ListN.{length, get_or}
use Rattle.numbers.proofs.Tests.{and_true}
use Rattle.array_spec.specs.Grid.{cell_count, length_of, place_of, coordinate}
use Rattle.array_spec.proofs.Places.{Within, place_lt, coordinate_place, coordinate_within, place_coordinate, place_ext}
use Rattle.pad_spec.specs.Pads.{in_middle, all_from, middle_from}
use Rattle.pad_spec.proofs.Levels.{in_middle_lem, middle_in}
use Rattle.pad_spec.specs.Frame.{Framed, target_of}
use Rattle.pad_spec.proofs.Room.{grid_accepted, padded-full}

-- ---- a test of every number of a run
all-each : (t : ℕ → Bool) (a n : ℕ) → all_from t a n ≡ true → (i : ℕ) → i < n → t (a + i) ≡ true
all-each t a zero e i h = absurd (not-suc-le-zero h)
all-each t a (suc n) e zero h = ap t (add-zero a) ∙ (and_true (t a) (all_from t (suc a) n) e).0
all-each t a (suc n) e (suc i) h = ap t (add-suc a i ∙ sym (suc-add a i)) ∙ all-each t (suc a) n (and_true (t a) (all_from t (suc a) n) e).1 i (omega arith)

each_all : (t : ℕ → Bool) (a n : ℕ) → ((i : ℕ) → i < n → t (a + i) ≡ true) → all_from t a n ≡ true
each_all t a zero h = refl
each_all t a (suc n) h = (λ j. first j && each_all t (suc a) n later j)
  where
    some : 0 < suc n
    some = omega arith

    more : (i : ℕ) → i < n → suc i < suc n
    more i b = omega arith

    first : t a ≡ true
    first = ap t (sym (add-zero a)) ∙ h zero some

    later : (i : ℕ) → i < n → t (suc a + i) ≡ true
    later i b = ap t (suc-add a i ∙ sym (add-suc a i)) ∙ h (suc i) (more i b)

middle-each : (ns lefts : List ℕ) (q : ℕ → ℕ) → middle_from ns lefts 0 q ≡ true → (a : ℕ) → a < length ns → (get_or lefts a 0 ≤ q a) × (q a < get_or lefts a 0 + length_of ns a)
middle-each ns lefts q e a h = in_middle_lem ns lefts q a (ap (in_middle ns lefts q) (sym (zero-add a)) ∙ all-each (in_middle ns lefts q) 0 (length ns - 0) e a (omega arith))

each-middle : (ns lefts : List ℕ) (q : ℕ → ℕ) → ((a : ℕ) → a < length ns → (get_or lefts a 0 ≤ q a) × (q a < get_or lefts a 0 + length_of ns a)) → middle_from ns lefts 0 q ≡ true
each-middle ns lefts q h = each_all (in_middle ns lefts q) 0 (length ns - 0) (λ i b. at (0 + i) (less i b))
  where
    less : (i : ℕ) → i < length ns - 0 → 0 + i < length ns
    less i b = omega arith

    at : (a : ℕ) → a < length ns → in_middle ns lefts q a ≡ true
    at a b = middle_in ns lefts q a (h a b).0 (h a b).1

-- the cell of the grid that stands at place j of the padded one
abbrev pub source_of : List ℕ → List ℕ → List ℕ → ℕ → ℕ
source_of ns lefts ps j = place_of ns (λ a. coordinate ps j a - get_or lefts a 0)

module _ (ns lefts ps : List ℕ) (F : Framed ns lefts ps) where
  -- coordinates of the grid, moved into the middle
  abbrev pub framed_at : (ℕ → ℕ) → ℕ → ℕ
  framed_at p a = get_or lefts a 0 + p a

  pub framed_within : (p : ℕ → ℕ) → Within ns p → Within ps (framed_at p)
  framed_within p h a l = at (omega (arith, F.axes))
    where
      at : a < length ns → framed_at p a < length_of ps a
      at b = omega (arith, F.room a b, h a b)

  -- the target of the cell with coordinates p
  pub target_place : (p : ℕ → ℕ) → Within ns p → target_of ns lefts ps (place_of ns p) ≡ place_of ps (framed_at p)
  target_place p h = place_ext ps (framed_at (coordinate ns (place_of ns p))) (framed_at p) (λ a l. ap (λ x. get_or lefts a 0 + x) (coordinate_place ns p h a (omega (arith, F.axes))))

  module _ (k : ℕ) (b : k < cell_count ns) where
    own : Within ns (coordinate ns k)
    own = coordinate_within ns k (grid_accepted F).full b

    pub target_lt : target_of ns lefts ps k < cell_count ps
    target_lt = place_lt ps (framed_at (coordinate ns k)) (framed_within (coordinate ns k) own)

    target_coordinate : (a : ℕ) → a < length ns → coordinate ps (target_of ns lefts ps k) a ≡ get_or lefts a 0 + coordinate ns k a
    target_coordinate a l = coordinate_place ps (framed_at (coordinate ns k)) (framed_within (coordinate ns k) own) a (omega (arith, F.axes))

    pub target_middle : middle_from ns lefts 0 (coordinate ps (target_of ns lefts ps k)) ≡ true
    target_middle = each-middle ns lefts (coordinate ps (target_of ns lefts ps k)) (λ a l. (omega (arith, target_coordinate a l), omega (arith, target_coordinate a l, own a l)))

    pub source_target : source_of ns lefts ps (target_of ns lefts ps k) ≡ k
    source_target =
        place_ext ns (λ a. coordinate ps (target_of ns lefts ps k) a - get_or lefts a 0) (coordinate ns k) (λ a l. omega (arith, target_coordinate a l))
        ∙ place_coordinate ns k (grid_accepted F).full b

  module _ (j : ℕ) (b : j < cell_count ps) (m : middle_from ns lefts 0 (coordinate ps j) ≡ true) where
    source_within : Within ns (λ a. coordinate ps j a - get_or lefts a 0)
    source_within a l = let h = middle-each ns lefts (coordinate ps j) m a l in omega (arith, h.0, h.1)

    pub source_lt : source_of ns lefts ps j < cell_count ns
    source_lt = place_lt ns (λ a. coordinate ps j a - get_or lefts a 0) source_within

    pub target_source : target_of ns lefts ps (source_of ns lefts ps j) ≡ j
    target_source =
        target_place (λ a. coordinate ps j a - get_or lefts a 0) source_within
        ∙ place_ext ps (framed_at (λ a. coordinate ps j a - get_or lefts a 0)) (coordinate ps j) (λ a l. back a (omega (arith, F.axes)))
        ∙ place_coordinate ps j (padded-full F) b
      where
        back : (a : ℕ) → a < length ns → get_or lefts a 0 + (coordinate ps j a - get_or lefts a 0) ≡ coordinate ps j a
        back a l = omega (arith, (middle-each ns lefts (coordinate ps j) m a l).0)
