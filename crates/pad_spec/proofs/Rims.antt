-- A lane of a grid while its rims are filled, over any element and border: cell by cell from its start up to its own cells, then from their end on.
-- Assumes nothing.
use mathlib.Core.Path.{◌≡◌, refl, sym, ap, subst, ◌∙◌}
use mathlib.Core.Bool.{Bool, true, false, ◌&&◌, ◌||◌, cond, and-false}
use mathlib.Core.List.{List}
use Prim.Native.Nat.{ℕ, ◌+◌, ◌*◌, ◌-◌, ◌/◌, ◌%◌, ◌≤◌, ◌<◌, zero-le}
use native.Mathlib.Nat.{mod-lt}
use native.Mathlib.Omega.{arith}
use borrow.Author.Tests.{lt-ltb, le-ltb, ltb-true, ltb-false, eqb-true}
use lib.Dec.{ltb, eqb}
use lib.ListN.{length, get_or, take, drop, set, length-take, length-drop}
use lib.Seq.{get_or-take, get_or-drop, ext_get_or}
use Rattle.numbers.proofs.Stored.{Stored, stored_none, stored_one, stored_then, stored_table, stored_agree}
use Rattle.numbers.proofs.Tabulate.{tabulate_agree}
use Rattle.numbers.proofs.Tests.{ltb-more}
use Rattle.lanes.specs.Lanes.{lane_of, lane_base, lane_inside, lane, with_lane}
use Rattle.lanes.proofs.Cells.{Inside, lane_inside_lem, inside-whole, index_in, length-lane_at, get_d_lane_at, same_cell, place_of_cell, cell_of_lane}
use Rattle.lanes.proofs.Stores.{on_lane}
use Rattle.border.specs.Border.{Border, constant}
use Rattle.pad_line.specs.Line.{padded_at, padded_line}
use Rattle.pad_line.proofs.Padded.{padded-inside, constant_before, constant_after, get_d_padded}

-- the lane's own cells
abbrev pub own_of : {A : Type 0} → A → ℕ → ℕ → ℕ → ℕ → ℕ → List A → List A
own_of d p s l left n g = take n (drop left (lane d p s l g))

module _ {A : Type 0} (d : A) (p s l left n : ℕ) (g : List A) where
  pub length_own : left + n ≤ p → length (own_of d p s l left n g) ≡ n
  length_own h = let e = length-lane_at d g (lane_base p s l) s p in simp (length-take, length-drop) (omega (arith, e))

  pub get_d_own : left + n ≤ p → (i : ℕ) → i < n → get_or (own_of d p s l left n g) i d ≡ get_or g (lane_base p s l + (left + i) * s) d
  get_d_own h i b =
      get_or-take n (drop left (lane d p s l g)) i d b ∙ get_or-drop left (lane d p s l g) i d
      ∙ get_d_lane_at d g (lane_base p s l) s p (left + i) (omega arith)

-- the level that belongs at a place of the grid that is on the lane
abbrev pub rim_at : {A : Type 0} → A → Border A → ℕ → ℕ → ℕ → ℕ → ℕ → List A → ℕ → A
rim_at d b p s l left n g j = padded_at d b left (own_of d p s l left n g) (j / s % p)

-- g is g₀ with the first k cells of the lane filled
pub record Filled {A : Type 0} (d : A) (b : Border A) (p s l left n : ℕ) (g₀ g : List A) (k : ℕ) : Type 0 where
  pub stored : Stored d (on_lane p s l k) (rim_at d b p s l left n g₀) g₀ g

pub filled_none : {A : Type 0} (d : A) (b : Border A) (p s l left n : ℕ) (g : List A) → Filled d b p s l left n g g 0
filled_none d b p s l left n g = record {
  stored = stored_none d (rim_at d b p s l left n g) (on_lane p s l 0) g
      (λ j. ap (λ t. eqb (lane_of p s j) l && t) (le-ltb (j / s % p) 0 zero-le) ∙ and-false (eqb (lane_of p s j) l));
}

-- the grid keeps its length
pub inside-kept : {A : Type 0} {d : A} {b : Border A} {p s l left n : ℕ} {g₀ g : List A} {k : ℕ} → Filled d b p s l left n g₀ g k
    → lane_inside p s l (length g₀) ≡ true → lane_inside p s l (length g) ≡ true
inside-kept {p = p} {s} {l} F h = ap (lane_inside p s l) F.stored.kept ∙ h

both : (a b c : Bool) → a && (b || c) ≡ (a && b) || (a && c)
both true b c = refl
both false b c = refl

module _ {A : Type 0} {d : A} {b : Border A} {p s l left n : ℕ} {g₀ g : List A} {k at : ℕ} (F : Filled d b p s l left n g₀ g k)
    (inside : lane_inside p s l (length g₀) ≡ true) (e : at ≡ lane_base p s l) where
  I : Inside p s l (length g₀)
  I = lane_inside_lem p s l (length g₀) inside

  -- the cell of a lane that is inside the grid is
  pub cell_in : (i : ℕ) → i < p → at + i * s < length g₀
  cell_in i h = index_in at s (length g₀) h (subst (λ (m : ℕ). m + p * s < length g₀ + s) (sym e) (inside-whole I))

  more : (v : A) → k < p → v ≡ padded_at d b left (own_of d p s l left n g₀) k → Filled d b p s l left n g₀ (set g (at + k * s) v) (k + 1)
  more v h q = record {
    stored =
        stored_then d (rim_at d b p s l left n g₀) (on_lane p s l k) (λ j. eqb j (at + k * s)) (on_lane p s l (k + 1)) F.stored
        (stored_one d (rim_at d b p s l left n g₀) g (at + k * s) v (subst (λ (m : ℕ). at + k * s < m) (sym F.stored.kept) (cell_in k h))
        (q ∙ ap (padded_at d b left (own_of d p s l left n g₀)) (sym (ap (λ x. (x + k * s) / s % p) e ∙ place_of_cell p s I.some I.apart l k h))))
        (λ j. ap (λ t. eqb (lane_of p s j) l && t) (ltb-more (j / s % p) k)
        ∙ both (eqb (lane_of p s j) l) (eqb (j / s % p) k) (ltb (j / s % p) k)
        ∙ ap (λ t. t || on_lane p s l k j) (sym (ap (λ x. eqb j (x + k * s)) e ∙ same_cell p s I.some I.apart l k j h)));
  }

  -- the lane's own cells are never changed
  pub own_kept : left + n ≤ p → (i : ℕ) → i < n → get_or g (at + (left + i) * s) d ≡ get_or (own_of d p s l left n g₀) i d
  own_kept room i h =
      let j = at + (left + i) * s in
      let place : j / s % p ≡ left + i = ap (λ x. (x + (left + i) * s) / s % p) e ∙ place_of_cell p s I.some I.apart l (left + i) (omega arith) in
      F.stored.cells j (cell_in (left + i) (omega arith))
      ∙ go j place (on_lane p s l k j)
    where
      go : (j : ℕ) → j / s % p ≡ left + i → (t : Bool) → cond t (rim_at d b p s l left n g₀ j) (get_or g₀ (at + (left + i) * s) d) ≡ get_or (own_of d p s l left n g₀) i d
      go j q true =
          ap (padded_at d b left (own_of d p s l left n g₀)) q
          ∙ padded-inside d left (own_of d p s l left n g₀) b i (omega (arith, length_own d p s l left n g₀ room))
      go j q false = ap (λ x. get_or g₀ (x + (left + i) * s) d) e ∙ sym (get_d_own d p s l left n g₀ room i h)

  -- they hold what belongs there already
  pub filled_own : left + n ≤ p → k ≡ left → Filled d b p s l left n g₀ g (left + n)
  filled_own room z = record {
    stored = record {
      kept = F.stored.kept;
      cells = λ j h. F.stored.cells j h
          ∙ at-cell j (eqb (lane_of p s j) l) refl (ltb (j / s % p) k) refl (ltb (j / s % p) (left + n)) refl;
    };
  }
    where
      own_cell : (j : ℕ) → lane_of p s j ≡ l → left ≤ j / s % p → j / s % p < left + n → get_or g₀ j d ≡ rim_at d b p s l left n g₀ j
      own_cell j q lo hi =
          let i = j / s % p - left in
          let r : left + i ≡ j / s % p = omega arith in
          ap (λ x. get_or g₀ x d) (cell_of_lane p s I.some I.apart j ∙ (λ t. lane_base p s (q t) + sym r t * s))
          ∙ sym (get_d_own d p s l left n g₀ room i (omega arith))
          ∙ sym (padded-inside d left (own_of d p s l left n g₀) b i (omega (arith, length_own d p s l left n g₀ room)))
          ∙ ap (padded_at d b left (own_of d p s l left n g₀)) r

      wrong : (j : ℕ) → j / s % p < k → left + n ≤ j / s % p → ⊥
      wrong j u v = omega arith

      at-cell : (j : ℕ) (t : Bool) → eqb (lane_of p s j) l ≡ t → (u : Bool) → ltb (j / s % p) k ≡ u → (v : Bool) → ltb (j / s % p) (left + n) ≡ v
          → cond (eqb (lane_of p s j) l && ltb (j / s % p) k) (rim_at d b p s l left n g₀ j) (get_or g₀ j d)
          ≡ cond (eqb (lane_of p s j) l && ltb (j / s % p) (left + n)) (rim_at d b p s l left n g₀ j) (get_or g₀ j d)
      at-cell j false x u y v w = rw x refl
      at-cell j true x true y true w = rw (x, y, w) refl
      at-cell j true x true y false w = absurd (wrong j (ltb-true (j / s % p) k y) (ltb-false (j / s % p) (left + n) w))
      at-cell j true x false y false w = rw (x, y, w) refl
      at-cell j true x false y true w =
          rw (x, y, w) (own_cell j (eqb-true (lane_of p s j) l x) (subst (λ (m : ℕ). m ≤ j / s % p) z (ltb-false (j / s % p) k y)) (ltb-true (j / s % p) (left + n) w))

  -- ---- a second run starts from what the first left: the lane's own cells are the same, and the places up to their end hold what belongs there
  pub own_same : left + n ≤ p → own_of d p s l left n g ≡ own_of d p s l left n g₀
  own_same room =
      ext_get_or d (own_of d p s l left n g) (own_of d p s l left n g₀) (length_own d p s l left n g room ∙ sym (length_own d p s l left n g₀ room))
      (λ i h. own_cells_lem i (omega (arith, length_own d p s l left n g room)))
    where
      own_cells_lem : (i : ℕ) → i < n → get_or (own_of d p s l left n g) i d ≡ get_or (own_of d p s l left n g₀) i d
      own_cells_lem i h = get_d_own d p s l left n g room i h ∙ ap (λ x. get_or g (x + (left + i) * s) d) (sym e) ∙ own_kept room i h

  pub filled_again : left + n ≤ p → k ≡ left → Filled d b p s l left n g g (left + n)
  filled_again room z = record { stored = record { kept = refl; cells = λ j h. at-cell j h (on_lane p s l (left + n) j) refl } }
    where
      at-cell : (j : ℕ) → j < length g → (t : Bool) → on_lane p s l (left + n) j ≡ t → get_or g j d ≡ cond t (rim_at d b p s l left n g j) (get_or g j d)
      at-cell j h false q = refl
      at-cell j h true q =
          (filled_own room z).stored.cells j (subst (λ (m : ℕ). j < m) F.stored.kept h)
          ∙ ap (λ t. cond t (rim_at d b p s l left n g₀ j) (get_or g₀ j d)) q
          ∙ ap (λ (x : List A). padded_at d b left x (j / s % p)) (sym (own_same room))

  pub filled-joined : {g₂ : List A} {m : ℕ} → left + n ≤ p → k ≡ left → left + n ≤ m → Filled d b p s l left n g g₂ m → Filled d b p s l left n g₀ g₂ m
  filled-joined {g₂} {m} room z h G = record {
    stored =
        stored_then d (rim_at d b p s l left n g₀) (on_lane p s l (left + n)) (on_lane p s l m) (on_lane p s l m) (filled_own room z).stored
        (stored_agree d (rim_at d b p s l left n g) (on_lane p s l m) (rim_at d b p s l left n g₀)
        (λ j q. ap (λ (x : List A). padded_at d b left x (j / s % p)) (own_same room)) G.stored)
        (λ j. wider j (eqb (lane_of p s j) l) (ltb (j / s % p) (left + n)) refl (ltb (j / s % p) m) refl);
  }
    where
      below : (x : ℕ) → x < left + n → x < m
      below x b = omega arith

      wider : (j : ℕ) (t u : Bool) → ltb (j / s % p) (left + n) ≡ u → (v : Bool) → ltb (j / s % p) m ≡ v → t && v ≡ (t && v) || (t && u)
      wider j false u x v y = refl
      wider j true u x true y = refl
      wider j true false x false y = refl
      wider j true true x false y = sym y ∙ lt-ltb (j / s % p) m (below (j / s % p) (ltb-true (j / s % p) (left + n) x))

  -- the whole lane is filled
  pub filled-all : left + n ≤ p → p ≤ k → g ≡ with_lane d p s l (padded_line d b left (p - (left + n)) (own_of d p s l left n g₀)) g₀
  unfolding with_lane
  filled-all room h =
      stored_table d (rim_at d b p s l left n g₀) (on_lane p s l k) F.stored
      ∙ tabulate_agree _ (λ j. cond (eqb (lane_of p s j) l) (get_or (padded_line d b left (p - (left + n)) (own_of d p s l left n g₀)) (j / s % p) d) (get_or g₀ j d)) 0 (length g₀)
      (λ j c. same (0 + j))
    where
      past : (m : ℕ) → m < p → m < k
      past m c = omega arith

      same : (j : ℕ) → cond (on_lane p s l k j) (rim_at d b p s l left n g₀ j) (get_or g₀ j d)
          ≡ cond (eqb (lane_of p s j) l) (get_or (padded_line d b left (p - (left + n)) (own_of d p s l left n g₀)) (j / s % p) d) (get_or g₀ j d)
      same j =
          let m : j / s % p < p = mod-lt (j / s) I.some in
          let w : j / s % p < left + length (own_of d p s l left n g₀) + (p - (left + n)) = omega (arith, length_own d p s l left n g₀ room) in
          ap (λ t. cond (eqb (lane_of p s j) l && t) (rim_at d b p s l left n g₀ j) (get_or g₀ j d)) (lt-ltb (j / s % p) k (past (j / s % p) m))
          ∙ whole (eqb (lane_of p s j) l) (sym (get_d_padded d left (own_of d p s l left n g₀) b (p - (left + n)) (j / s % p) w))
        where
          whole : (t : Bool) {x y : A} → x ≡ y → cond (t && true) x (get_or g₀ j d) ≡ cond t y (get_or g₀ j d)
          whole true q = q
          whole false q = refl

-- ---- one place more, of either rim, where both hold one level
module _ {A : Type 0} {d c : A} {p s l left n : ℕ} {g₀ g : List A} {k at : ℕ} (F : Filled d (constant c) p s l left n g₀ g k)
    (inside : lane_inside p s l (length g₀) ≡ true) (e : at ≡ lane_base p s l) (room : left + n ≤ p) where
  pub before_constant : (v : A) → k < left → v ≡ c → Filled d (constant c) p s l left n g₀ (set g (at + k * s) v) (k + 1)
  before_constant v h q = more F inside e v (omega arith) (q ∙ constant_before d left (own_of d p s l left n g₀) c k h)

  pub after_constant : (v : A) → left + n ≤ k → k < p → v ≡ c → Filled d (constant c) p s l left n g₀ (set g (at + k * s) v) (k + 1)
  after_constant v h b q = more F inside e v b (q ∙ constant_after d left (own_of d p s l left n g₀) c k (omega (arith, length_own d p s l left n g₀ room)))
