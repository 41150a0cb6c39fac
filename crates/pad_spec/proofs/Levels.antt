-- The level at padded coordinates: it depends on the grid's own axes only, and on an axis where a place is in the middle the filling of that axis changes nothing.
-- So once an axis is filled, its lane through a place is its own cells extended (level-axis).
-- Assumes nothing.
use mathlib.Core.Path.{◌≡◌, refl, sym, ap, ◌∙◌}
use mathlib.Core.Bool.{Bool, true, false, ◌&&◌, cond}
use mathlib.Core.List.{List}
use Prim.Native.Nat.{ℕ, zero, suc, ◌+◌, ◌-◌, ◌≤◌, ◌<◌}
use native.Mathlib.Omega.{arith}
use borrow.Author.Tests.{leb-true, ltb-true, le-leb, lt-ltb, eqb-true, eq-eqb, ne_eqb}
use lib.Dec.{leb, ltb, eqb}
use lib.IntN.{ℤ, pos}
use lib.ListN.{length, get_or}
use Rattle.numbers.specs.Lists.{tabulate}
use Rattle.numbers.proofs.Tabulate.{length-tabulate, get_d_tabulate, tabulate_agree}
use Rattle.numbers.proofs.Tests.{and_true}
use Rattle.array_spec.specs.Grid.{length_of, moved}
use Rattle.array_spec.proofs.Places.{place_ext}
use Rattle.border.specs.declared.PadMode.{PadMode}
use Rattle.pad_line.specs.Line.{padded_at}
use Rattle.pad_line.proofs.Padded.{padded-inside}
use Rattle.pad_spec.specs.Fill.{rim_of}
use Rattle.pad_spec.specs.Levels.{level_to, own_cells}
use Rattle.pad_spec.specs.Pads.{in_middle, all_from, middle_from}

-- ---- coordinates with one of them replaced
pub moved_at : {A : Type 0} (a : ℕ) (z : A) (q : ℕ → A) → moved a z q a ≡ z
moved_at a z q = ap (λ t. cond t z (q a)) (eq-eqb a a refl)

pub moved-off : {A : Type 0} (a b : ℕ) (z : A) (q : ℕ → A) → (b ≡ a → ⊥) → moved a z q b ≡ q b
moved-off a b z q h = ap (λ t. cond t z (q b)) (ne_eqb b a h)

-- ---- the middle
pub in_middle_lem : (ns lefts : List ℕ) (q : ℕ → ℕ) (a : ℕ) → in_middle ns lefts q a ≡ true → (get_or lefts a 0 ≤ q a) × (q a < get_or lefts a 0 + length_of ns a)
in_middle_lem ns lefts q a e =
    let p = and_true (leb (get_or lefts a 0) (q a)) (ltb (q a) (get_or lefts a 0 + length_of ns a)) e in
    (leb-true (get_or lefts a 0) (q a) p.0, ltb-true (q a) (get_or lefts a 0 + length_of ns a) p.1)

pub middle_in : (ns lefts : List ℕ) (q : ℕ → ℕ) (a : ℕ) → get_or lefts a 0 ≤ q a → q a < get_or lefts a 0 + length_of ns a → in_middle ns lefts q a ≡ true
middle_in ns lefts q a h k = (λ j. le-leb (get_or lefts a 0) (q a) h j && lt-ltb (q a) (get_or lefts a 0 + length_of ns a) k j)

module _ (mode : PadMode) (ns lefts : List ℕ) (cells : List ℤ) where
  -- ---- coordinates that agree on the grid's own axes
  pub level_ext : (d : ℕ) → d ≤ length ns → (p q : ℕ → ℕ) → ((a : ℕ) → a < length ns → p a ≡ q a) → level_to mode ns lefts cells d p ≡ level_to mode ns lefts cells d q
  unfolding level_to
  level_ext zero h p q e = ap (λ k. get_or cells k (pos 0)) (place_ext ns (λ a. p a - get_or lefts a 0) (λ a. q a - get_or lefts a 0) (λ a l. ap (λ x. x - get_or lefts a 0) (e a l)))
  level_ext (suc d) h p q e = go (λ i. level_ext d (less d h) (moved d (get_or lefts d 0 + i) p) (moved d (get_or lefts d 0 + i) q) (same i))
    where
      less : (d : ℕ) → suc d ≤ length ns → d ≤ length ns
      less d h = omega arith

      same : (i a : ℕ) → a < length ns → moved d (get_or lefts d 0 + i) p a ≡ moved d (get_or lefts d 0 + i) q a
      same i a l = ap (cond (eqb a d) (get_or lefts d 0 + i)) (e a l)

      go : ((i : ℕ) → level_to mode ns lefts cells d (moved d (get_or lefts d 0 + i) p) ≡ level_to mode ns lefts cells d (moved d (get_or lefts d 0 + i) q))
          → level_to mode ns lefts cells (suc d) p ≡ level_to mode ns lefts cells (suc d) q
      go ih = (λ j. padded_at (pos 0) (rim_of mode (own j)) (get_or lefts d 0) (own j) (e d h j))
        where
          own : own_cells mode ns lefts cells d p ≡ own_cells mode ns lefts cells d q
          own =
              tabulate_agree (λ i. level_to mode ns lefts cells d (moved d (get_or lefts d 0 + i) p)) (λ i. level_to mode ns lefts cells d (moved d (get_or lefts d 0 + i) q)) 0 (length_of ns d)
              (λ i b. ih (0 + i))

  -- ---- a place in the middle of an axis
  pub level-middle : (d : ℕ) → d < length ns → (q : ℕ → ℕ) → in_middle ns lefts q d ≡ true → level_to mode ns lefts cells (suc d) q ≡ level_to mode ns lefts cells d q
  unfolding level_to
  level-middle d h q e =
      let m = in_middle_lem ns lefts q d e in
      let L = get_or lefts d 0 in
      let i = q d - L in
      let own = own_cells mode ns lefts cells d q in
      let r : L + i ≡ q d = omega (arith, m.0) in
      let b : i < length_of ns d = omega (arith, m.0, m.1) in
      ap (padded_at (pos 0) (rim_of mode own) L own) (sym r)
      ∙ padded-inside (pos 0) L own (rim_of mode own) i (omega (arith, length-tabulate (λ i. level_to mode ns lefts cells d (moved d (L + i) q)) 0 (length_of ns d)))
      ∙ get_d_tabulate (λ i. level_to mode ns lefts cells d (moved d (L + i) q)) (length_of ns d) i (pos 0) b
      ∙ level_ext d (omega arith) (moved d (L + i) q) q (λ a l. back L i r a (eqb a d) refl)
    where
      back : (L i : ℕ) → L + i ≡ q d → (a : ℕ) (t : Bool) → eqb a d ≡ t → moved d (L + i) q a ≡ q a
      back L i r a true t = ap (λ t. cond t (L + i) (q a)) t ∙ r ∙ sym (ap q (eqb-true a d t))
      back L i r a false t = ap (λ t. cond t (L + i) (q a)) t

  -- ---- a place in the middle of every axis from d on
  pub level_from : (n d : ℕ) → d + n ≤ length ns → (q : ℕ → ℕ) → all_from (in_middle ns lefts q) d n ≡ true → level_to mode ns lefts cells (d + n) q ≡ level_to mode ns lefts cells d q
  level_from zero d h q e = ap (λ (m : ℕ). level_to mode ns lefts cells m q) (none d)
    where
      none : (d : ℕ) → d + 0 ≡ d
      none d = omega arith
  level_from (suc n) d h q e =
      let p = and_true (in_middle ns lefts q d) (all_from (in_middle ns lefts q) (suc d) n) e in
      ap (λ (m : ℕ). level_to mode ns lefts cells m q) (step d n) ∙ level_from n (suc d) (omega arith) q p.1 ∙ level-middle d (omega arith) q p.0
    where
      step : (d n : ℕ) → d + suc n ≡ suc d + n
      step d n = omega arith

  pub level_rest : (d : ℕ) → d ≤ length ns → (q : ℕ → ℕ) → middle_from ns lefts d q ≡ true → level_to mode ns lefts cells (length ns) q ≡ level_to mode ns lefts cells d q
  level_rest d h q e =
      let r : d + (length ns - d) ≡ length ns = omega arith in
      ap (λ (m : ℕ). level_to mode ns lefts cells m q) (sym r) ∙ level_from (length ns - d) d (omega arith) q e

  -- ---- an axis: the later ones in the middle, the lane's own cells extended
  pub all_agree : (n d : ℕ) (p q : ℕ → ℕ) → ((a : ℕ) → d ≤ a → p a ≡ q a) → all_from (in_middle ns lefts p) d n ≡ all_from (in_middle ns lefts q) d n
  all_agree zero d p q e = refl
  all_agree (suc n) d p q e =
      (λ j. (leb (get_or lefts d 0) (first j) && ltb (first j) (get_or lefts d 0 + length_of ns d)) && all_agree n (suc d) p q later j)
    where
      first : p d ≡ q d
      first = e d (omega arith)

      later : (a : ℕ) → suc d ≤ a → p a ≡ q a
      later a h = e a (omega arith)

  pub middle-moved : (d i : ℕ) → d < length ns → i < length_of ns d → (q : ℕ → ℕ) → middle_from ns lefts (suc d) q ≡ true
      → middle_from ns lefts d (moved d (get_or lefts d 0 + i) q) ≡ true
  middle-moved d i h b q e =
      let L = get_or lefts d 0 in
      let r : length ns - d ≡ suc (length ns - suc d) = omega arith in
      ap (all_from (in_middle ns lefts (moved d (L + i) q)) d) r
      ∙ (λ j. middle_in ns lefts (moved d (L + i) q) d (low L) (high L) j && all_agree (length ns - suc d) (suc d) (moved d (L + i) q) q (other L) j)
      ∙ e
    where
      low : (L : ℕ) → L ≤ moved d (L + i) q d
      low L = omega (arith, moved_at d (L + i) q)

      high : (L : ℕ) → moved d (L + i) q d < L + length_of ns d
      high L = omega (arith, moved_at d (L + i) q)

      apart : (a : ℕ) → suc d ≤ a → a ≡ d → ⊥
      apart a g z = omega arith

      other : (L a : ℕ) → suc d ≤ a → moved d (L + i) q a ≡ q a
      other L a g = moved-off d a (L + i) q (apart a g)

  pub level-axis : (d : ℕ) → d < length ns → (q : ℕ → ℕ) → middle_from ns lefts (suc d) q ≡ true
      → (own : List ℤ) → own ≡ tabulate (λ i. level_to mode ns lefts cells (length ns) (moved d (get_or lefts d 0 + i) q)) 0 (length_of ns d)
      → level_to mode ns lefts cells (length ns) q ≡ padded_at (pos 0) (rim_of mode own) (get_or lefts d 0) own (q d)
  unfolding level_to
  level-axis d h q e own f =
      level_rest (suc d) h q e ∙ (λ j. padded_at (pos 0) (rim_of mode (cells_same j)) (get_or lefts d 0) (cells_same j) (q d))
    where
      less : d ≤ length ns
      less = omega arith

      cells_same : own_cells mode ns lefts cells d q ≡ own
      cells_same =
          tabulate_agree (λ i. level_to mode ns lefts cells d (moved d (get_or lefts d 0 + i) q)) (λ i. level_to mode ns lefts cells (length ns) (moved d (get_or lefts d 0 + i) q)) 0 (length_of ns d)
          (λ i b. sym (level_rest d less (moved d (get_or lefts d 0 + (0 + i)) q) (middle-moved d (0 + i) h (within i b) q e)))
          ∙ sym f
        where
          within : (i : ℕ) → i < length_of ns d → 0 + i < length_of ns d
          within i b = omega arith
