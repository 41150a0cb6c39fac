-- A grid laid under Constant: every place outside the middle holds the constant, so that the middle laid over such a start is the padded grid, and laid over what was
-- lent it is what `pad_to` promises.
-- Assumes nothing.
use mathlib.Core.Path.{◌≡◌, refl, sym, ap, ◌∙◌}
use mathlib.Core.Bool.{Bool, true, false, ◌&&◌, not, cond, true≢false}
use mathlib.Core.List.{List}
use Prim.Native.Nat.{ℕ, zero, suc, ◌+◌, ◌-◌, ◌≤◌, ◌<◌}
use native.Mathlib.Nat.{add-zero, add-suc, suc-add, zero-add}
use native.Mathlib.Omega.{arith}
use borrow.Author.Tests.{leb-false, ltb-false}
use lib.Dec.{leb, ltb}
use lib.IntN.{ℤ, pos}
use lib.ListN.{length, get_or}
use Rattle.numbers.specs.Lists.{tabulate}
use Rattle.numbers.proofs.Tabulate.{length-tabulate, get_d_tabulate, tabulate_unique}
use Rattle.array_spec.specs.Grid.{cell_count, length_of, coordinate, moved}
use Rattle.border.specs.Border.{constant}
use Rattle.border.specs.declared.PadMode.{PadMode}
use Rattle.border.specs.declared.PadMode.TheVariants.{Constant}
use Rattle.pad_line.specs.Line.{padded_at}
use Rattle.pad_line.proofs.Padded.{constant_before, constant_after}
use Rattle.pad_spec.specs.Levels.{keeps_rim, level_to, own_cells, padded_level, padded_grid, padded_over}
use Rattle.pad_spec.specs.Pads.{in_middle, all_from, middle_from, padded_shape}
use Rattle.pad_spec.proofs.Levels.{level-middle}
use Rattle.pad_spec.specs.Frame.{middle_set}
use Rattle.pad_middle.specs.Around.{around_set}
use Rattle.pad.specs.Laid.{laid}
use Rattle.pad.proofs.Laid.{middle-final, middle-read, middle-kept}

-- a run's last member
all-last : (t : ℕ → Bool) (a n : ℕ) → all_from t a (suc n) ≡ all_from t a n && t (a + n)
all-last t a zero = last (t a) ∙ ap t (sym (add-zero a))
  where
    last : (u : Bool) → u && true ≡ u
    last true = refl
    last false = refl
all-last t a (suc n) = ap (λ u. t a && u) (all-last t (suc a) n) ∙ group (t a) (all_from t (suc a) n) (t (suc a + n))
    ∙ ap (λ (x : ℕ). (t a && all_from t (suc a) n) && t x) (suc-add a n ∙ sym (add-suc a n))
  where
    group : (x y z : Bool) → x && (y && z) ≡ (x && y) && z
    group true y z = refl
    group false y z = refl

module _ (c : ℤ) (ns lefts : List ℕ) (cells : List ℤ) where
  -- a place outside the middle of an axis
  beside : (d : ℕ) (q : ℕ → ℕ) → in_middle ns lefts q d ≡ false → level_to (Constant c) ns lefts cells (suc d) q ≡ c
  unfolding level_to
  beside d q e = go (leb (get_or lefts d 0) (q d)) refl (ltb (q d) (get_or lefts d 0 + length_of ns d)) refl
    where
      own : List ℤ
      own = own_cells (Constant c) ns lefts cells d q

      long : length own ≡ length_of ns d
      long = length-tabulate (λ i. level_to (Constant c) ns lefts cells d (moved d (get_or lefts d 0 + i) q)) 0 (length_of ns d)

      go : (t : Bool) → leb (get_or lefts d 0) (q d) ≡ t → (u : Bool) → ltb (q d) (get_or lefts d 0 + length_of ns d) ≡ u → padded_at (pos 0) (constant c) (get_or lefts d 0) own (q d) ≡ c
      go false x u y = sym (constant_before (pos 0) (get_or lefts d 0) own c (q d) (leb-false (get_or lefts d 0) (q d) x))
      go true x false y = sym (constant_after (pos 0) (get_or lefts d 0) own c (q d) (omega (arith, long, ltb-false (q d) (get_or lefts d 0 + length_of ns d) y)))
      go true x true y = absurd (true≢false (sym (λ j. x j && y j) ∙ e))

  outside_from : (d : ℕ) → d ≤ length ns → (q : ℕ → ℕ) → all_from (in_middle ns lefts q) 0 d ≡ false → level_to (Constant c) ns lefts cells d q ≡ c
  outside_from zero h q e = absurd (true≢false e)
  outside_from (suc d) h q e = go (λ m. outside_from d (less d h) q m) (in_middle ns lefts q d) refl
    where
      less : (d : ℕ) → suc d ≤ length ns → d ≤ length ns
      less d h = omega arith

      parts : all_from (in_middle ns lefts q) 0 d && in_middle ns lefts q d ≡ false
      parts = ap (λ (x : ℕ). all_from (in_middle ns lefts q) 0 d && in_middle ns lefts q x) (sym (zero-add d)) ∙ sym (all-last (in_middle ns lefts q) 0 d) ∙ e

      first : (u v : Bool) → v ≡ true → u && v ≡ false → u ≡ false
      first true v x y = sym x ∙ y
      first false v x y = refl

      go : (all_from (in_middle ns lefts q) 0 d ≡ false → level_to (Constant c) ns lefts cells d q ≡ c) → (t : Bool) → in_middle ns lefts q d ≡ t → level_to (Constant c) ns lefts cells (suc d) q ≡ c
      go ih true m = level-middle (Constant c) ns lefts cells d h q m ∙ ih (first (all_from (in_middle ns lefts q) 0 d) (in_middle ns lefts q d) m parts)
      go ih false m = beside d q m

  pub outside_constant : (q : ℕ → ℕ) → middle_from ns lefts 0 q ≡ false → level_to (Constant c) ns lefts cells (length ns) q ≡ c
  outside_constant q e = let n : length ns ≡ length ns - 0 = omega arith in outside_from (length ns) (omega arith) q (ap (all_from (in_middle ns lefts q) 0) n ∙ e)

  -- ---- the middle laid over a start
  module _ (ps : List ℕ) where
    module _ {z : ℤ} (q : z ≡ c) (held : List ℤ) {over out : List ℤ} (h : length held ≡ cell_count ps) where
      laid-around : over ≡ around_set z ns lefts ps held → out ≡ middle_set ns lefts ps cells over → out ≡ laid (Constant c) ns lefts ps cells
      unfolding laid around_set
      laid-around a e =
          tabulate_unique (pos 0) _ out (cell_count ps) (middle-kept (Constant c) ns lefts ps cells over e count)
          (λ k b. middle-read (Constant c) ns lefts ps cells over e count k b ∙ at k b (middle_from ns lefts 0 (coordinate ps k)) refl)
        where
          count : length over ≡ cell_count ps
          count = ap length a ∙ length-tabulate _ 0 (length held) ∙ h

          at : (k : ℕ) → k < cell_count ps → (t : Bool) → middle_from ns lefts 0 (coordinate ps k) ≡ t → cond t (level_to (Constant c) ns lefts cells 0 (coordinate ps k)) (get_or over k (pos 0))
              ≡ level_to (Constant c) ns lefts cells (length ns) (coordinate ps k)
          at k b true m = middle-final (Constant c) ns lefts ps cells k m
          at k b false m =
              ap (λ l. get_or l k (pos 0)) a ∙ get_d_tabulate _ (length held) k (pos 0) (omega arith) ∙ ap (λ t. cond t (get_or held k (pos 0)) z) m ∙ q
              ∙ sym (outside_constant (coordinate ps k) m)

      pub laid_started : (whole : Bool) → over ≡ cond whole (around_set z ns lefts ps held) held → out ≡ middle_set ns lefts ps cells over
          → out ≡ cond whole (laid (Constant c) ns lefts ps cells) (middle_set ns lefts ps cells held)
      laid_started true s e = laid-around s e
      laid_started false s e = e ∙ ap (middle_set ns lefts ps cells) s

  over-middle : (rights : List ℕ) (held : List ℤ) → length held ≡ cell_count (padded_shape ns lefts rights)
      → middle_set ns lefts (padded_shape ns lefts rights) cells held ≡ padded_over (Constant c) ns lefts rights cells held
  unfolding padded_over
  over-middle rights held h =
      tabulate_unique (pos 0) _ (middle_set ns lefts ps cells held) (cell_count ps) (middle-kept (Constant c) ns lefts ps cells held refl h)
      (λ k b. middle-read (Constant c) ns lefts ps cells held refl h k b ∙ at k (middle_from ns lefts 0 (coordinate ps k)) refl)
    where
      ps : List ℕ
      ps = padded_shape ns lefts rights

      at : (k : ℕ) (t : Bool) → middle_from ns lefts 0 (coordinate ps k) ≡ t → cond t (level_to (Constant c) ns lefts cells 0 (coordinate ps k)) (get_or held k (pos 0))
          ≡ cond (true && not t) (get_or held k (pos 0)) (padded_level (Constant c) ns lefts rights cells k)
      at k true m = middle-final (Constant c) ns lefts ps cells k m
      at k false m = refl

-- a start: what was held, or the level around the middle
pub none_started : (whole : Bool) (held around : List ℤ) → not whole ≡ true → held ≡ cond whole around held
none_started true held around e = absurd (true≢false (sym e))
none_started false held around e = refl

pub constant_started : (whole : Bool) (held : List ℤ) {around out : List ℤ} → not whole ≡ false → out ≡ around → out ≡ cond whole around held
constant_started false held w e = absurd (true≢false w)
constant_started true held w e = e

-- ---- what the calls promise of a mode, by what it fills a rim with and the frame as it was set
module _ (ns lefts rights : List ℕ) (cells held : List ℤ) {l p : List ℕ} (e : l ≡ lefts) (f : p ≡ padded_shape ns lefts rights) (whole : Bool) where
  abbrev asked : PadMode → List ℤ
  asked mode = cond whole (padded_grid mode ns lefts rights cells) (padded_over mode ns lefts rights cells held)

  laid-whole : (mode : PadMode) → laid mode ns l p cells ≡ padded_grid mode ns lefts rights cells
  unfolding laid padded_grid
  laid-whole mode = (λ j. laid mode ns (e j) (f j) cells)

  pub asked-level : (mode : PadMode) {c z : ℤ} {new : List ℤ} → mode ≡ Constant c → z ≡ c → length held ≡ cell_count p
      → new ≡ cond whole (laid (Constant z) ns l p cells) (middle_set ns l p cells held) → new ≡ asked mode
  asked-level mode {c} m q h n =
      n ∙ (λ j. cond whole (laid (Constant (q j)) ns l p cells) (middle_set ns l p cells held))
      ∙ (λ j. cond whole (laid-whole (Constant c) j) (over j))
      ∙ ap asked (sym m)
    where
      over : middle_set ns l p cells held ≡ padded_over (Constant c) ns lefts rights cells held
      over = (λ j. middle_set ns (e j) (f j) cells held) ∙ over-middle c ns lefts cells rights held (h ∙ ap cell_count f)

  over-filled : (mode : PadMode) → keeps_rim mode ≡ false → padded_grid mode ns lefts rights cells ≡ padded_over mode ns lefts rights cells held
  unfolding padded_grid padded_over
  over-filled mode r =
      let ps = padded_shape ns lefts rights in
      (λ j. tabulate (λ k. cond (sym r j && not (middle_from ns lefts 0 (coordinate ps k))) (get_or held k (pos 0)) (padded_level mode ns lefts rights cells k)) 0 (cell_count ps))

  pub asked-filled : (mode : PadMode) {other : PadMode} {new : List ℤ} → mode ≡ other → keeps_rim mode ≡ false → new ≡ laid other ns l p cells → new ≡ asked mode
  asked-filled mode m r n = n ∙ ap (λ (x : PadMode). laid x ns l p cells) (sym m) ∙ laid-whole mode ∙ go whole
    where
      go : (t : Bool) → padded_grid mode ns lefts rights cells ≡ cond t (padded_grid mode ns lefts rights cells) (padded_over mode ns lefts rights cells held)
      go true = refl
      go false = over-filled mode r
