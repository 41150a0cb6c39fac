-- The sources of an axis: every place of its padded line reads a cell of the axis or, under Constant, none; and padding the numbers of its cells finds them.
-- Assumes nothing.
use mathlib.Core.Path.{◌≡◌, refl, sym, ap, subst, ◌∙◌}
use mathlib.Core.Bool.{Bool, true, false, cond, true≢false}
use mathlib.Core.List.{List}
use Prim.Native.Nat.{ℕ, suc, ◌+◌, ◌-◌, ◌*◌, ◌≤◌, ◌<◌}
use native.Mathlib.Omega.{arith}
use borrow.Author.Tests.{ltb-true, ltb-false}
use lib.Dec.{ltb}
use lib.IntN.{ℤ, pos, negsuc, neg_ℤ, nat_abs, ◌-ℤ◌}
use lib.ListN.{length, get_or}
use Rattle.numbers.specs.Lists.{tabulate}
use Rattle.numbers.proofs.IntSum.{minus_pos, minus-neg, +ℤ-right-comm}
use Rattle.numbers.proofs.Size.{Size, size_read}
use Rattle.numbers.proofs.Tabulate.{length-tabulate, get_d_tabulate}
use Rattle.lanes.specs.Lanes.{lane, lane_base}
use Rattle.lanes.proofs.Cells.{length-lane_at}
use Rattle.border.specs.Border.{Border, constant, along, cell_after, cell_for, inside, extended_lane}
use Rattle.border.specs.declared.CellBorder.{CellBorder}
use Rattle.pad_line.specs.Line.{padded_at, padded_lane}
use Rattle.border.specs.Reach.{bad_along, bad_pad}
use Rattle.pad_line.proofs.Reach.{cell-before_in, cell-after_in}
use Rattle.correlate_spec.proofs.Computed.{read}
use Rattle.correlate_grid_axes.specs.declared.axes.Axis.{Axis}
use Rattle.correlate_grid_axes.specs.Axes.{Serves, read_at, source_for, numbered, Found}
use Rattle.correlate_grid_axes.proofs.Lines.{lane_row, padded-cell}

-- ---- the cell that is read is on the axis
abbrev pub ReadsIn : Border ℤ → ℕ → ℤ → Type 0
ReadsIn (constant c) n z = Unit {0}
ReadsIn (along m) n z = cell_for m n z < n

module _ (m : CellBorder) (n left right : ℕ) (some : 0 < n) (fl : bad_along m n left ≡ false) (fr : bad_along m n right ≡ false) (k : ℕ) (h : k < left + n + right) where
  before-cell : k < left → cell_for m n (negsuc (left - suc k)) < n
  unfolding cell_for
  before-cell b = cell-before_in m n left (left - suc k + 1) some (omega arith) (omega arith) fl refl

  after-cell : left ≤ k → cell_for m n (pos (k - left)) < n
  unfolding cell_for
  after-cell b = go (ltb (k - left) n) refl
    where
      go : (t : Bool) → ltb (k - left) n ≡ t → cond t (k - left) (cell_after m n (k - left + 1 - n)) < n
      go true e = ltb-true (k - left) n e
      go false e = let p = ltb-false (k - left) n e in cell-after_in m n right (k - left + 1 - n) some (omega arith) (omega arith) fr refl

  cell_in : cell_for m n (pos k -ℤ pos left) < n
  cell_in = go (ltb k left) refl
    where
      go : (t : Bool) → ltb k left ≡ t → cell_for m n (pos k -ℤ pos left) < n
      go true e = let b = ltb-true k left e in subst (λ (z : ℤ). cell_for m n z < n) (sym (minus-neg k left b)) (before-cell b)
      go false e = let b = ltb-false k left e in subst (λ (z : ℤ). cell_for m n z < n) (sym (minus_pos k left b)) (after-cell b)

pub reads_in : (b : Border ℤ) (x : Axis) → Serves b x → (k : ℕ) → k < x.left + x.len + x.right → ReadsIn b x.len (pos k -ℤ pos x.left)
reads_in (constant c) x S k h = tt
reads_in (along m) x S k h = cell_in m x.len x.left x.right S.some S.fills_left S.fills_right k h

-- what is read for cell p by kernel coordinate q stands at place p + q of the padded line
pub read_place : (x : Axis) (p q : ℕ) → pos (p + q) -ℤ pos x.left ≡ read_at x p q
read_place x p q = +ℤ-right-comm (pos p) (pos q) (neg_ℤ (pos x.left))

pub read_in : (b : Border ℤ) (x : Axis) → Serves b x → (p q : ℕ) → p < x.len → q < x.side → ReadsIn b x.len (read_at x p q)
read_in b x S p q h l = subst (ReadsIn b x.len) (read_place x p q) (reads_in b x S (p + q) (omega (arith, S.wide)))

-- ---- the numbers of the cells, padded
module _ (n left : ℕ) (s : List ℤ) (long : length s ≡ n) (own : (i : ℕ) → i < n → get_or s i (pos 0) ≡ pos i) where
  counted : (z : ℤ) (t : Bool) → inside n z ≡ t → cond t (get_or s (nat_abs z) (pos 0)) (negsuc 0) ≡ cond t z (negsuc 0)
  counted (pos i) true e = own i (ltb-true i n e)
  counted (negsuc i) true e = absurd (true≢false (sym e))
  counted z false e = refl

  source-at : (b : Border ℤ) (z : ℤ) → ReadsIn b n z → extended_lane (numbered b) (length s) (λ i. get_or s i (pos 0)) z ≡ source_for b n z
  unfolding extended_lane source_for
  source-at (constant c) z r = ap (λ (x : ℕ). cond (inside x z) (get_or s (nat_abs z) (pos 0)) (negsuc 0)) long ∙ counted z (inside n z) refl
  source-at (along m) z r = ap (λ (x : ℕ). get_or s (cell_for m x z) (pos 0)) long ∙ own (cell_for m n z) r

  numbers-source : (b : Border ℤ) (k : ℕ) → ReadsIn b n (pos k -ℤ pos left) → padded_at (pos 0) (numbered b) left s k ≡ source_for b n (pos k -ℤ pos left)
  unfolding padded_at
  numbers-source b k r = source-at b (pos k -ℤ pos left) r

pub sources_found : (b c : Border ℤ) (x : Axis) (g held t : List ℤ) → Serves b x → c ≡ numbered b → g ≡ tabulate pos 0 1024 → length held ≡ 1088 → length t ≡ length held
    → t ≡ padded_lane (pos 0) c x.len 1 0 x.left x.right g held → Found b x t
sources_found b c x g held t S e o h k r = record {
  long = k ∙ h;
  at = λ i l.
      ap (λ (s : List ℤ). get_or s i (pos 0)) (r ∙ (λ j. padded_lane (pos 0) (e j) x.len 1 0 x.left x.right (o j) held))
      ∙ padded-cell (pos 0) (numbered b) x.len 0 x.left x.right numbers held S.some (omega (arith, size, S.short)) (omega (arith, size)) (omega (arith, S.pads, S.short))
      (fills b x.left S.fills_left) (fills b x.right S.fills_right) i l
      ∙ numbers-source x.len x.left (lane (pos 0) x.len 1 0 numbers) (length-lane_at (pos 0) numbers (lane_base x.len 1 0) 1 x.len) own b i (reads_in b x S i l);
}
  where
    numbers : List ℤ
    numbers = tabulate pos 0 1024

    size : length numbers ≡ 1024
    size = length-tabulate pos 0 1024

    fills : (b : Border ℤ) (pad : ℕ) → bad_pad b x.len pad ≡ false → bad_pad (numbered b) x.len pad ≡ false
    fills (constant c) pad q = refl
    fills (along m) pad q = q

    own : (i : ℕ) → i < x.len → get_or (lane (pos 0) x.len 1 0 numbers) i (pos 0) ≡ pos i
    own i l =
        let z : 0 * x.len + i ≡ i = omega arith in
        lane_row (pos 0) x.len 0 numbers i l ∙ ap (λ (j : ℕ). get_or numbers j (pos 0)) z ∙ get_d_tabulate pos 1024 i (pos 0) (omega (arith, S.short))

-- ---- a source is a cell of the axis or −1
abbrev pub Known : ℕ → ℤ → Type 0
Known n (pos i) = i < n
Known n (negsuc j) = j ≡ 0

source_known : (b : Border ℤ) (n : ℕ) (u : ℤ) → ReadsIn b n u → Known n (source_for b n u)
unfolding source_for
source_known (constant c) n u r = go u (inside n u) refl
  where
    go : (u : ℤ) (t : Bool) → inside n u ≡ t → Known n (cond t u (negsuc 0))
    go (pos i) true e = ltb-true i n e
    go (negsuc j) true e = absurd (true≢false (sym e))
    go u false e = refl
source_known (along m) n u r = r

known_small : (n : ℕ) (s : ℤ) → Known n s → n ≤ 1024 → nat_abs s ≤ 1024
known_small n (pos i) h l = omega arith
known_small n (negsuc j) h l = omega arith

-- ---- what the table has for cell p and kernel coordinate q
module _ {b : Border ℤ} {x : Axis} {t : List ℤ} (S : Serves b x) (F : Found b x t) {p q : ℕ} (h : p < x.len) (l : q < x.side) where
  pub place_in : p + q < length t
  place_in = omega (arith, F.long, S.wide, S.pads, S.short)

  pub table_is : get_or t (p + q) (pos 0) ≡ source_for b x.len (read_at x p q)
  table_is = F.at (p + q) (omega (arith, S.wide)) ∙ ap (source_for b x.len) (read_place x p q)

  pub table_known : Known x.len (get_or t (p + q) (pos 0))
  table_known = subst (Known x.len) (sym table_is) (source_known b x.len (read_at x p q) (read_in b x S p q h l))

  pub table_small : nat_abs (get_or t (p + q) (pos 0)) ≤ 1024
  table_small = known_small x.len (get_or t (p + q) (pos 0)) table_known S.short

  -- the same, read by the machine
  pub table_held : nat_abs (read (get_or t (p + q) (pos 0))) ≤ 1024
  table_held = let h : Size (get_or t (p + q) (pos 0)) 1024 = record { size = table_small } in (size_read h (omega arith)).size
