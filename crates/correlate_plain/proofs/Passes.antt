-- From one pass along the row to the next: what is held then, how large it is, and one weight, three or four more.
-- Assumes nothing.
use Prim.Native.Nat.{ℕ, ◌+◌, ◌*◌, ◌^◌, ◌<◌, ◌≤◌}
use mathlib.Core.Path.{◌≡◌, refl, sym, ap, ◌∙◌}
use mathlib.Core.Bool.{Bool}
use mathlib.Core.List.{List}
use native.Mathlib.Nat.{add-zero, mul-le-mul, le_refl}
use native.Mathlib.Omega.{arith}
use lib.IntN.{ℤ, pos, ◌+ℤ◌, +ℤ_assoc, +ℤ_idr}
use lib.ListN.{length, get_or}
use Rattle.numbers.specs.Lists.{tabulate, any_of}
use Rattle.numbers.proofs.Any.{none_any}
use Rattle.numbers.proofs.Size.{Size, size_add, size_le, member_sized, tested_sized, inside_sized}
use Rattle.numbers.proofs.Tabulate.{get_d_tabulate, tabulate_agree, tabulate_unique, every_table}
use Rattle.correlate_spec.specs.Weighed.{summed, whole_ops, cell_term, plain_to}
use Rattle.correlate_spec.specs.Sizes.{LineSumNeeds}
use Rattle.correlate_spec.proofs.Along.{Row, row_length_lem}
use Rattle.correlate_spec.proofs.Sizes.{size_plain}
use Rattle.correlate_spec.proofs.Summed.{summed-more, summed_parts}
use Rattle.correlate_spec.proofs.Terms.{weighable_kept, cell_size, weight_size}
use Rattle.direction.specs.Direction.{directed}
use Rattle.correlate_plain.specs.Added.{plus, three_terms, four_terms, added_to, AddNeeds, Passed}
use Rattle.correlate_plain.proofs.Directed.{line-directed}

-- ---- a row of any sums, to which a pass adds f
pub row_plus : {g h : ℕ → ℤ} {m : ℕ} {out new : List ℤ} → Row g m out → (f : ℕ → ℤ) → ((i : ℕ) → g i +ℤ f i ≡ h i) → new ≡ tabulate (plus out f) 0 (length out) → Row h m new
row_plus {g} {h} {m} {out} R f p e = record { is = e ∙ ap (tabulate (plus out f) 0) (row_length_lem R) ∙ tabulate_agree (plus out f) h 0 m (λ i b. at (0 + i) (omega arith)) }
  where
    at : (i : ℕ) → i < m → plus out f i ≡ h i
    at i b = ap (λ (l : List ℤ). get_or l i (pos 0) +ℤ f i) R.is ∙ ap (λ (x : ℤ). x +ℤ f i) (get_d_tabulate g m i (pos 0) b) ∙ p i

-- .. what the next pass supposes of it
row_passed : {w s : List ℤ} {g : ℕ → ℤ} {m : ℕ} {out : List ℤ} → Row g m out → LineSumNeeds w s m → ((i : ℕ) → Size (g i) (2 ^ 62)) → Passed w s out
row_passed {g = g} {m = m} R W size = record {
  line = weighable_kept (row_length_lem R) W;
  small = ap (any_of _) R.is ∙ none_any _ (tabulate g 0 m) (every_table _ g 0 m (λ i. inside_sized (2 ^ 62) (g i) (size i)));
}

-- ---- the first n weights are added to what was held
pub record Adding (w s held : List ℤ) (n : ℕ) (out : List ℤ) : Type 0 where
  pub is : out ≡ tabulate (added_to held w s n) 0 (length held)

pub adding_none : (w s held : List ℤ) → Adding w s held 0 held
unfolding summed
adding_none w s held = record { is = tabulate_unique (pos 0) (added_to held w s 0) held (length held) refl (λ k b. sym (+ℤ_idr (get_or held k (pos 0)))) }

module _ (w s : List ℤ) (n : ℕ) where
  abbrev to : ℕ → ℕ → ℤ
  to m i = plain_to whole_ops w s m i

  -- the sum of n weights, and one, three or four more terms
  pub one-term : (i : ℕ) → to n i +ℤ cell_term whole_ops w s i n ≡ to (n + 1) i
  one-term i = summed-more ◌+ℤ◌ (pos 0) (cell_term whole_ops w s i) n

  three_terms_lem : (i : ℕ) → to n i +ℤ three_terms w s i n ≡ to (n + 3) i
  unfolding summed
  three_terms_lem i = apart (to n i) (f n) (f (n + 1)) (f (n + 2)) ∙ ap (λ k. to n i +ℤ f k +ℤ f (n + 1) +ℤ f (n + 2)) (sym (add-zero n))
      ∙ summed_parts ◌+ℤ◌ (pos 0) f n 3
    where
      f : ℕ → ℤ
      f j = cell_term whole_ops w s i j

      apart : (a b c d : ℤ) → a +ℤ (b +ℤ c +ℤ d) ≡ a +ℤ b +ℤ c +ℤ d
      apart a b c d = simp +ℤ_assoc

  four_terms_lem : (i : ℕ) → to n i +ℤ four_terms w s i n ≡ to (n + 4) i
  four_terms_lem i = sym (+ℤ_assoc (to n i) (three_terms w s i n) (f (n + 3))) ∙ ap (λ (x : ℤ). x +ℤ f (n + 3)) (three_terms_lem i) ∙ summed-more ◌+ℤ◌ (pos 0) f (n + 3) ∙ ap (λ m. to m i) (omega arith)
    where
      f : ℕ → ℤ
      f j = cell_term whole_ops w s i j

module _ {w s held : List ℤ} {n : ℕ} {out : List ℤ} (R : Adding w s held n out) where
  row : Row (added_to held w s n) (length held) out
  row = record { is = R.is }

  pub adding_length : length out ≡ length held
  adding_length = row_length_lem row

  -- a pass that adds f is the row of m weights
  more : (m : ℕ) {new : List ℤ} (f : ℕ → ℤ) → ((i : ℕ) → plain_to whole_ops w s n i +ℤ f i ≡ plain_to whole_ops w s m i) → new ≡ tabulate (plus out f) 0 (length out) → Adding w s held m new
  more m {new} f g e = record { is = sums.is }
    where
      sums : Row (added_to held w s m) (length held) new
      sums = row_plus row f (λ i. +ℤ_assoc (get_or held i (pos 0)) (plain_to whole_ops w s n i) (f i) ∙ ap (λ (x : ℤ). get_or held i (pos 0) +ℤ x) (g i)) e

  pub one_more_lem : {new : List ℤ} → new ≡ tabulate (plus out (λ i. cell_term whole_ops w s i n)) 0 (length out) → Adding w s held (n + 1) new
  one_more_lem e = more (n + 1) (λ i. cell_term whole_ops w s i n) (one-term w s n) e

  pub three-more : {new : List ℤ} → new ≡ tabulate (plus out (λ i. three_terms w s i n)) 0 (length out) → Adding w s held (n + 3) new
  three-more e = more (n + 3) (λ i. three_terms w s i n) (three_terms_lem w s n) e

  pub four-more : {new : List ℤ} → new ≡ tabulate (plus out (λ i. four_terms w s i n)) 0 (length out) → Adding w s held (n + 4) new
  four-more e = more (n + 4) (λ i. four_terms w s i n) (four_terms_lem w s n) e

  -- n by another name
  pub adding_all : {m : ℕ} → n ≡ m → out ≡ tabulate (added_to held w s m) 0 (length held)
  adding_all e = R.is ∙ ap (λ (m : ℕ). tabulate (added_to held w s m) 0 (length held)) e

-- ---- what the next pass supposes: of the weights as they are lent, in either direction
module _ (backward : Bool) {w s : List ℤ} {m : ℕ} (W : LineSumNeeds w s m) {n : ℕ} (b : n ≤ length w) where
  many : (0 + n * 1) * (2 ^ 38 * 65535) ≤ 65 * (2 ^ 38 * 65535)
  many = mul-le-mul {n₂ = 65} (omega (arith, W.few)) (le_refl (2 ^ 38 * 65535))

  to_size : (i : ℕ) → Size (plain_to whole_ops (directed backward w) s n i) (65 * (2 ^ 38 * 65535))
  to_size i = let D = line-directed backward W in size_le (size_plain (2 ^ 38) 65535 (directed backward w) s (cell_size D) (weight_size D) n i) (omega (arith, many))

  pub set_passed : {out : List ℤ} → Row (plain_to whole_ops (directed backward w) s n) m out → Passed w s out
  set_passed R = row_passed R W (λ i. size_le (to_size i) (omega arith))

pub passed : (backward : Bool) {w s held out : List ℤ} {n : ℕ} → Adding (directed backward w) s held n out → AddNeeds w s held → n ≤ length w → Passed w s out
passed backward {held = held} R A b = row_passed (row R) A.line
    (λ i. size_le (size_add (member_sized (2 ^ 61) held (tested_sized (2 ^ 61) held A.small) i) (to_size backward A.line b i)) (omega arith))
