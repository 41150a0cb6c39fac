-- The weighted sum of a window, from SciPy's page on `correlate1d`, over any element: which operations, and in which
-- order. The cells of a window and the weights are handed in as x 0, x 1, .. and v 0, v 1, .., as many as there are
-- weights.
--   Ops A               the operations on an element: what stands past the end of a line, zero, sum, difference and
--                       product
--   whole_ops            whole numbers, unbounded
--   float_ops            floats, each operation rounded
--   summed add a f n    a, plus f 0, plus f 1, .., n terms, added from left to right
--   term_of o x v j      cell j times weight j
--   pair_of o op x v len j    the pair of the cells j and len − 1 − j, joined by op, times weight j
--   plain_sum o x v len       from zero, every cell times its weight
--   pairs_sum o op x v len    from the middle cell times the middle weight, the pairs of the left half; right-half
--                            weights are not read
--   ordered_sum o class x v len    plain_sum; pairs joined by sum where the weights are Symmetric, by difference where
--                                 they are AntiSymmetric
-- The same of a padded line s and the weights w. The window of cell i is the line's cells from place i on.
--   cell_term o w s i j      the window's cell j times weight j
--   pair_term o op w s i j   the pair of the window's cells j and len − 1 − j, joined by op, times weight j
--   plain_to o w s n i       from zero, the first n cells of the window, each times its weight
--   pairs_to o op w s n i    from the middle cell times the middle weight, the first n pairs of the left half
--   plain_at o w s i         plain_to of every cell
--   pairs_at o op w s i      pairs_to of every pair
--   weighed_at o class w s i    the sum of the window of cell i, in the order of the class
--   weighed_line o class w s n  the weighted sums of cells 0 to n − 1
use Rattle.std.specs.Prelude.{ℕ, zero, suc, ◌+◌, ◌-◌, ◌/◌, false, List, Float, ℤ, pos, ◌+ℤ◌, ◌-ℤ◌, ◌*ℤ◌, length, get_or}
use Rattle.std.specs.Float.{nan, fin, binary64}
use Rattle.std.specs.Float.Ieee.{add, sub, mul}
use Rattle.numbers.specs.Lists.{tabulate}
use Rattle.symmetry_spec.specs.declared.SymmetryState.{SymmetryState}
use Rattle.symmetry_spec.specs.declared.SymmetryState.TheVariants.{NonSymmetric, Symmetric, AntiSymmetric}

pub record Ops (A : Type 0) : Type 0 where
  pub past : A
  pub none : A
  pub sum : A → A → A
  pub difference : A → A → A
  pub product : A → A → A

abbrev pub whole_ops : Ops ℤ
whole_ops = record { past = pos 0; none = pos 0; sum = ◌+ℤ◌; difference = ◌-ℤ◌; product = ◌*ℤ◌ }

abbrev pub float_ops : Ops Float
float_ops = record {
  past = nan;
  none = fin false 0 (pos 0);
  sum = add binary64;
  difference = sub binary64;
  product = mul
      binary64;
}

unfoldable pub summed : {A : Type 0} → (A → A → A) → A → (ℕ → A) → ℕ → A
summed add a f zero = a
summed add a f (suc n) = add (summed add a f n) (f n)

abbrev pub term_of : {A : Type 0} → Ops A → (ℕ → A) → (ℕ → A) → ℕ → A
term_of o x v j = o.product (x j) (v j)

abbrev pub pair_of : {A : Type 0} → Ops A → (A → A → A) → (ℕ → A) → (ℕ → A) → ℕ → ℕ → A
pair_of o op x v len j = o.product (op (x j) (x (len - 1 - j))) (v j)

abbrev pub plain_sum : {A : Type 0} → Ops A → (ℕ → A) → (ℕ → A) → ℕ → A
plain_sum o x v len = summed o.sum o.none (term_of o x v) len

abbrev pub pairs_sum : {A : Type 0} → Ops A → (A → A → A) → (ℕ → A) → (ℕ → A) → ℕ → A
pairs_sum o op x v len = summed o.sum (term_of o x v (len / 2)) (pair_of o op x v len) (len / 2)

abbrev pub ordered_sum : {A : Type 0} → Ops A → SymmetryState → (ℕ → A) → (ℕ → A) → ℕ → A
ordered_sum o NonSymmetric x v len = plain_sum o x v len
ordered_sum o Symmetric x v len = pairs_sum o o.sum x v len
ordered_sum o AntiSymmetric x v len = pairs_sum o o.difference x v len

abbrev pub cell_term : {A : Type 0} → Ops A → List A → List A → ℕ → ℕ → A
cell_term o w s i j = term_of o (λ k. get_or s (i + k) o.past) (λ k. get_or w k o.past) j

abbrev pub pair_term : {A : Type 0} → Ops A → (A → A → A) → List A → List A → ℕ → ℕ → A
pair_term o op w s i j = pair_of o op (λ k. get_or s (i + k) o.past) (λ k. get_or w k o.past) (length w) j

abbrev pub plain_to : {A : Type 0} → Ops A → List A → List A → ℕ → ℕ → A
plain_to o w s n i = summed o.sum o.none (cell_term o w s i) n

abbrev pub pairs_to : {A : Type 0} → Ops A → (A → A → A) → List A → List A → ℕ → ℕ → A
pairs_to o op w s n i = summed o.sum (cell_term o w s i (length w / 2)) (pair_term o op w s i) n

abbrev pub plain_at : {A : Type 0} → Ops A → List A → List A → ℕ → A
plain_at o w s i = plain_to o w s (length w) i

abbrev pub pairs_at : {A : Type 0} → Ops A → (A → A → A) → List A → List A → ℕ → A
pairs_at o op w s i = pairs_to o op w s (length w / 2) i

abbrev pub weighed_at : {A : Type 0} → Ops A → SymmetryState → List A → List A → ℕ → A
weighed_at o class w s i = ordered_sum o class (λ k. get_or s (i + k) o.past) (λ k. get_or w k o.past) (length w)

abbrev pub weighed_line : {A : Type 0} → Ops A → SymmetryState → List A → List A → ℕ → List A
weighed_line o class w s n = tabulate (weighed_at o class w s) 0 n
