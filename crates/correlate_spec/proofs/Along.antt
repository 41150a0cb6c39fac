-- A pass along a row that stores into it from the front, or adds to each cell its next terms, however many; and the row that a loop over the terms begins with:
-- over any element and any operation. Cell i of the row starts with a i, and its terms are f i. Assumes nothing.
use Prim.Native.Nat.{ℕ, ◌+◌, ◌/◌, ◌<◌, ◌≤◌}
use mathlib.Core.Path.{◌≡◌, refl, sym, ap, ◌∙◌}
use mathlib.Core.List.{List}
use native.Mathlib.Omega.{arith}
use borrow.Author.Tests.{le-ltb}
use lib.Dec.{ltb}
use lib.ListN.{length, get_or, set}
use Rattle.numbers.specs.Lists.{tabulate}
use Rattle.numbers.proofs.Stored.{Stored, front-none, front-more, front-all}
use Rattle.numbers.proofs.Tabulate.{length-tabulate, get_d_tabulate}
use Rattle.numbers.proofs.Tests.{cond_no}
use Rattle.correlate_spec.specs.Weighed.{Ops, summed, cell_term, pair_term, plain_to, pairs_to, plain_at, pairs_at}
use Rattle.correlate_spec.proofs.Summed.{summed_parts}

-- ---- a pass along a row of n cells, which stores h from the front: the places before i are stored
pub record Pass {A : Type 0} (d : A) (h : ℕ → A) (l₀ : List A) (n i : ℕ) (l : List A) : Type 0 where
  pub within : i ≤ n
  pub count : n ≡ length l₀
  pub stored : Stored d (λ k. ltb k i) h l₀ l

pub pass_none : {A : Type 0} (d : A) (h : ℕ → A) (l : List A) → Pass d h l (length l) 0 l
pass_none d h l = record { within = omega arith; count = refl; stored = front-none d h l }

module _ {A : Type 0} {d : A} {h : ℕ → A} {l₀ : List A} {n i : ℕ} {l : List A} (P : Pass d h l₀ n i l) where
  pub pass_more : {v : A} → i < n → v ≡ h i → Pass d h l₀ n (i + 1) (set l i v)
  pass_more {v} b e = record { within = omega arith; count = P.count; stored = front-more d h v (omega (arith, P.count)) P.stored e }

  pub pass_all : n ≤ i → l ≡ tabulate h 0 (length l₀)
  pass_all b = front-all d h (omega (arith, P.count)) P.stored

  -- the row still holds at place i what it held
  pub pass_old : i < n → get_or l i d ≡ get_or l₀ i d
  pass_old b = P.stored.cells i (omega (arith, P.count)) ∙ cond_no (ltb i i) (h i) (get_or l₀ i d) (le-ltb i i (omega arith))

-- .. which is g i where it was a row of g
pub pass_held : {A : Type 0} {d : A} (g : ℕ → A) {h : ℕ → A} {l₀ l : List A} {n i : ℕ} → l₀ ≡ tabulate g 0 (length l₀) → Pass d h l₀ n i l → i < n → get_or l i d ≡ g i
pass_held {d = d} g {l₀ = l₀} {i = i} e P b = pass_old P b ∙ ap (λ s. get_or s i d) e ∙ get_d_tabulate g (length l₀) i d (omega (arith, P.count))

-- ---- from one row to the next: a row of n cells, cell i of which is g i
pub record Row {A : Type 0} (g : ℕ → A) (n : ℕ) (l : List A) : Type 0 where
  pub is : l ≡ tabulate g 0 n

module _ {A : Type 0} {g : ℕ → A} {n : ℕ} {l : List A} (r : Row g n l) where
  pub row_length_lem : length l ≡ n
  row_length_lem = ap length r.is ∙ length-tabulate g 0 n

  pub row_own : l ≡ tabulate g 0 (length l)
  row_own = r.is ∙ ap (tabulate g 0) (sym row_length_lem)

  pub row_next : {h : ℕ → A} {m : List A} → m ≡ tabulate h 0 (length l) → Row h n m
  row_next {h} q = record { is = q ∙ ap (tabulate h 0) row_length_lem }

-- a row as a call leaves it
pub row_made : {A : Type 0} (g : ℕ → A) (n : ℕ) {l : List A} → l ≡ tabulate g 0 n → Row g (length l) l
row_made g n {l} e = let r : Row g n l = record { is = e } in record { is = row_own r }

module _ {A : Type 0} (add : A → A → A) (a : ℕ → A) (f : ℕ → ℕ → A) where
  -- before the first term, and after the last
  pub row_start_lem : (n : ℕ) {l : List A} → l ≡ tabulate a 0 n → Row (λ i. summed add (a i) (f i) 0) (length l) l
  unfolding summed
  row_start_lem n e = row_made a n e

  pub row_end : {j k n m : ℕ} {l : List A} → Row (λ i. summed add (a i) (f i) j) n l → j ≡ k → n ≡ m → l ≡ tabulate (λ i. summed add (a i) (f i) k) 0 m
  row_end {j} {k} {n} {m} {l} r p q = r.is ∙ (λ t. tabulate (λ i. summed add (a i) (f i) (p t)) 0 (q t))

  -- one cell more of a pass that adds the next m terms to each cell
  pub row_terms : (d : A) (j m : ℕ) {l₀ l : List A} {n i : ℕ} {v : A} → l₀ ≡ tabulate (λ k. summed add (a k) (f k) j) 0 (length l₀)
      → Pass d (λ k. summed add (a k) (f k) (j + m)) l₀ n i l → i < n → v ≡ summed add (get_or l i d) (λ k. f i (j + k)) m
      → Pass d (λ k. summed add (a k) (f k) (j + m)) l₀ n (i + 1) (set l i v)
  row_terms d j m {i = i} e P b q = pass_more P b (q ∙ ap (λ x. summed add x (λ k. f i (j + k)) m) (pass_held (λ k. summed add (a k) (f k) j) e P b) ∙ summed_parts add (a i) (f i) j m)

-- ---- the two loops over the weights: where they start and where they end
module _ {A : Type 0} (o : Ops A) (w s : List A) where
  pub plain_end : {j n m : ℕ} {l : List A} → Row (plain_to o w s j) n l → j ≡ length w → n ≡ m → l ≡ tabulate (plain_at o w s) 0 m
  plain_end r p q = row_end o.sum (λ i. o.none) (cell_term o w s) r p q

  module _ (op : A → A → A) where
    pub pairs_start : (n : ℕ) {l : List A} → l ≡ tabulate (λ i. cell_term o w s i (length w / 2)) 0 n → Row (pairs_to o op w s 0) (length l) l
    pairs_start n e = row_start_lem o.sum (λ i. cell_term o w s i (length w / 2)) (pair_term o op w s) n e

    pub pairs_end : {j n m : ℕ} {l : List A} → Row (pairs_to o op w s j) n l → j ≡ length w / 2 → n ≡ m → l ≡ tabulate (pairs_at o op w s) 0 m
    pairs_end r p q = row_end o.sum (λ i. cell_term o w s i (length w / 2)) (pair_term o op w s) r p q
