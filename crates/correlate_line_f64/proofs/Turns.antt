-- One turn of a loop along a row: what the code adds to a cell is the sum of its next terms, whether it takes one, three, four or five weights a pass.
-- Assumes nothing.
use Prim.Native.Nat.{ℕ, ◌+◌, ◌<◌}
use mathlib.Core.Path.{◌≡◌, ap, ◌∙◌}
use mathlib.Core.List.{List}
use native.Mathlib.Nat.{zero-add}
use native.Mathlib.Omega.{arith}
use lib.Ieee.{Float, nan}
use lib.ListN.{length, get_or, set}
use Rattle.numbers.specs.Lists.{tabulate}
use Rattle.correlate_spec.specs.Weighed.{float_ops, summed, cell_term, plain_to}
use Rattle.correlate_spec.proofs.Along.{Pass, row_terms}
use Rattle.correlate_spec.proofs.Summed.{summed_parts}
use Rattle.correlate_pairs_f64.proofs.Turns.{weight_itself}
use Rattle.correlate_line_f64.specs.Four.{four_more}

-- p, q, r and t are the weights from weight j on
abbrev pub Weights : List Float → ℕ → Float → Float → Float → Float → Type 0
Weights w j p q r t = (p ≡ get_or w j nan) × (q ≡ get_or w (j + 1) nan) × (r ≡ get_or w (j + 2) nan) × (t ≡ get_or w (j + 3) nan)

module _ (w s : List Float) where
  -- y, plus m terms of cell i from weight j on
  abbrev more : ℕ → ℕ → ℕ → Float → Float
  more i j m y = summed float_ops.sum y (λ k. cell_term float_ops w s i (j + k)) m

  -- a row's first m terms, and its next m
  pub plain-first : (i m : ℕ) → more i 0 m float_ops.none ≡ plain_to float_ops w s m i
  unfolding summed
  plain-first i m =
      summed_parts float_ops.sum float_ops.none (cell_term float_ops w s i) 0 m
      ∙ ap (summed float_ops.sum float_ops.none (cell_term float_ops w s i)) (zero-add m)

  pub plain_more : (j m : ℕ) {l₀ l : List Float} {n i : ℕ} {v : Float} → l₀ ≡ tabulate (plain_to float_ops w s j) 0 (length l₀)
      → Pass nan (plain_to float_ops w s (j + m)) l₀ n i l → i < n → v ≡ more i j m (get_or l i nan) → Pass nan (plain_to float_ops w s (j + m)) l₀ n (i + 1) (set l i v)
  plain_more j m e P b q = row_terms float_ops.sum (λ i. float_ops.none) (cell_term float_ops w s) nan j m e P b q

  -- the code reads the cells of the window from place a on
  module _ (i j a : ℕ) (y : Float) (e : a ≡ i + j) where
    term : (b k : ℕ) {v : Float} → b ≡ i + (j + k) → v ≡ get_or w (j + k) nan → float_ops.product (get_or s b nan) v ≡ cell_term float_ops w s i (j + k)
    term b k p q = (λ t. float_ops.product (get_or s (p t) nan) (q t))

    first : {v : Float} → v ≡ get_or w j nan → float_ops.product (get_or s a nan) v ≡ cell_term float_ops w s i (j + 0)
    first q = term a 0 (omega arith) (weight_itself w j q)

    pub one-term : {v : Float} → v ≡ get_or w j nan → float_ops.sum y (float_ops.product (get_or s a nan) v) ≡ more i j 1 y
    unfolding summed
    one-term q = ap (float_ops.sum y) (first q)

    pub three_terms_lem : {p q r : Float} → p ≡ get_or w j nan → q ≡ get_or w (j + 1) nan → r ≡ get_or w (j + 2) nan
        → float_ops.sum (float_ops.sum (float_ops.sum y (float_ops.product (get_or s a nan) p)) (float_ops.product (get_or s (a + 1) nan) q)) (float_ops.product (get_or s (a + 2) nan) r)
        ≡ more i j 3 y
    unfolding summed
    three_terms_lem p q r =
        let t₀ = first p in
        let t₁ = term (a + 1) 1 (omega arith) q in
        let t₂ = term (a + 2) 2 (omega arith) r in
        (λ τ. float_ops.sum (float_ops.sum (float_ops.sum y (t₀ τ)) (t₁ τ)) (t₂ τ))

    pub four_terms_lem : {p q r t : Float} → Weights w j p q r t → four_more y s a p q r t ≡ more i j 4 y
    unfolding summed
    four_terms_lem {p} {q} {r} {t} v =
        let t₀ = first v.0 in
        let t₁ = term (a + 1) 1 (omega arith) v.1 in
        let t₂ = term (a + 2) 2 (omega arith) v.2 in
        let t₃ = term (a + 3) 3 (omega arith) v.3 in
        (λ τ. float_ops.sum (float_ops.sum (float_ops.sum (float_ops.sum y (t₀ τ)) (t₁ τ)) (t₂ τ)) (t₃ τ))

  -- and of five, the fifth after four
  pub five_terms : (i : ℕ) (y : Float) {x p q r t v : Float} → Weights w 0 p q r t → v ≡ get_or w 4 nan → x ≡ four_more y s i p q r t
      → float_ops.sum x (float_ops.product (get_or s (i + 4) nan) v) ≡ more i 0 5 y
  unfolding summed
  five_terms i y u ev ex = (λ τ. float_ops.sum ((ex ∙ four_terms_lem i 0 i y (omega arith) u) τ) (float_ops.product (get_or s (i + 4) nan) (ev τ)))
