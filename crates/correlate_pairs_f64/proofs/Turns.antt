-- One turn of a loop along a row: what the code adds to a cell is the sum of its next terms, whether it takes one pair a pass or three; and the sum that the row starts with.
-- Assumes nothing.
use Prim.Native.Nat.{ℕ, ◌+◌, ◌-◌, ◌/◌, ◌<◌}
use mathlib.Core.Path.{◌≡◌, sym, ap, ◌∙◌}
use mathlib.Core.Bool.{Bool}
use mathlib.Core.List.{List}
use native.Mathlib.Nat.{add-zero}
use native.Mathlib.Omega.{arith}
use lib.Ieee.{Float, nan}
use lib.ListN.{length, get_or, set}
use Rattle.numbers.specs.Lists.{tabulate}
use Rattle.correlate_spec.specs.Weighed.{float_ops, summed, cell_term, pair_term, pairs_to}
use Rattle.correlate_spec.specs.Joined.{joined_by}
use Rattle.correlate_spec.proofs.Along.{Pass, row_terms}

-- weight j is weight j + 0
pub weight_itself : (w : List Float) (j : ℕ) {v : Float} → v ≡ get_or w j nan → v ≡ get_or w (j + 0) nan
weight_itself w j q = q ∙ ap (λ k. get_or w k nan) (sym (add-zero j))

-- ---- pair by pair, joined by op
module _ (w s : List Float) (minus : Bool) where
  abbrev op : Float → Float → Float
  op = joined_by float_ops minus

  pub pairs_more : (j m : ℕ) {l₀ l : List Float} {n i : ℕ} {v : Float} → l₀ ≡ tabulate (pairs_to float_ops op w s j) 0 (length l₀)
      → Pass nan (pairs_to float_ops op w s (j + m)) l₀ n i l → i < n → v ≡ summed float_ops.sum (get_or l i nan) (λ k. pair_term float_ops op w s i (j + k)) m
      → Pass nan (pairs_to float_ops op w s (j + m)) l₀ n (i + 1) (set l i v)
  pairs_more j m e P b q = row_terms float_ops.sum (λ i. cell_term float_ops w s i (length w / 2)) (pair_term float_ops op w s) nan j m e P b q

  -- the cells at places a and b, joined, times v
  abbrev joined : ℕ → ℕ → Float → Float
  joined a b v = float_ops.product (op (get_or s a nan) (get_or s b nan)) v

  -- r is the place that mirrors j, and the place before it mirrors j + 1
  module _ (i j r : ℕ) (y : Float) (e : r ≡ length w - 1 - j) where
    pair : (a b k : ℕ) {x v : Float} → x ≡ joined a b v → a ≡ i + (j + k) → b ≡ i + (length w - 1 - (j + k)) → v ≡ get_or w (j + k) nan → x ≡ pair_term float_ops op w s i (j + k)
    pair a b k q ea eb ev = q ∙ (λ t. joined (ea t) (eb t) (ev t))

    mirror : (k : ℕ) → i + (r - k) ≡ i + (length w - 1 - (j + k))
    mirror k = omega arith

    outer : {x v : Float} → v ≡ get_or w j nan → x ≡ joined (i + j) (i + r) v → x ≡ pair_term float_ops op w s i (j + 0)
    outer u q = pair (i + j) (i + r) 0 q (omega arith) (omega arith) (weight_itself w j u)

    pub one-pair : {x v : Float} → v ≡ get_or w j nan → x ≡ joined (i + j) (i + r) v → float_ops.sum y x ≡ summed float_ops.sum y (λ k. pair_term float_ops op w s i (j + k)) 1
    unfolding summed
    one-pair u q = ap (float_ops.sum y) (outer u q)

    pub three_pairs : {x z q u v t : Float} → u ≡ get_or w j nan → v ≡ get_or w (j + 1) nan → t ≡ get_or w (j + 2) nan
        → x ≡ joined (i + j) (i + r) u → z ≡ joined (i + j + 1) (i + (r - 1)) v → q ≡ joined (i + j + 2) (i + (r - 2)) t
        → float_ops.sum (float_ops.sum (float_ops.sum y x) z) q ≡ summed float_ops.sum y (λ k. pair_term float_ops op w s i (j + k)) 3
    unfolding summed
    three_pairs eu ev et ex ez eq =
        let t₁ = pair (i + j + 1) (i + (r - 1)) 1 ez (omega arith) (mirror 1) ev in
        let t₂ = pair (i + j + 2) (i + (r - 2)) 2 eq (omega arith) (mirror 2) et in
        (λ τ. float_ops.sum (float_ops.sum (float_ops.sum y (outer eu ex τ)) (t₁ τ)) (t₂ τ))

  -- the middle cell and the outermost pair, whose places are 0 and r; m is the middle
  module _ (i m r : ℕ) (em : m ≡ length w / 2) (er : r ≡ length w - 1 - 0) where
    middle : {v : Float} → v ≡ get_or w m nan → float_ops.product (get_or s (i + m) nan) v ≡ cell_term float_ops w s i (length w / 2)
    middle ev = (λ t. float_ops.product (get_or s (i + m) nan) (ev t)) ∙ ap (cell_term float_ops w s i) em

    outermost : {x u : Float} → u ≡ get_or w 0 nan → x ≡ joined i (i + r) u → x ≡ pair_term float_ops op w s i 0
    outermost eu ex = ex ∙ (λ t. joined (sym (add-zero i) t) (i + er t) (eu t))

    pub first-pair : {x u v : Float} → v ≡ get_or w m nan → u ≡ get_or w 0 nan → x ≡ joined i (i + r) u → float_ops.sum (float_ops.product (get_or s (i + m) nan) v) x ≡ pairs_to float_ops op w s 1 i
    unfolding summed
    first-pair ev eu ex = (λ t. float_ops.sum (middle ev t) (outermost eu ex t))

-- a pair that was joined as the code tested is joined as it was told: m is what the code tested for
pub condition_is : (m minus : Bool) (x y v : Float) → m ≡ minus → float_ops.product (joined_by float_ops minus x y) v ≡ float_ops.product (joined_by float_ops m x y) v
condition_is m minus x y v e = ap (λ b. float_ops.product (joined_by float_ops b x y) v) (sym e)
