-- The means of a line while they are written to the cells of a lane, one after the other.
-- Assumes nothing.
use Prim.Native.Nat.{ℕ, ◌+◌, ◌*◌, ◌≤◌, ◌<◌}
use mathlib.Core.Path.{◌≡◌, sym, ap, subst, ◌∙◌}
use mathlib.Core.List.{List}
use lib.IntN.{ℤ, pos}
use lib.ListN.{length, set}
use Rattle.numbers.proofs.Tabulate.{length-tabulate, get_d_tabulate}
use Rattle.lanes.specs.Lanes.{lane_base, with_lane}
use Rattle.lanes.proofs.Stores.{Written, written_more, written_all}
use Rattle.correlate_spec.specs.WindowSum.{window_sum}
use Rattle.uniform_spec.specs.Mean.{cut, means}

module _ (s : List ℤ) (size n : ℕ) where
  long : length (means s size n) ≡ n
  long = length-tabulate (λ i. cut (window_sum s size i) size) 0 n

  -- the next mean, at its cell
  pub means-more : {stride l base i : ℕ} {g₀ g : List ℤ} (v : ℤ) → 0 < stride → base ≡ lane_base n stride l → i < n → base + i * stride < length g₀ → v ≡ cut (window_sum s size i) size
      → Written (pos 0) (means s size n) stride l g₀ g i → Written (pos 0) (means s size n) stride l g₀ (set g (base + i * stride) v) (i + 1)
  means-more {stride} {l} {i = i} v p e h b q =
      written_more v p (e ∙ ap (λ (k : ℕ). lane_base k stride l) (sym long)) (subst (λ (k : ℕ). i < k) (sym long) h) b (q ∙ sym (get_d_tabulate (λ i. cut (window_sum s size i) size) n i (pos 0) h))

  -- all of them: the lane is written
  pub means-all : {stride l i : ℕ} {g₀ g : List ℤ} → 0 < n → n ≤ i → Written (pos 0) (means s size n) stride l g₀ g i → g ≡ with_lane (pos 0) n stride l (means s size n) g₀
  means-all {stride} {l} {i} {g₀} p h W =
      written_all (subst (λ (k : ℕ). 0 < k) (sym long) p) (subst (λ (k : ℕ). k ≤ i) (sym long) h) W ∙ ap (λ (k : ℕ). with_lane (pos 0) k stride l (means s size n) g₀) long
