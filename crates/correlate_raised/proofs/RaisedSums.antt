-- The sum of the raised terms, from where it starts, is the plain sum: what raising adds is what the start takes away.
-- Assumes nothing.
use Prim.Native.Nat.{ℕ, ◌+◌, ◌≤◌}
use mathlib.Core.Path.{◌≡◌, sym, ap, subst, ◌∙◌}
use mathlib.Core.Bool.{Bool}
use mathlib.Core.List.{List}
use native.Mathlib.Omega.{arith}
use lib.IntN.{ℤ, pos, neg_ℤ, ◌+ℤ◌, ◌-ℤ◌, ◌*ℤ◌, *ℤ_comm, +ℤ_assoc, +ℤ_comm, +ℤ_idl, neg_ℤ-+ℤ, +ℤ-neg_ℤ_cancel}
use lib.ListN.{length, get_or}
use Rattle.numbers.specs.Lists.{tabulate}
use Rattle.numbers.specs.Sums.{sum_of}
use Rattle.numbers.proofs.Tabulate.{length-tabulate, tabulate_agree}
use Rattle.numbers.proofs.IntProduct.{*ℤ-distrib-right, *ℤ-distrib-left}
use Rattle.correlate_spec.specs.Weighed.{summed, whole_ops, plain_at}
use Rattle.correlate_spec.specs.WindowSum.{window_sum}
use Rattle.correlate_spec.proofs.Along.{Row, row_start_lem, row_end}
use Rattle.correlate_spec.proofs.Folded.{start_moved}
use Rattle.correlate_spec.proofs.Linear.{summed-plus, summed_times, summed_same}
use Rattle.correlate_spec.proofs.Sliding.{sum-places, window-places}
use Rattle.correlate_spec.proofs.Summed.{summed_agree}
use Rattle.direction.specs.Direction.{directed}
use Rattle.correlate_raised.specs.Raised.{raised_start, raised_term, raised_to, RaiseNeeds}
use Rattle.correlate_raised.proofs.Directed.{start_directed}
use Rattle.correlate_raised.proofs.RaisedStart.{raisable_kept}

-- ---- numbers x raised by b, times numbers w raised by a
-- one product: both plain, the cell times a, the raised weight times b
term_apart : (x w a b : ℤ) → (x +ℤ b) *ℤ (w +ℤ a) ≡ x *ℤ w +ℤ (x *ℤ a +ℤ (w +ℤ a) *ℤ b)
term_apart x w a b =
    *ℤ-distrib-right x b (w +ℤ a) ∙ (λ t. *ℤ-distrib-left x w a t +ℤ *ℤ_comm b (w +ℤ a) t) ∙ +ℤ_assoc (x *ℤ w) (x *ℤ a) ((w +ℤ a) *ℤ b)

abbrev Σ : (ℕ → ℤ) → ℕ → ℤ
Σ f n = summed ◌+ℤ◌ (pos 0) f n

raised_sum : (x w : ℕ → ℤ) (a b : ℤ) (n : ℕ) → Σ (λ j. (x j +ℤ b) *ℤ (w j +ℤ a)) n ≡ Σ (λ j. x j *ℤ w j) n +ℤ (Σ x n *ℤ a +ℤ (Σ w n +ℤ pos n *ℤ a) *ℤ b)
raised_sum x w a b n =
    summed_agree ◌+ℤ◌ (pos 0) _ _ n (λ j h. term_apart (x j) (w j) a b)
    ∙ summed-plus (λ j. x j *ℤ w j) (λ j. x j *ℤ a +ℤ (w j +ℤ a) *ℤ b) n
    ∙ ap (λ (s : ℤ). Σ (λ j. x j *ℤ w j) n +ℤ s)
    (summed-plus (λ j. x j *ℤ a) (λ j. (w j +ℤ a) *ℤ b) n ∙ (λ t. summed_times x a n t +ℤ (summed_times (λ j. w j +ℤ a) b n
    ∙ ap (λ (s : ℤ). s *ℤ b) (summed-plus w (λ j. a) n ∙ ap (λ (s : ℤ). Σ w n +ℤ s) (summed_same a n))) t))

-- p and what was added, less what was added
taken : (p c d : ℤ) → p +ℤ (c +ℤ d) +ℤ (pos 0 -ℤ d -ℤ c) ≡ p
taken p c d = ap (λ (z : ℤ). p +ℤ (c +ℤ d) +ℤ z) (ap (λ (z : ℤ). z -ℤ c) (+ℤ_idl (neg_ℤ d)) ∙ +ℤ_comm (neg_ℤ d) (neg_ℤ c) ∙ sym (neg_ℤ-+ℤ c d)) ∙ +ℤ-neg_ℤ_cancel p (c +ℤ d)

-- ---- a line and its weights
module _ (by : ℕ) (w s : List ℤ) where
  pub raised_plain : (i : ℕ) → i + length w ≤ length s → raised_to by w s (length w) i ≡ plain_at whole_ops w s i
  raised_plain i h =
      ap (λ (z : ℤ). summed ◌+ℤ◌ z (raised_term by w s i) (length w)) (sym (+ℤ_idl (raised_start by w s i)))
      ∙ start_moved (pos 0) (raised_start by w s i) (raised_term by w s i) (length w)
      ∙ ap (λ (z : ℤ). z +ℤ raised_start by w s i) (raised_sum cell weight (pos by) (pos 2147483648) (length w) ∙ by_windows)
      ∙ taken (plain_at whole_ops w s i) (window_sum s (length w) i *ℤ pos by) ((sum_of w +ℤ pos (length w) *ℤ pos by) *ℤ pos 2147483648)
    where
      cell : ℕ → ℤ
      cell j = get_or s (i + j) (pos 0)

      weight : ℕ → ℤ
      weight j = get_or w j (pos 0)

      by_windows : plain_at whole_ops w s i +ℤ (Σ cell (length w) *ℤ pos by +ℤ (Σ weight (length w) +ℤ pos (length w) *ℤ pos by) *ℤ pos 2147483648)
          ≡ plain_at whole_ops w s i +ℤ (window_sum s (length w) i *ℤ pos by +ℤ (sum_of w +ℤ pos (length w) *ℤ pos by) *ℤ pos 2147483648)
      by_windows t = plain_at whole_ops w s i +ℤ (sym (window-places s (length w) i h) t *ℤ pos by +ℤ (sym (sum-places w) t +ℤ pos (length w) *ℤ pos by) *ℤ pos 2147483648)

  -- the row that the loop over the weights begins with, and the row that it ends with
  pub raised_begin : (n : ℕ) {l : List ℤ} → l ≡ tabulate (raised_start by w s) 0 n → Row (raised_to by w s 0) (length l) l
  raised_begin n e = row_start_lem ◌+ℤ◌ (raised_start by w s) (raised_term by w s) n e

  pub raised_end : {j n m : ℕ} {l : List ℤ} → RaiseNeeds by w s m → Row (raised_to by w s j) n l → j ≡ length w → n ≡ m → l ≡ tabulate (plain_at whole_ops w s) 0 m
  raised_end {m = m} A r p q =
      row_end ◌+ℤ◌ (raised_start by w s) (raised_term by w s) r p q
      ∙ tabulate_agree (raised_to by w s (length w)) (plain_at whole_ops w s) 0 m (λ i h. raised_plain (0 + i) (omega (arith, A.weighable.some, A.weighable.long)))

-- ---- the row of starts is made of a line s, which is then known as t; the terms are those of the weights in the direction
module _ (backward : Bool) {by : ℕ} {w s t out : List ℤ} {n : ℕ} (e : t ≡ s) (A : RaiseNeeds by w s n) (p : out ≡ tabulate (raised_start by w s) 0 n) where
  long : length out ≡ n
  long = ap length p ∙ length-tabulate (raised_start by w s) 0 n

  starts : out ≡ tabulate (raised_start by (directed backward w) s) 0 (length out)
  starts = p ∙ (λ j. tabulate (λ i. start_directed backward by w s i j) 0 (sym long j))

  pub raised_set : RaiseNeeds by w t (length out) × (out ≡ tabulate (raised_start by (directed backward w) t) 0 (length out))
  raised_set = subst (λ (x : List ℤ). RaiseNeeds by w x (length out) × (out ≡ tabulate (raised_start by (directed backward w) x) 0 (length out))) (sym e) (raisable_kept long A, starts)

  pub raised_sums : {new : List ℤ} → new ≡ tabulate (plain_at whole_ops (directed backward w) t) 0 (length out) → new ≡ tabulate (plain_at whole_ops (directed backward w) s) 0 n
  raised_sums q = q ∙ (λ j. tabulate (plain_at whole_ops (directed backward w) (e j)) 0 (long j))
