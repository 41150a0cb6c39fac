-- A convolution along an axis is the correlation with the reversed weights and the changed origin, over any element.
-- Assumes nothing.
use Prim.Native.Nat.{ℕ, ◌+◌, ◌<◌}
use mathlib.Core.Path.{◌≡◌, refl, sym, ap, ◌∙◌}
use mathlib.Core.Bool.{Bool, true, false, cond}
use mathlib.Core.List.{List, map, reverse}
use native.Mathlib.Omega.{arith}
use borrow.Author.Tests.{eqb-true, eqb-false}
use lib.Dec.{eqb}
use lib.IntN.{ℤ, pos}
use lib.ListN.{length, get_or, length-reverse}
use Rattle.numbers.specs.Lists.{tabulate}
use Rattle.numbers.proofs.Index.{get_d_reverse}
use Rattle.numbers.proofs.Tabulate.{tabulate_agree}
use Rattle.lanes.specs.Lanes.{along_axis}
use Rattle.border.specs.Border.{Border, extended_lane}
use Rattle.pad_line.specs.Line.{padded_at, padded_line}
use Rattle.pad_line.proofs.Padded.{get_d_padded}
use Rattle.direction.proofs.Directed.{directed-one}
use Rattle.symmetry_spec.specs.declared.SymmetryState.{SymmetryState}
use Rattle.window_spec.specs.Origin.{bad_origin}
use Rattle.window_spec.specs.Window.{left_pad, right_pad, changed_origin, bad_window_origin}
use Rattle.window_spec.proofs.Origins.{accepted_some}
use Rattle.window_spec.proofs.Changed.{changed_range}
use Rattle.window_spec.proofs.Reach.{pads_size, origin_accepted}
use Rattle.correlate_spec.specs.Weighed.{Ops, ordered_sum, weighed_at}
use Rattle.correlate_spec.specs.Correlated.{correlated_line, correlated_by}
use Rattle.correlate_spec.specs.Convolved.{meets, from_end, convolved_at, convolved_line, convolved_by}
use Rattle.correlate_spec.proofs.Ordered.{ordered_agree}
use Rattle.correlate_spec.proofs.Meets.{met_place}

-- ---- one lane, where the origin is accepted
module _ {A : Type 0} (o : Ops A) (class : SymmetryState) (b : Border A) (origin : ℤ) (w : List A) (e : bad_origin (length w) origin ≡ false) (s : List A) where
  abbrev changed : ℤ
  changed = changed_origin (length w) origin

  abbrev line : List A
  line = padded_line o.past b (left_pad (length w) changed) (right_pad (length w) changed) s

  cell_met : (i k : ℕ) → i < length s → k < length w → extended_lane b (length s) (λ c. get_or s c o.past) (meets (length w) origin i (from_end (length w) k)) ≡ get_or line (i + k) o.past
  unfolding padded_at
  cell_met i k h l =
      ap (extended_lane b (length s) (λ c. get_or s c o.past)) (sym (met_place (length w) origin e i k l))
      ∙ sym (get_d_padded o.past (left_pad (length w) changed) s b (right_pad (length w) changed) (i + k)
      (omega (arith, pads_size (length w) changed (changed_range (length w) origin ∙ e))))

  sum_met : (i : ℕ) → i < length s → convolved_at o class b origin w s i ≡ weighed_at o class (reverse w) line i
  unfolding convolved_at
  sum_met i h =
      ordered_agree o (accepted_some (length w) origin e) (λ k l. cell_met i k h l) (λ k l. sym (get_d_reverse w k o.past l)) class
      ∙ ap (λ n. ordered_sum o class (λ k. get_or line (i + k) o.past) (λ k. get_or (reverse w) k o.past) n) (sym (length-reverse w))

  line_met : convolved_line o class b origin w s ≡ correlated_line o class b (left_pad (length w) changed) (right_pad (length w) changed) (reverse w) s
  line_met = tabulate_agree (convolved_at o class b origin w s) (weighed_at o class (reverse w) line) 0 (length s) (λ i h. sum_met (0 + i) (omega arith))

-- ---- every lane; one weight alone reads no origin
module _ {A : Type 0} (o : Ops A) (class : SymmetryState) (b : Border A) (origin : ℤ) (w : List A) (e : bad_window_origin (length w) origin ≡ false) (ns : List ℕ) (a : ℕ) (cells : List A) where
  abbrev applied : ℤ
  applied = changed_origin (length w) origin

  pub convolved_by_lem : convolved_by o class b origin w ns a cells ≡ correlated_by o class b applied (reverse w) ns a cells
  unfolding convolved_by correlated_by
  convolved_by_lem = go (eqb (length w) 1) refl ∙ ap weighed (sym (length-reverse w))
    where
      weighed : ℕ → List A
      weighed n = cond (eqb n 1) (map (λ x. o.product x (get_or (reverse w) 0 o.past)) cells)
          (along_axis o.past (correlated_line o class b (left_pad n applied) (right_pad n applied) (reverse w)) ns a cells)

      go : (t : Bool) → eqb (length w) 1 ≡ t
          → cond t (map (λ x. o.product x (get_or w 0 o.past)) cells) (along_axis o.past (convolved_line o class b origin w) ns a cells)
          ≡ cond t (map (λ x. o.product x (get_or (reverse w) 0 o.past)) cells)
          (along_axis o.past (correlated_line o class b (left_pad (length w) applied) (right_pad (length w) applied) (reverse w)) ns a cells)
      go true q = ap (λ v. map (λ x. o.product x (get_or v 0 o.past)) cells) (sym (directed-one true w (eqb-true (length w) 1 q)))
      go false q = (λ t. along_axis o.past (λ s. line_met o class b origin w (origin_accepted (length w) origin (eqb-false (length w) 1 q) e) s t) ns a cells)
