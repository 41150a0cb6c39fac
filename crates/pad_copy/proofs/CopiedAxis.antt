-- An axis whose rims are copied: the padded grid is blocks of runs, and where the places in the middle from the axis on hold their levels, both rims
-- filled give every place in the middle from the next axis on its level, whatever the other places hold.
-- Assumes nothing.
use mathlib.Core.Path.{◌≡◌, sym, ap, ◌∙◌}
use mathlib.Core.List.{List}
use Prim.Native.Nat.{ℕ, suc, ◌+◌, ◌-◌, ◌*◌, ◌/◌, ◌%◌, ◌≤◌, ◌<◌}
use native.Mathlib.Nat.{mul-pos, mul-div_cancel, mul-le-mul, le_refl}
use native.Mathlib.Omega.{arith}
use lib.IntN.{ℤ, pos}
use lib.ListN.{length, get_or}
use Rattle.numbers.proofs.Tabulate.{length-tabulate, get_d_tabulate}
use Rattle.array_spec.specs.Grid.{cell_count, length_of, stride_of}
use Rattle.array_spec.proofs.Places.{length_pos}
use Rattle.array_spec.proofs.Strides.{outer_of, outer_pos, count_split}
use Rattle.lanes.specs.Lanes.{lane_of}
use Rattle.border.specs.declared.CellBorder.{CellBorder}
use Rattle.pad_line.specs.Line.{padded_at}
use Rattle.border.specs.Reach.{bad_along}
use Rattle.pad_spec.specs.Fill.{rim_of, mode_along}
use Rattle.pad_spec.proofs.Fillers.{rim_along}
use Rattle.pad_spec.proofs.Rims.{own_of}
use Rattle.pad_spec.proofs.Axis.{final-lane}
use Rattle.pad_spec.specs.Frame.{Framed, Filling}
use Rattle.pad_spec.specs.Filled.{Fills}
use Rattle.pad_spec.specs.Runs.{Runs, extended_at, axis_set}
use Rattle.pad_spec.proofs.Room.{grid_accepted, padded-full, frame, axis-length, axis_stride}

module _ (m : CellBorder) {ns lefts ps : List ℕ} (G : Filling m ns lefts ps) {a p n s len : ℕ} (h : a < length ns) (e : p ≡ length_of ps a) (f : n ≡ length_of ns a) (g : s ≡ stride_of ps a)
    (k : len ≡ cell_count ps) where
  F : Framed ns lefts ps
  F = G.framed

  split : cell_count ps ≡ outer_of ps a * (length_of ps a * stride_of ps a)
  split = count_split ps a (omega (arith, F.axes))

  -- ---- the blocks
  pub block_some : 0 < p * s
  block_some = mul-pos (omega (arith, e, axis-length F a)) (omega (arith, g, axis_stride F a))

  pub block_small : p * s ≤ len
  block_small = let same : p * s ≡ length_of ps a * stride_of ps a = (λ j. e j * g j) in omega (arith, mul-le-mul (outer_pos ps a (padded-full F)) (le_refl (length_of ps a * stride_of ps a)), split, k)

  pub axis_runs : Runs m p s (len / (p * s)) (get_or lefts a 0) n len
  axis_runs = record {
    apart = omega (arith, g, axis_stride F a);
    some = omega (arith, f, length_pos ns a (grid_accepted F).full);
    room = omega (arith, e, f, F.room a h);
    short = omega (arith, e, F.short a);
    whole = whole;
    small = omega (arith, k, F.small);
    fills_left = (λ j. bad_along m (f j) (get_or lefts a 0)) ∙ G.fills_left a h;
    fills_right = (λ j. bad_along m (f j) (e j - (get_or lefts a 0 + f j))) ∙ G.fills_right a h;
  }
    where
      blocks : len ≡ outer_of ps a * (p * s)
      blocks = k ∙ split ∙ sym (λ j. outer_of ps a * (e j * g j))

      whole : len ≡ len / (p * s) * (p * s)
      whole = blocks ∙ ap (λ x. x * (p * s)) (sym (ap (λ x. x / (p * s)) blocks ∙ mul-div_cancel (outer_of ps a) block_some))

  -- ---- the levels
  pub axis-copied : (out₀ : List ℤ) {out : List ℤ} → out ≡ axis_set m p s (get_or lefts a 0) n out₀ → length out₀ ≡ len → Fills (mode_along m) ns lefts ps a (suc a) out₀ out
  unfolding axis_set
  axis-copied out₀ {out} c w cells A = record {
    levels = A.levels;
    count = ap length c ∙ length-tabulate (extended_at m p s (get_or lefts a 0) n out₀) 0 (length out₀) ∙ A.count;
    finals = λ q b mid. ap (λ x. get_or x q (pos 0)) c ∙ get_d_tabulate (extended_at m p s (get_or lefts a 0) n out₀) (length out₀) q (pos 0) (omega (arith, k))
        ∙ (λ j. extended_at m (e j) (g j) (get_or lefts a 0) (f j) out₀ q) ∙ level q b ∙ sym (final-lane (mode_along m) ns lefts ps cells (frame F) a h q b out₀ mid A.finals);
  }
    where
      level : (q : ℕ) → q < cell_count ps → extended_at m (length_of ps a) (stride_of ps a) (get_or lefts a 0) (length_of ns a) out₀ q
          ≡ padded_at (pos 0) (rim_of (mode_along m) (own_of (pos 0) (length_of ps a) (stride_of ps a) (lane_of (length_of ps a) (stride_of ps a) q) (get_or lefts a 0) (length_of ns a) out₀)) (get_or lefts a 0)
          (own_of (pos 0) (length_of ps a) (stride_of ps a) (lane_of (length_of ps a) (stride_of ps a) q) (get_or lefts a 0) (length_of ns a) out₀) (q / stride_of ps a % length_of ps a)
      level q b =
          let own = own_of (pos 0) (length_of ps a) (stride_of ps a) (lane_of (length_of ps a) (stride_of ps a) q) (get_or lefts a 0) (length_of ns a) out₀ in
          ap (λ r. padded_at (pos 0) r (get_or lefts a 0) own (q / stride_of ps a % length_of ps a)) (sym (rim_along m own))
