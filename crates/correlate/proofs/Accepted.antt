-- An accepted call with a grid kernel: what the worker supposes holds of the weights and the origin as they are applied.
-- Assumes nothing.
use Prim.Native.Nat.{ℕ, ◌+◌, ◌/◌, ◌<◌}
use mathlib.Core.Path.{◌≡◌, sym, ap, subst, ◌∙◌}
use mathlib.Core.Bool.{Bool, false}
use mathlib.Core.List.{List, [], ◌∷◌}
use native.Mathlib.Omega.{arith}
use lib.IntN.{ℤ}
use lib.ListN.{length, drop}
use Rattle.numbers.specs.Lists.{any_of}
use Rattle.numbers.specs.Refusal.{refusal_of}
use Rattle.numbers.proofs.Any.{any_none, every_at}
use Rattle.numbers.proofs.Tests.{or_false}
use Rattle.array_spec.specs.Conditions.{bad_level}
use Rattle.array_spec.specs.Grid.{cell_count, length_of}
use Rattle.array_spec.proofs.Judged.{PassedGrid, lent_same, grid_passed}
use Rattle.border.specs.Border.{Border}
use Rattle.border.specs.Modes.{bad_constant_by}
use Rattle.window_spec.specs.Origin.{bad_origin}
use Rattle.window_spec.proofs.Origins.{pads_sum, kernel_accepted}
use Rattle.border.specs.Reach.{bad_pad}
use Rattle.correlate_spec.specs.Kernel.{sides_of, side_of_lem, kernel_answer}
use Rattle.window_spec.specs.Window.{kernel_left, kernel_right, applied_origin, bad_either_pad, bad_kernel_reach}
use Rattle.correlate_judge_spec.specs.Judge.{bad_weight}
use Rattle.window_spec.proofs.Changed.{applied_range}
use Rattle.correlate_grid.specs.Kernel.{KernelCallNeeds}
use Rattle.correlate_judge_spec.specs.KernelJudge.{kernel_judged}
use Rattle.correlate_judge_spec.proofs.Equal.{Equal, kernel_equal}

-- the two pads together
kernel_pads_lem : (side : ℕ) (o : ℤ) → bad_origin side o ≡ false → kernel_left side o + kernel_right side o ≡ side / 2 + side / 2
kernel_pads_lem side o h = pads_sum (side / 2) (side / 2) o (kernel_accepted side o h)

-- what the conditions say of a call that they accept
pub record Passed (convolution : Bool) (b : Border ℤ) (o : ℤ) (sides : List ℕ) (w : List ℤ) (ns : List ℕ) (cells : List ℤ) (out : ℕ) : Type 0 where
  pub grid : PassedGrid bad_level ns cells (out ∷ [])
  pub equal : Equal ns sides (length w)
  pub weights : any_of bad_weight w ≡ false
  pub origin : bad_origin (side_of_lem sides) o ≡ false
  pub level : bad_constant_by bad_level b ≡ false
  pub reach : bad_kernel_reach b (side_of_lem sides) (applied_origin convolution (side_of_lem sides) o) ns ≡ false

module _ (convolution : Bool) (b : Border ℤ) (o : ℤ) (sides : List ℕ) (w : List ℤ) (ns : List ℕ) (cells : List ℤ) (out : ℕ) where
  pub passed : refusal_of (kernel_judged convolution b o sides w ns cells out) ≡ 0 → Passed convolution b o sides w ns cells out
  passed z =
      let J = grid_passed bad_level ns cells (out ∷ []) (drop 3 (kernel_judged convolution b o sides w ns cells out)) (tt, (tt, (tt, (tt, (tt, (tt, tt)))))) z in record {
        grid = J.0;
        equal = kernel_equal ns sides (length w) J.0.shape J.1.0;
        weights = J.1.1.0;
        origin = J.1.1.1.0;
        level = J.1.1.1.1.0;
        reach = J.1.1.1.1.1.0;
      }

-- ---- the worker's own words
module _ {convolution : Bool} {b : Border ℤ} {o : ℤ} {sides : List ℕ} {w : List ℤ} {ns : List ℕ} {cells : List ℤ} (out : List ℤ) (P : Passed convolution b o sides w ns cells (length out)) where
  abbrev side : ℕ
  side = side_of_lem sides

  abbrev applied : ℤ
  applied = applied_origin convolution side o

  pub origin_applied : bad_origin side applied ≡ false
  origin_applied = applied_range convolution side o ∙ P.origin

  fills : (a : ℕ) → a < length ns → (bad_pad b (length_of ns a) (kernel_left side applied) ≡ false) × (bad_pad b (length_of ns a) (kernel_right side applied) ≡ false)
  fills a h = or_false _ _ (every_at (λ n. bad_either_pad b (kernel_left side applied) (kernel_right side applied) n ≡ false) ns 1 (any_none _ ns P.reach) a h)

  pub kernelled_accepted : KernelCallNeeds b ns side (kernel_left side applied) (kernel_right side applied) w cells out
  unfolding bad_weight
  kernelled_accepted = record {
    shape = P.grid.shape;
    count = P.grid.count;
    same = lent_same P.grid;
    some = P.equal.some;
    narrow = P.equal.narrow;
    many = P.equal.many ∙ ap cell_count P.equal.same;
    wide = omega (arith, kernel_pads_lem side applied origin_applied);
    pads = omega (arith, kernel_pads_lem side applied origin_applied, P.equal.narrow);
    fills_left = λ a h. (fills a h).0;
    fills_right = λ a h. (fills a h).1;
    weights = P.weights;
    level = P.level;
    levels = P.grid.levels;
  }

  -- the kernel's own shape for that of its first side
  pub own_sides : (left : ℕ) (v : List ℤ) → kernel_answer b left (sides_of ns side) v ns cells ≡ kernel_answer b left sides v ns cells
  own_sides left v = ap (λ (s : List ℕ). kernel_answer b left s v ns cells) (sym P.equal.same)

  -- what the worker supposes, as the code hands it the side and the origin
  abbrev Suits : ℕ → ℤ → Type 0
  Suits n x = (bad_origin n x ≡ false) × KernelCallNeeds b ns n (kernel_left n x) (kernel_right n x) w cells out

  pub suits_as : {n : ℕ} {x : ℤ} → n ≡ side → x ≡ applied → Suits n x
  suits_as {n} {x} p q = subst (λ (m : ℕ). Suits m x) (sym p) (subst (λ (y : ℤ). Suits side y) (sym q) (origin_applied, kernelled_accepted))
