-- What the worker supposes, on three axes: the axes serve, grid and kernel are laid on them, and their sums are the answer.
-- Assumes nothing.
use mathlib.Core.Path.{◌≡◌, refl, sym, subst, ◌∙◌}
use mathlib.Core.Bool.{Bool, true, false, cond}
use mathlib.Core.List.{List, [], ◌∷◌}
use Prim.Native.Nat.{ℕ, ◌+◌, ◌-◌, ◌*◌, ◌≤◌, ◌<◌}
use native.Mathlib.Nat.{one-mul}
use native.Mathlib.Omega.{arith}
use borrow.Author.Tests.{leb-false}
use lib.Dec.{leb}
use lib.IntN.{ℤ}
use lib.ListN.{length}
use Rattle.numbers.specs.Lists.{tabulate}
use Rattle.numbers.proofs.Tabulate.{tabulate_agree}
use Rattle.array_spec.specs.Grid.{cell_count, length_of}
use Rattle.array_spec.proofs.Places.{length_pos}
use Rattle.array_spec.proofs.Shapes.{Accepted, shape-accepted}
use Rattle.border.specs.Border.{Border, constant, along}
use Rattle.border.specs.declared.CellBorder.TheVariants.{Nearest, Mirror, Reflect, Wrap}
use Rattle.border.specs.Reach.{bad_pad}
use Rattle.correlate_spec.specs.Kernel.{sides_of, kernel_sum, kernel_answer}
use Rattle.correlate_grid_axes.specs.declared.axes.Axes.{Axes}
use Rattle.correlate_grid_axes.specs.declared.axes.Axis.{Axis}
use Rattle.correlate_grid.specs.Kernel.{KernelCallNeeds}
use Rattle.correlate_grid_axes.specs.Axes.{axis_from, axes_of, Serves, KernelNeeds}
use Rattle.correlate_grid.proofs.EveryRow.{sum_at}
use Rattle.correlate_grid.proofs.ThreeAxes.{sum_by, count_three, sum-three, lifted, sum-lifted}

no_pad : (b : Border ℤ) → bad_pad b 1 0 ≡ false
no_pad (constant c) = refl
no_pad (along Nearest) = refl
no_pad (along Mirror) = refl
no_pad (along Reflect) = refl
no_pad (along Wrap) = refl

-- ---- one to three axes
by_axes : (P : List ℕ → Type 0) → ((c : ℕ) → P (c ∷ [])) → ((b c : ℕ) → P (b ∷ c ∷ [])) → ((a b c : ℕ) → P (a ∷ b ∷ c ∷ [])) → (ns : List ℕ) → 1 ≤ length ns → length ns ≤ 3 → P ns
by_axes P one two more [] s f = absurd (omega arith)
by_axes P one two more (c ∷ []) s f = one c
by_axes P one two more (b ∷ c ∷ []) s f = two b c
by_axes P one two more (a ∷ b ∷ c ∷ []) s f = more a b c
by_axes P one two more (a ∷ b ∷ c ∷ d ∷ ds) s f = absurd (omega arith)

module _ {b : Border ℤ} {ns : List ℕ} {side left right : ℕ} {w cells out : List ℤ} (K : KernelCallNeeds b ns side left right w cells out) where
  accepted : Accepted ns
  accepted = shape-accepted ns K.shape

  abbrev axis : ℕ → Axis
  axis back = axis_from ns back side left right

  serves : (back : ℕ) → Serves b (axis back)
  serves back = go (leb (length ns) back) refl
    where
      there : back < length ns → length ns - 1 - back < length ns
      there h = omega arith

      go : (t : Bool) → leb (length ns) back ≡ t
          → Serves b (cond t (record { len = 1; left = 0; right = 0; side = 1 }) (record { len = length_of ns (length ns - 1 - back); left = left; right = right; side = side }))
      go true e = record { some = omega arith; short = omega arith; some_side = omega arith; wide = omega arith; pads = omega arith; fills_left = no_pad b; fills_right = no_pad b }
      go false e =
          let a = length ns - 1 - back in
          let h = there (leb-false (length ns) back e) in
          record {
            some = length_pos ns a accepted.full;
            short = accepted.short a;
            some_side = K.some;
            wide = K.wide;
            pads = K.pads;
            fills_left = K.fills_left a h;
            fills_right = K.fills_right
                a h;
          }

  abbrev Counts : List ℕ → Type 0
  Counts ms = (cell_count ms ≡ (axis_from ms 2 side left right).len * (axis_from ms 1 side left right).len * (axis_from ms 0 side left right).len)
      × (cell_count (sides_of ms side) ≡ (axis_from ms 2 side left right).side * (axis_from ms 1 side left right).side * (axis_from ms 0 side left right).side)

  counts : Counts ns
  counts = by_axes Counts (λ c. (omega arith, omega arith)) (λ m c. (two m c, two side side)) (λ a m c. (count_three a m c, count_three side side side)) ns accepted.some accepted.few
    where
      two : (m c : ℕ) → m * (c * 1) ≡ 1 * m * c
      two m c = sym (one-mul (m * (c * 1))) ∙ count_three 1 m c

  laid : KernelNeeds b (axis 2) (axis 1) (axis 0) w cells
  laid = record {
    planes = serves 2;
    rows = serves 1;
    row = serves 0;
    count = K.count ∙ counts.0;
    small = omega (arith, K.count, accepted.small);
    many = K.many ∙ counts.1;
    weights = K.weights;
    level = K.level;
    levels = K.levels;
  }

  pub laid_on : {x : Axes} → x ≡ axes_of ns side left right → KernelNeeds b x.planes x.rows x.cells w cells
  laid_on e = subst (λ (x : Axes). KernelNeeds b x.planes x.rows x.cells w cells) (sym e) laid

  -- ---- the sums
  module _ (k : ℕ) where
    abbrev Sums : List ℕ → Type 0
    Sums ms =
        KernelNeeds b (axis_from ms 2 side left right) (axis_from ms 1 side left right) (axis_from ms 0 side left right) w cells → length w ≡ cell_count (sides_of ms side) → k < cell_count ms
        → k < (axis_from ms 2 side left right).len * (axis_from ms 1 side left right).len * (axis_from ms 0 side left right).len
        → sum_by b (λ a. left) (sides_of ms side) w ms cells k ≡ sum_at b (axis_from ms 2 side left right) (axis_from ms 1 side left right) (axis_from ms 0 side left right) w cells k

    one-axis : (c : ℕ) → Sums (c ∷ [])
    one-axis c L m h l =
        sym (sum-lifted b (λ a. left) (side ∷ []) w (c ∷ []) cells k h m)
        ∙ sym (sum-lifted b (lifted (λ a. left)) (1 ∷ side ∷ []) w (1 ∷ c ∷ []) cells k (omega arith) (m ∙ omega arith))
        ∙ sum-three L (lifted (lifted (λ a. left))) refl refl refl k l

    two_axes : (d c : ℕ) → Sums (d ∷ c ∷ [])
    two_axes d c L m h l = sym (sum-lifted b (λ a. left) (side ∷ side ∷ []) w (d ∷ c ∷ []) cells k h m) ∙ sum-three L (lifted (λ a. left)) refl refl refl k l

    three_axes : (e d c : ℕ) → Sums (e ∷ d ∷ c ∷ [])
    three_axes e d c L m h l = sum-three L (λ a. left) refl refl refl k l

    sum_is : k < cell_count ns → sum_by b (λ a. left) (sides_of ns side) w ns cells k ≡ sum_at b (axis 2) (axis 1) (axis 0) w cells k
    sum_is h = by_axes Sums one-axis two_axes three_axes ns accepted.some accepted.few laid K.many h (subst (λ (m : ℕ). k < m) counts.0 h)

  pub answered : {x : Axes} {new : List ℤ} → x ≡ axes_of ns side left right → new ≡ tabulate (sum_at b x.planes x.rows x.cells w cells) 0 (length cells)
      → new ≡ kernel_answer b left (sides_of ns side) w ns cells
  unfolding kernel_answer kernel_sum
  answered e f =
      f ∙ (λ j. tabulate (sum_at b (e j).planes (e j).rows (e j).cells w cells) 0 (K.count j))
      ∙ tabulate_agree _ _ 0 (cell_count ns) (λ k h. sym (sum_is (0 + k) (omega arith)))
