-- A grid that was swept along one axis: each level is the least of the window of its extended lane.
-- Assumes nothing.
use mathlib.Core.Path.{◌≡◌, refl, sym, ap, subst, ◌∙◌}
use mathlib.Core.Bool.{Bool, true, false, cond, true≢false}
use mathlib.Core.List.Memᴰ
use mathlib.Core.List.{List, map}
use Prim.Native.Nat.{ℕ, ◌<◌}
use native.Mathlib.Omega.{arith}
use borrow.Author.Tests.{ltb-true, eq-eqb}
use lib.Dec.{T, eqb}
use lib.IntN.{ℤ, pos, negsuc, nat_abs}
use lib.ListN.{length, get_or, length-map}
use Rattle.numbers.specs.Order.{Total, extreme}
use Rattle.numbers.proofs.Extreme.{extreme_bound, extreme_occurs}
use Rattle.numbers.proofs.Range.{length_up}
use Rattle.numbers.proofs.Tabulate.{get_d_tabulate}
use Rattle.array_spec.specs.Grid.{cell_count, length_of, place_of, coordinate, moved, level_at}
use Rattle.array_spec.proofs.Places.{Within, place_lt, coordinate_place, place_ext}
use Rattle.border.specs.Border.{inside, extended_lane}
use Rattle.min_max_spec.specs.Call.{Call, InWindow, window, first_in}
use Rattle.min_max_spec.specs.Run.{lane_level, answer_of}
use Rattle.min_max_spec.proofs.Windows.{in_list, in_window}

-- ---- the coordinates with one of them moved
pub moved_same : {A : Type 0} (a : ℕ) (z : A) (p : ℕ → A) → moved a z p a ≡ z
moved_same a z p = ap (λ t. cond t z (p a)) (eq-eqb a a refl)

pub moved_other : {A : Type 0} (a b : ℕ) (z : A) (p : ℕ → A) → eqb b a ≡ false → moved a z p b ≡ p b
moved_other a b z p e = ap (λ t. cond t z (p b)) e

pub inside_lt : (n : ℕ) (z : ℤ) → inside n z ≡ true → nat_abs z < n
inside_lt n (pos i) e = ltb-true i n e
inside_lt n (negsuc j) e = absurd (true≢false (sym e))

-- ---- what an accepted call fills
module _ (le : ℤ → ℤ → Bool) (O : Total le) (ns : List ℕ) (c : Call) (named : c.shape ≡ ns) (on : c.axis < length ns) (some : 0 < c.size)
    (cells : List ℤ) (e : length cells ≡ cell_count ns) (κ : ℕ → ℕ) (W : Within ns κ) where
  -- the extended lane along the call's axis through the cell κ
  abbrev pub lane : ℤ → ℤ
  lane z = extended_lane c.border (length_of ns c.axis) (λ i. level_at (pos 0) ns cells (moved c.axis i κ)) z

  abbrev levels : List ℤ
  levels = map lane (window c (pos (κ c.axis)))

  answer_at : level_at (pos 0) ns (answer_of le cells c) κ ≡ extreme le (pos 0) levels
  unfolding answer_of
  answer_at =
      get_d_tabulate (λ k. extreme le (pos 0) (map (lane_level cells c k) (window c (pos (coordinate c.shape k c.axis))))) (length cells) k (pos 0) (omega (arith, place_lt ns κ W))
      ∙ (λ j. extreme le (pos 0) (map (extended_lane c.border (length_of (named j) c.axis) (λ i. level_at (pos 0) (named j) cells (moved c.axis i (coordinate (named j) k))))
      (window c (pos (coordinate (named j) k c.axis)))))
      ∙ (λ j. extreme le (pos 0) (map (extended_lane c.border (length_of ns c.axis) (λ i. get_or cells (there i j) (pos 0))) (window c (pos (coordinate_place ns κ W c.axis on j)))))
    where
      k : ℕ
      k = place_of ns κ

      point : (i b : ℕ) → b < length ns → (t : Bool) → cond t i (coordinate ns k b) ≡ cond t i (κ b)
      point i b h true = refl
      point i b h false = coordinate_place ns κ W b h

      there : (i : ℕ) → place_of ns (moved c.axis i (coordinate ns k)) ≡ place_of ns (moved c.axis i κ)
      there i = place_ext ns (moved c.axis i (coordinate ns k)) (moved c.axis i κ) (λ b h. point i b h (eqb b c.axis))

  pub answer_bound : (z : ℤ) → InWindow c (pos (κ c.axis)) z → T (le (level_at (pos 0) ns (answer_of le cells c) κ) (lane z))
  answer_bound z w =
      subst (λ (x : ℤ). T (le x (lane z))) (sym answer_at)
      (extreme_bound le O (pos 0) (lane z) levels (Memᴰ.map lane (in_list c (pos (κ c.axis)) z some w)))

  pub answer_occurs : (z : ℤ) × InWindow c (pos (κ c.axis)) z × (level_at (pos 0) ns (answer_of le cells c) κ ≡ lane z)
  answer_occurs =
      let n : 0 < length levels = omega (arith, length-map (window c (pos (κ c.axis))) lane, length_up (first_in c (pos (κ c.axis))) c.size) in
      let m = Memᴰ.of_map lane (window c (pos (κ c.axis))) (extreme_occurs le O (pos 0) levels n) in
      (m.0, in_window c (pos (κ c.axis)) m.0 m.1, answer_at ∙ sym m.2)
