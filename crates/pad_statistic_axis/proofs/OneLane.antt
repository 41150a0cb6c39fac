-- One lane of an axis: it is inside the padded grid, and the place where it starts tells whether its later coordinates are in the middle.
-- Assumes nothing.
use mathlib.Core.Path.{◌≡◌, refl, sym, subst, ◌∙◌}
use mathlib.Core.Bool.{Bool, true, false, not, cond}
use mathlib.Core.List.{List}
use Prim.Native.Nat.{ℕ, suc, ◌+◌, ◌/◌, ◌<◌}
use native.Mathlib.Omega.{arith}
use borrow.Author.Tests.{not-false}
use lib.ListN.{length}
use Rattle.numbers.proofs.Tests.{cond_yes}
use Rattle.array_spec.specs.Grid.{cell_count, length_of, stride_of, coordinate}
use Rattle.lanes.specs.Lanes.{lane_base, lane_inside}
use Rattle.lanes.proofs.AlongAxis.{lanes_within}
use Rattle.lanes.proofs.Cells.{lane_inside_lem}
use Rattle.pad_spec.specs.Pads.{middle_from}
use Rattle.pad_spec.specs.Frame.{Framed}
use Rattle.pad_spec.proofs.Room.{padded-full}

module _ {ns lefts ps : List ℕ} (F : Framed ns lefts ps) {a p s l count r : ℕ} (h : a < length ns) (k : count ≡ cell_count ps) (e : p ≡ length_of ps a) (f : s ≡ stride_of ps a) (b : l < cell_count ps / p)
    (q : r ≡ cond (lane_inside p s l count) (lane_base p s l) count) where
  inside : lane_inside p s l count ≡ true
  inside = (λ j. lane_inside (e j) (f j) l (k j)) ∙ lanes_within ps a l (padded-full F) F.small (omega (arith, F.axes)) (subst (λ (x : ℕ). l < cell_count ps / x) e b)

  first_is : r ≡ lane_base p s l
  first_is = q ∙ cond_yes (lane_inside p s l count) (lane_base p s l) count inside

  pub first_in_lem : r < cell_count ps
  first_in_lem = omega (arith, first_is, k, (lane_inside_lem p s l count inside).last)

  module _ {m : Bool} (u : m ≡ middle_from ns lefts (a + 1) (coordinate ps r)) where
    middle_is : middle_from ns lefts (suc a) (coordinate ps (lane_base p s l)) ≡ m
    middle_is = let n : suc a ≡ a + 1 = omega arith in sym (u ∙ (λ j. middle_from ns lefts (sym n j) (coordinate ps (first_is j))))

    pub lane_out : not m ≡ true → middle_from ns lefts (suc a) (coordinate ps (lane_base p s l)) ≡ false
    lane_out t = middle_is ∙ no m t
      where
        no : (v : Bool) → not v ≡ true → v ≡ false
        no true i = sym i
        no false i = refl

    pub lane_in : not m ≡ false → middle_from ns lefts (suc a) (coordinate ps (lane_base p s l)) ≡ true
    lane_in t = middle_is ∙ not-false m t
