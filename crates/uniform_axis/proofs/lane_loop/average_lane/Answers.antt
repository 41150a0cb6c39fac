-- `average_lane` meets its contract: the padded lane serves the means, and these are the filtered lane.
use mathlib.Core.Path.{refl, sym, ap, subst, ◌∙◌}
use mathlib.Core.List.{List}
use Prim.Native.Nat.{◌+◌}
use lib.IntN.{ℤ, pos}
use lib.Seq.{length-take-le}
use Rattle.lanes.specs.Lanes.{with_lane}
use Rattle.uniform_spec.specs.Mean.{MeanLineNeeds}
use Rattle.pad_line.proofs.OneLane.{front_is, lane-filtered}
use Rattle.uniform_axis.specs.MeanAxisNeeds.{means_by}
use Rattle.uniform_axis.proofs.MeanLineNeeds.{lane_averaged}
use borrow.Author.Rules.{rules}
use Rattle.uniform_axis.proofs.lane_loop.average_lane.Goals as goal

pub slice_bounds-uniform_lane-end : goal.slice_bounds-uniform_lane-end
slice_bounds-uniform_lane-end c = search rules

pub slice_bounds-uniform_lane-end-2 : goal.slice_bounds-uniform_lane-end-2
slice_bounds-uniform_lane-end-2 c = sym (length-take-le _ _ (slice_bounds-uniform_lane-end c))

pub uniform_lane-requires : goal.uniform_lane-requires
uniform_lane-requires c =
    let s = c in
    let a = s.args in (
      subst (λ (p : List ℤ). MeanLineNeeds p (a.left + a.right + 1) a.n)
          (sym (front_is (pos 0) s.requires.0 c.pad_from.ensures)) (lane_averaged s.requires.0 s.requires.1),
      s.requires.0.padding.some,
      s.requires.2,
      s.requires.3,
      s.requires.4,
    )

pub returns : goal.returns
returns c =
    let s = c in
    let a = s.args in
    c.uniform_lane.ensures
    ∙ ap (λ (row : List ℤ). with_lane (pos 0) a.n a.stride a.lane row a.out.now)
    (lane-filtered (pos 0) s.requires.0 c.pad_from.ensures (means_by (a.left + a.right + 1)) refl)
