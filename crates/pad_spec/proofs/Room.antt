-- A padded grid with room for the grid in its middle: it has as many axes, each with a cell.
-- Assumes nothing.
use mathlib.Core.List.{List, [], ◌∷◌}
use Prim.Native.Nat.{ℕ, zero, suc, ◌≤◌, ◌<◌, zero-le, suc-le-suc}
use native.Mathlib.Omega.{arith}
use lib.ListN.{length}
use Rattle.array_spec.specs.Grid.{length_of, stride_of}
use Rattle.array_spec.proofs.Places.{Positive, length_pos}
use Rattle.array_spec.proofs.Shapes.{Accepted, shape-accepted}
use Rattle.array_spec.proofs.Strides.{stride_pos}
use Rattle.pad_spec.proofs.Axis.{Frame}
use Rattle.pad_spec.specs.Frame.{Framed}

pub lengths_positive : (ps : List ℕ) → ((a : ℕ) → a < length ps → 0 < length_of ps a) → Positive ps
lengths_positive [] h = tt
lengths_positive (p ∷ ps) h = (h zero (suc-le-suc zero-le), lengths_positive ps (λ a l. h (suc a) (suc-le-suc l)))

module _ {ns lefts ps : List ℕ} (F : Framed ns lefts ps) where
  pub grid_accepted : Accepted ns
  grid_accepted = shape-accepted ns F.shape

  pub padded_few : length ps ≤ 3
  padded_few = omega (arith, F.axes, grid_accepted.few)

  pub padded-full : Positive ps
  padded-full = lengths_positive ps some
    where
      some : (a : ℕ) → a < length ps → 0 < length_of ps a
      some a l = omega (arith, F.room a (omega (arith, F.axes)), length_pos ns a grid_accepted.full)

  pub frame : Frame ns lefts ps
  frame = record { full = padded-full; axes = F.axes; room = F.room }

  pub axis_stride : (a : ℕ) → 0 < stride_of ps a
  axis_stride a = stride_pos ps a padded-full

  pub axis-length : (a : ℕ) → 0 < length_of ps a
  axis-length a = length_pos ps a padded-full
