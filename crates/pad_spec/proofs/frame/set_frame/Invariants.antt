-- `pad_spec::frame::set_frame` meets its contract: axis by axis, the pad before it and its padded length.
use mathlib.Core.Path.{◌≡◌}
use lib.Dec.{ltb}
use lib.ListN.{length}
use Rattle.numbers.proofs.Stored.{Stored}
use Rattle.pad_spec.proofs.AxisByAxis.{left_at, padded_length_at}
use Rattle.pad_spec.proofs.frame.set_frame.Given as goal

abbrev pub invariant-loop-a : goal.invariant-loop-a
invariant-loop-a l =
    (length l.lefts ≡ length l.shape) × (length l.padded ≡ length l.shape)
    × Stored 0 (λ k. ltb k l.a) (left_at l.pads l.count) l.initial.lefts l.lefts × Stored 0 (λ k. ltb k l.a) (padded_length_at l.shape l.pads l.count) l.initial.padded l.padded
