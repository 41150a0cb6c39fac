-- `add_four_rows` meets its contract: along the row, each cell gets the terms of four weights; terms and sums fit. x0, x1 and x2 are the first three cells of the
-- window that is next.
use mathlib.Core.Path.{◌≡◌}
use Prim.Native.Nat.{◌+◌}
use lib.IntN.{pos}
use lib.ListN.{get_or}
use Rattle.direction.specs.Direction.{directed}
use Rattle.correlate_plain.specs.Added.{plus, four_terms}
use Rattle.correlate_spec.proofs.Along.{Pass}
use Rattle.correlate_plain.proofs.plain.add_four_rows.Given as goal

abbrev pub invariant-loop-i : goal.invariant-loop-i
invariant-loop-i l =
    (l.x0 ≡ get_or l.line (l.i + l.j) (pos 0)) × (l.x1 ≡ get_or l.line (l.i + l.j + 1) (pos 0)) × (l.x2 ≡ get_or l.line (l.i + l.j + 2) (pos 0))
    × Pass (pos 0) (plus l.initial.out (λ k. four_terms (directed l.backward l.weights) l.line k l.j)) l.initial.out l.n l.i l.out
