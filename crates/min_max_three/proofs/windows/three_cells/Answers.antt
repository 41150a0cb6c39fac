-- `three_cells` meets its contract: the cells are filled from the front, each with the first of its three. x0 and x1 are the first two cells of the
-- window that is next. Assumes nothing.
use mathlib.Core.Path.{refl, sym, ap}
use Prim.Native.Nat.{ℕ}
use native.Mathlib.Nat.{add_assoc}
use native.Mathlib.Omega.{arith}
use lib.IntN.{pos}
use lib.ListN.{get_or}
use Rattle.numbers.proofs.Read.{read}
use Rattle.numbers.proofs.Stored.{front-more, front-all}
use Rattle.min_max_ring.specs.Extremes.{extremes, order_by}
use Rattle.min_max_three.proofs.Three.{three-read}
use Rattle.min_max_three.proofs.windows.three_cells.Goals as goal

pub loop-i-preserved : goal.loop-i-preserved
loop-i-preserved c =
    let s = c in
    let l = c.loop-i in
    let two = c.first_of-two in
    let z = c.x2-1.given in (
      l.invariant.1,
      read z (ap (λ (k : ℕ). get_or s.args.line.now k (pos 0)) (sym (add_assoc l.i 1 1))),
      front-more (pos 0) _ _ (omega arith) l.invariant.2
          (three-read (order_by s.args.greatest) s.args.line.now l.i (omega arith) l.invariant.0 l.invariant.1 (read z refl) two.type_inv c.first_of.type_inv two.ensures
          c.first_of.ensures),
    )

pub returns : goal.returns
unfolding extremes
returns c = front-all (pos 0) _ (omega arith) c.loop-i.invariant.2
