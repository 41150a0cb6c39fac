-- `ring_cells` meets its contract, from the ring's laws at the order of O: the ring covers the cells of the window, so its front is
-- the first of them.
-- The answers stand in the order of the code; `search rules` reads cells back from their 64 bits, and what `before` answered.
use mathlib.Core.Path.{refl}
use mir.Syntax.{w64}
use mir.Val.{to_z}
use Prim.Native.Nat.{◌+◌, ◌-◌}
use native.Mathlib.Omega.{arith}
use Rattle.std.proofs.Common.{rules}
use lib.ListN.{replicate}
use Rattle.numbers.proofs.Read.{read}
use Rattle.min_max_ring.specs.Ring.{no_pair}
use Rattle.min_max_ring.proofs.Ring.{Ring, ring_replaced, ring_popped, ring_kept, ring_pushed, trim_more}
use Rattle.min_max_ring.proofs.Steps.{slot_fits, next_in, back_in, behind_in, fill_begun, fill_trim, fill_trim_more, fill_pushed, sweep_trim, sweep_more, sweep_ended}
use Rattle.min_max_line.proofs.minlist.ring_cells.Goals as goal
use Rattle.min_max_line.proofs.minlist.ring_cells.Goals.{Joined-death-i, then-before, else-before+else-loop-last-test, then-death-i, else-death-i, then-leads, else-leads+else-loop-last-else-leads-test}

pub loop-i-init : goal.loop-i-init
loop-i-init g c = fill_begun g.met.O.Order.total (replicate 65 no_pair) c.requires.wide c.requires.narrow refl (search rules)

pub loop-last-init : goal.loop-last-init
loop-last-init g c = fill_trim g.met.O.Order.total c.loop-i.invariant (search rules)

pub loop-last-preserved : goal.loop-last-preserved
loop-last-preserved g c =
    fill_trim_more g.met.O.Order.total c.loop-last.invariant (search rules) (search rules) (search rules)

pub loop-i-preserved : goal.loop-i-preserved
loop-i-preserved g c = record {
  short = omega arith;
  ring =
      elim c.if-before.branch [
        | then-before w ↦ rw (w.pairs-is, w.front-is-bits, w.death-is, w.count-is) (ring_replaced g.met.O.Order.total c.loop-i.invariant.ring (search rules) (search rules))
        | else-before+else-loop-last-test w ↦
            rw (w.pairs-is, w.front-is-bits, w.death-is, w.count-is) (fill_pushed g.met.O.Order.total w.loop-last.invariant (search rules) (search rules))
      ];
}

pub offset_bounds-pairs-start : goal.offset_bounds-pairs-start
offset_bounds-pairs-start g c = slot_fits (next_in c.loop-i-2.invariant.ring c.place-start.ensures)

pub bounds-pairs-start : goal.bounds-pairs-start
bounds-pairs-start g c = next_in c.loop-i-2.invariant.ring c.place-start.ensures

-- once the front has left where it dies at this cell, the ring is one of the window that ends here
aged : (g : _) (c : Joined-death-i g) → Ring g.O.Order.le c.args.line.now c.args.len c.loop-i-2.i (c.loop-i-2.i + 1 - c.args.len) c.loop-i-2.pairs c.if-death-i.start c.if-death-i.count
    (to_z w64 c.if-death-i.front-bits) c.if-death-i.death
aged g c = elim c.if-death-i.branch [
  | then-death-i w ↦
      rw (w.start-is, w.count-is, w.front-is-bits, read w.struct_told-then-death-i-1.given.0.1 refl, w.death-is)
      (ring_popped g.met.O.Order.total c.loop-i-2.invariant.ring w.if-death-i.true w.place-start.ensures)
  | else-death-i w ↦ rw (w.start-is, w.count-is, w.front-is-bits, w.death-is) (ring_kept g.met.O.Order.total c.loop-i-2.invariant.ring w.if-death-i.false)
]

pub offset_bounds-pairs-start-then-leads : goal.offset_bounds-pairs-start-then-leads
offset_bounds-pairs-start-then-leads g c = slot_fits (elim c.if-death-i.branch [
  | then-death-i w ↦ rw w.start-is (next_in c.loop-i-2.invariant.ring w.place-start.ensures)
  | else-death-i w ↦ rw w.start-is c.loop-i-2.invariant.ring.within
])

pub bounds-pairs-start-then-leads : goal.bounds-pairs-start-then-leads
bounds-pairs-start-then-leads g c = elim c.if-death-i.branch [
  | then-death-i w ↦ rw w.start-is (next_in c.loop-i-2.invariant.ring w.place-start.ensures)
  | else-death-i w ↦ rw w.start-is c.loop-i-2.invariant.ring.within
]

pub loop-last-else-leads-init : goal.loop-last-else-leads-init
loop-last-else-leads-init g c = sweep_trim g.met.O.Order.total c.loop-i-2.invariant (aged g c.before.before.before) (search rules)

pub offset_bounds-pairs-b-in-loop-last-else-leads : goal.offset_bounds-pairs-b-in-loop-last-else-leads
offset_bounds-pairs-b-in-loop-last-else-leads g c = slot_fits (back_in c.loop-last-else-leads.invariant c.place-b.ensures)

pub bounds-pairs-b-in-loop-last-else-leads : goal.bounds-pairs-b-in-loop-last-else-leads
bounds-pairs-b-in-loop-last-else-leads g c = back_in c.loop-last-else-leads.invariant c.place-b.ensures

pub loop-last-else-leads-preserved : goal.loop-last-else-leads-preserved
loop-last-else-leads-preserved g c =
    trim_more g.met.O.Order.total c.loop-last-else-leads.invariant (search rules) (search rules) c.place-b.ensures (search rules)

pub offset_bounds-pairs-b-else-leads : goal.offset_bounds-pairs-b-else-leads
offset_bounds-pairs-b-else-leads g c = slot_fits (behind_in c.loop-last-else-leads.invariant c.place-b-else-leads.ensures)

pub bounds-pairs-b-else-leads : goal.bounds-pairs-b-else-leads
bounds-pairs-b-else-leads g c = behind_in c.loop-last-else-leads.invariant c.place-b-else-leads.ensures

pub loop-i-2-preserved : goal.loop-i-2-preserved
loop-i-2-preserved g c =
    sweep_more g.met.O.Order.total c.loop-i-2.invariant
    (elim c.if-leads.branch [
      | then-leads w ↦
          rw (w.pairs-is, w.count-is, w.front-is-bits, w.death-is)
          (ring_replaced g.met.O.Order.total (aged g c.before.before) (search rules) (search rules))
      | else-leads+else-loop-last-else-leads-test w ↦
          rw (w.pairs-is, w.count-is, w.front-is-bits, w.death-is)
          (ring_pushed g.met.O.Order.total w.loop-last-else-leads.invariant (search rules) (search rules) w.place-b-else-leads.ensures)
    ])
    c.loop-i-2-test.true

pub returns : goal.returns
returns g c = sweep_ended g.met.O.Order.total c.loop-i-2.invariant c.loop-i-2-test.false
