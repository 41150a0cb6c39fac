-- `vote_inside` meets its contract: each turn stores the vote of one cell.
use mathlib.Core.Path.{◌≡◌, ap, ◌∙◌}
use Prim.Native.Nat.{◌+◌, ◌-◌}
use native.Mathlib.Omega.{arith}
use lib.ListN.{length}
use Rattle.median_spec.specs.ByRows.{voted_at}
use Rattle.median_spec.proofs.Voted.{voted_inside, votes-none, votes-more, votes-inside}
use borrow.Author.Rules.{rules}
use Rattle.median_votes.proofs.votes.vote_inside.Goals as goal

pub loop-i-init : goal.loop-i-init
loop-i-init c = (search rules, votes-none _ _ _)

pub overflow_add-out-in-loop-i : goal.overflow_add-out-in-loop-i
overflow_add-out-in-loop-i c = let P = c.requires.0 in let i = c.loop-i.i in omega (arith, P.small i, P.small (i + 1), P.small (i + 2))

pub overflow_add-out-in-loop-i-3 : goal.overflow_add-out-in-loop-i-3
overflow_add-out-in-loop-i-3 c = let P = c.requires.0 in let i = c.loop-i.i in omega (arith, P.small i, P.small (i + 1), P.small (i + 2))

pub bounds-out-b : goal.bounds-out-b
bounds-out-b c = let s = c in let l = c.loop-i in omega (arith, l.invariant.0, l.invariant.1.kept, s.requires.0.two)

pub loop-i-preserved : goal.loop-i-preserved
loop-i-preserved c =
    let s = c in
    let l = c.loop-i in
    let q : l.i + 1 ≡ s.args.a + 1 + l.i - s.args.a = omega arith in (
      l.invariant.0,
      votes-more _ _ _ _ (omega (arith, l.invariant.0, s.requires.0.two)) l.invariant.1
          (voted_inside s.args.counts.now s.args.m l.i (omega arith) ∙ ap (voted_at s.args.counts.now s.args.m) q),
    )

pub returns : goal.returns
returns c =
    let s = c in
    let l = c.loop-i in
    votes-inside _ (s.args.a + 1) l.i (length s.args.counts.now - 2) s.args.out.now (omega (arith, l.auto.i-end)) l.invariant.1
