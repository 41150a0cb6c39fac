-- `vote_row` meets its contract: the first cell, then each inner one, then the last.
use mathlib.Core.Path.{◌≡◌, ap, ◌∙◌}
use Prim.Native.Nat.{◌+◌, ◌-◌}
use native.Mathlib.Omega.{arith}
use lib.ListN.{length, length-set}
use Rattle.median_spec.specs.ByRows.{voted_at}
use Rattle.median_spec.proofs.Voted.{voted_first, voted_last, votes_table}
use Rattle.median_votes.proofs.votes.vote_row.Goals as goal

pub bounds-out-a-2 : goal.bounds-out-a-2
bounds-out-a-2 c = let s = c in omega
    (arith, c.vote_inside.auto.out, length-set s.args.out.now s.args.a c.vote_end.result, s.requires.0.two)

pub returns : goal.returns
returns c =
    let s = c in
    let f = voted_at s.args.counts.now s.args.m in
    let n = length s.args.counts.now in
    let z : 0 ≡ s.args.a - s.args.a = omega arith in
    let q : n - 2 + 1 ≡ s.args.a + 1 + (n - 2) - s.args.a = omega arith in
    votes_table _ s.args.a n s.args.out.now _ _ s.requires.0.two s.requires.1
    (c.vote_end.ensures ∙ voted_first s.args.counts.now s.args.m s.requires.0.two ∙ ap f z)
    (c.vote_end-2.ensures ∙ voted_last s.args.counts.now s.args.m (n - 2) (omega (arith, s.requires.0.two)) ∙ ap f q)
    c.vote_inside.ensures
