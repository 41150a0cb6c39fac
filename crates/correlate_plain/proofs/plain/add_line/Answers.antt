-- `add_line` meets its contract: the passes by fours leave three weights, which one pass adds, or fewer, which are added one a turn. The invariant speaks of
-- whatever the row held before them. Assumes nothing.
use mathlib.Core.Path.{◌≡◌, refl}
use mathlib.Core.List.{List}
use Prim.Native.Nat.{ℕ, ◌+◌}
use native.Mathlib.Omega.{arith}
use lib.IntN.{ℤ}
use lib.ListN.{length}
use Rattle.numbers.specs.Lists.{tabulate}
use Rattle.direction.specs.Direction.{directed}
use Rattle.correlate_plain.specs.Added.{plus, three_terms, added_to}
use Rattle.correlate_plain.proofs.Passes.{Adding, adding_all, passed, one_more_lem, three-more}
use borrow.Author.Rules.{rules}
use Rattle.correlate_plain.proofs.plain.add_line.Goals as goal

pub add_three_rows-requires : goal.add_three_rows-requires
add_three_rows-requires c =
    let f = c.add_fours-taken.ensures in
    let s = c in
    (passed s.args.backward {held = s.args.out.now} (record { is = f.1 }) s.requires f.0, search rules)

-- the three that the fours left
last-three : (w s held : List ℤ) (n : ℕ) {mid new : List ℤ} → mid ≡ tabulate (added_to held w s n) 0 (length held)
    → new ≡ tabulate (plus mid (λ i. three_terms w s i n)) 0 (length mid) → Adding w s held (n + 3) new
last-three w s held n e q = three-more (record { is = e }) q

pub returns-then-count-taken-eq3 : goal.returns-then-count-taken-eq3
returns-then-count-taken-eq3 c =
    let f = c in
    let a = f.args in
    adding_all (last-three (directed a.backward a.weights.now) a.line.now a.out.now _ f.add_fours-taken.ensures.1 c.add_three_rows.ensures)
    {m = length a.weights.now} (omega arith)

pub loop-k-init : goal.loop-k-init
loop-k-init c = (refl, λ held h. h)

pub add_row-requires : goal.add_row-requires
add_row-requires c = let l = c.loop-k in
    let f = c in
    let s = f in
    (passed s.args.backward (l.invariant.1 s.args.out.now (record { is = f.add_fours-taken.ensures.1 })) s.requires (omega (arith, f.add_fours-taken.ensures.0)), search rules)

pub loop-k-preserved : goal.loop-k-preserved
loop-k-preserved c = let l = c.loop-k in (refl, λ held h. one_more_lem (l.invariant.1 held h) c.add_row.ensures)

pub returns : goal.returns
returns c = let f = c in adding_all (c.loop-k.invariant.1 f.args.out.now (record { is = f.add_fours-taken.ensures.1 })) (omega (arith, f.add_fours-taken.ensures.0))
