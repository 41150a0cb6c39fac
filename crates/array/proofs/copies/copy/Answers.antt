-- `copy` meets its contract: the cells are stored from the front, and in the end they are those of `from`.
use mathlib.Core.Path.{◌≡◌, sym, ap, ◌∙◌}
use native.Mathlib.Omega.{arith}
use borrow.Author.Tests.{eq-eqb}
use lib.IntN.{pos}
use lib.ListN.{length, get_or}
use Rattle.numbers.specs.Lists.{tabulate}
use Rattle.numbers.proofs.Tests.{cond_yes}
use Rattle.numbers.proofs.Stored.{front-all}
use Rattle.numbers.proofs.Tabulate.{tabulate_members}
use Rattle.array.proofs.copies.copy.Goals as goal

pub returns-after-loop-i : goal.returns-after-loop-i
returns-after-loop-i c = let l = c.loop-i in
    let s = c.args in
    let e : length s.from.now ≡ length s.to.now = l.invariant.0 in
    front-all (pos 0) _ (omega arith) l.invariant.1 ∙ ap (tabulate (λ k. get_or s.from.now k (pos 0)) 0) (sym e) ∙ tabulate_members (pos 0) s.from.now ∙ sym (cond_yes _ _ _ (eq-eqb _ _ e))
