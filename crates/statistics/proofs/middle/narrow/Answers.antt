-- `narrow` meets its contract: the levels are stored from the front, and each fits 32 bits.
use Prim.Native.Nat.{ℕ, ◌≤◌}
use mathlib.Core.Path.{◌≡◌, refl, ap, ◌∙◌}
use mathlib.Core.Bool.{false}
use mathlib.Core.List.{List}
use native.Mathlib.Omega.{arith}
use borrow.Author.Rules.{rules}
use lib.IntN.{ℤ, pos, nat_abs}
use lib.ListN.{get_or}
use mir.Syntax.{w32}
use Rattle.numbers.proofs.Read.{read}
use Rattle.numbers.proofs.Size.{member_sized}
use Rattle.numbers.proofs.Stored.{front-more, front-all}
use Rattle.numbers.proofs.Tabulate.{tabulate_members}
use Rattle.numbers.specs.Lists.{tabulate}
use Rattle.statistics_spec.specs.Statistics.{unserved}
use Rattle.statistics_spec.proofs.Offset.{level_fits, level-read}
use Rattle.statistics_spec.proofs.Served.{served_sized}
use Rattle.statistics.proofs.middle.narrow.Goals as goal

level_size : (l : List ℤ) (k : ℕ) → unserved l ≡ false → nat_abs (get_or l k (pos 0)) ≤ 2147483647
level_size l k served = (member_sized 2147483647 l (served_sized l served) k).size

pub overflow_cast-levels : goal.overflow_cast-levels
overflow_cast-levels c =
    let l = c.args.line.now in
    let k = c.loop-k.k in
    level_fits w32 (omega arith) (get_or l k (pos 0)) (level_size l k c.requires.line_value) (read (search rules) refl)

pub loop-k-preserved : goal.loop-k-preserved
loop-k-preserved c =
    front-more (pos 0) _ _ (search rules) c.loop-k.invariant
    (level-read w32 (omega arith) _ (level_size c.args.line.now c.loop-k.k c.requires.line_value) (read (search rules) refl))

pub returns : goal.returns
returns c =
    let l = c.args.line.now in
    front-all (pos 0) (λ k. get_or l k (pos 0)) (search rules) c.loop-k.invariant ∙ ap (tabulate (λ k. get_or l k (pos 0)) 0) c.requires.levels_len ∙ tabulate_members (pos 0) l
