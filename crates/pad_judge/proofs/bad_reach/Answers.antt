-- `bad_reach` meets its contract: the closure computes the test of an axis.
use mathlib.Core.Path.{◌≡◌, refl, ap, ◌∙◌}
use mathlib.Core.List.{◌∷◌}
use Prim.Native.Nat.{ℕ, zero, suc, ◌+◌}
use native.Mathlib.Omega.{arith}
use borrow.Author.Rules.{rules}
use borrow.Author.Tests.{tests}
use lib.ListN.{length}
use Rattle.std.specs.List.{range_with_len}
use Rattle.std.proofs.lemmas.Iterator.{YieldsList-from_range}
use Rattle.std.proofs.lemmas.Iterator.Search.{any_from_yields_List}
use Rattle.numbers.specs.Lists.{tabulate, any_of}
use Rattle.pad_spec.specs.Conditions.{bad_pad_reach, bad_pad_reach_on}
use Rattle.pad_judge.proofs.bad_reach.Goals as goal

range_is : (m n : ℕ) → range_with_len m n ≡ tabulate (λ k. k) m n
unfolding tabulate
range_is m zero = refl
range_is m (suc n) = let e : m + 1 ≡ suc m = omega arith in rw e (ap (λ l. m ∷ l) (range_is (suc m) n))

pub returns : goal.returns
unfolding bad_pad_reach
returns c =
    let a = c.args in
    let t = bad_pad_reach_on a.mode a.shape.now a.pads a.count in
    any_from_yields_List t _ _ _ c.any.ensures.ran (YieldsList-from_range 0 (length a.shape.now) (length a.shape.now) refl (omega arith))
    (λ x b q k. search (rules, tests))
    ∙ ap (any_of t) (range_is 0 (length a.shape.now))
