-- `bad_fields` meets its contract: the closure computes the test of a place.
use mathlib.Core.Path.{◌≡◌, refl, ap, ◌∙◌}
use mathlib.Core.List.{◌∷◌}
use Prim.Native.Nat.{ℕ, zero, suc, ◌+◌}
use native.Mathlib.Omega.{arith}
use borrow.Author.Rules.{rules}
use borrow.Author.Tests.{tests}
use Rattle.std.specs.List.{range_with_len}
use Rattle.std.proofs.lemmas.Iterator.{YieldsList-from_range}
use Rattle.std.proofs.lemmas.Iterator.Search.{any_from_yields_List}
use Rattle.numbers.specs.Lists.{tabulate, any_of}
use Rattle.recipe_fields.specs.Fields.{bad_fields}
use Rattle.recipe_fields.proofs.Judge.{unheld}
use Rattle.recipe_fields.proofs.writer.bad_fields.Goals as goal

range_is : (m n : ℕ) → range_with_len m n ≡ tabulate (λ k. k) m n
unfolding tabulate
range_is m zero = refl
range_is m (suc n) = let e : m + 1 ≡ suc m = omega arith in rw e (ap (λ l. m ∷ l) (range_is (suc m) n))

pub returns : goal.returns
unfolding bad_fields
returns c =
    let t = unheld c.args.fields.now in
    any_from_yields_List t _ _ _ c.any.ensures.ran (YieldsList-from_range 0 96 96 refl (omega arith))
    (λ x b q k. search (rules, tests))
    ∙ ap (any_of t) (range_is 0 96)
