-- `unknown_any` meets its contract: the closure computes the test of an axis.
use mathlib.Core.Path.{◌≡◌, refl, ◌∙◌}
use mathlib.Core.Bool.{Bool}
use Prim.Native.Nat.{ℕ, zero, suc, ◌+◌}
use native.Mathlib.Omega.{arith}
use borrow.Author.Rules.{rules}
use borrow.Author.Tests.{tests}
use lib.ListN.{length}
use Rattle.std.specs.List.{range_with_len}
use Rattle.std.proofs.lemmas.Iterator.{YieldsList-from_range}
use Rattle.std.proofs.lemmas.Iterator.Search.{any_from_yields_List}
use Rattle.numbers.specs.Lists.{tabulate, any_of}
use Rattle.codes.specs.Codes.{unknown_border}
use Rattle.codes_cells.specs.Borders.{code_at}
use Rattle.codes_cells.proofs.borders.unknown_any.Goals as goal

-- the test of each axis, as of a list of codes
any_range : (t : ℕ → Bool) (f : ℕ → ℕ) (m n : ℕ) → any_of (λ a. t (f a)) (range_with_len m n) ≡ any_of t (tabulate f m n)
unfolding tabulate
any_range t f m zero = refl
any_range t f m (suc n) = let e : m + 1 ≡ suc m = omega arith in rw e (rw (any_range t f (suc m) n) refl)

pub returns : goal.returns
returns c =
    let n = length c.args.shape.now in
    any_from_yields_List (λ a. unknown_border (code_at c.args.codes.now a)) _ _ _ c.any.ensures.ran (YieldsList-from_range 0 n n refl (omega arith))
    (λ x b q k. search (rules, tests))
    ∙ any_range unknown_border (code_at c.args.codes.now) 0 n
