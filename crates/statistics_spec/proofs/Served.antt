-- A line that mean and median serve, by the size of its levels, and what they then answer.
-- Assumes nothing.
use mathlib.Core.Path.{◌≡◌, sym, ap, ◌∙◌}
use mathlib.Core.Bool.{Bool, true, false, ◌||◌}
use mathlib.Core.List.{List}
use Prim.Native.Nat.{ℕ, ◌≤◌, ◌<◌}
use borrow.Author.Tests.{ltb-false, lt-ltb, le-ltb}
use lib.Dec.{ltb}
use lib.IntN.{ℤ, pos, neg_ℤ}
use lib.ListN.{length}
use Rattle.numbers.specs.Lists.{any_of}
use Rattle.numbers.specs.Ranges.{outside_z}
use Rattle.numbers.proofs.Any.{every_imp, none_any}
use Rattle.numbers.proofs.Size.{Sized, tested_sized, inside_sized}
use Rattle.numbers.proofs.Tests.{or_false, or_no, cond_yes, cond_no}
use Rattle.statistics_spec.specs.Statistics.{outside_levels, unserved, answered}

-- ---- the line
pub served_length : (l : List ℤ) → unserved l ≡ false → length l ≤ 1024
unfolding unserved
served_length l e = ltb-false 1024 (length l) (or_false (ltb 1024 (length l)) _ e).0

pub served_sized : (l : List ℤ) → unserved l ≡ false → Sized 2147483647 l
unfolding unserved
served_sized l e = tested_sized 2147483647 l (or_false (ltb 1024 (length l)) _ e).1

any_sized : (p : ℕ) (l : List ℤ) → Sized p l → any_of (outside_z (neg_ℤ (pos p)) (pos p)) l ≡ false
any_sized p l h = none_any _ l (every_imp _ _ l (λ x. inside_sized p x) h)

-- what the two tests of a level say of the line, and the test of its length
pub unserved_long : (l : List ℤ) → 1024 < length l → true ≡ unserved l
unfolding unserved
unserved_long l n = sym (ap (λ t. t || any_of outside_levels l) (lt-ltb 1024 (length l) n))

pub unserved_short : (l : List ℤ) {t : Bool} → length l ≤ 1024 → any_of outside_levels l ≡ t → t ≡ unserved l
unfolding unserved
unserved_short l n e = sym (ap (λ t. t || any_of outside_levels l) (le-ltb 1024 (length l) n) ∙ e)

-- short enough and of such levels: it is served, and the answer is the statistic
pub sized_served : (l : List ℤ) → length l ≤ 1024 → Sized 2147483647 l → unserved l ≡ false
unfolding unserved
sized_served l n h = or_no (ltb 1024 (length l)) _ (le-ltb 1024 (length l) n) (any_sized 2147483647 l h)

pub answered_served : (f : List ℤ → ℤ) (l : List ℤ) → unserved l ≡ false → answered f l ≡ f l
answered_served f l e = cond_no (unserved l) (pos 0) (f l) e

pub answered-unserved : (f : List ℤ → ℤ) (l : List ℤ) → unserved l ≡ true → pos 0 ≡ answered f l
answered-unserved f l e = sym (cond_yes (unserved l) (pos 0) (f l) e)
