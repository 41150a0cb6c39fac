-- Numbers that are raised above zero: every cell by 2^31, every weight by up to 65,535, so that a product of two raised
-- numbers is one multiply of the machine.
--   Raised by most x    x, raised, is 0 to most
--   Narrow s            every cell of s, raised, is below 2^32
--   raise_of w           by how much the weights w are raised: by 65,535 where one is below 0, else not at all
use Rattle.std.specs.Prelude.{ℕ, ◌≤◌, ◌≡◌, cond, List, ℤ, pos, ◌+ℤ◌}
use Rattle.std.specs.Int.Signed.{lt_z}
use Rattle.numbers.specs.Lists.{Every, any_of}

pub record Raised (by most : ℕ) (x : ℤ) : Type 0 where
  pub to : ℕ
  pub is : x +ℤ pos by ≡ pos to
  pub small : to ≤ most

abbrev pub Narrow : List ℤ → Type 0
Narrow s = Every (Raised 2147483648 4294967295) s

unfoldable pub raise_of : List ℤ → ℕ
raise_of w = cond (any_of (λ z. lt_z z (pos 0)) w) 65535 0
