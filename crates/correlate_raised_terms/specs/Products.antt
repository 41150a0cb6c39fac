-- Products of a raised cell and a raised weight.
--   lowered s                   s with 2^31 taken from every cell: the line whose raised cells s holds
--   RaisedWeight by w k v       v is weight k, raised by by; it is small enough
--   product s a v               the cell at place a, raised, times v
--   four_products s a p q r t    the products of the cells at places a to a + 3 and p, q, r and t, in one sum
use Rattle.std.specs.Prelude.{ℕ, ◌+◌, ◌≤◌, ◌≡◌, List, map, ℤ, pos, ◌+ℤ◌, ◌-ℤ◌, ◌*ℤ◌, get_or}

abbrev pub lowered : List ℤ → List ℤ
lowered s = map (λ x. x -ℤ pos 2147483648) s

pub record RaisedWeight (by : ℕ) (w : List ℤ) (k v : ℕ) : Type 0 where
  pub is : pos v ≡ get_or w k (pos 0) +ℤ pos by
  pub small : v ≤ 131070

abbrev pub product : List ℤ → ℕ → ℕ → ℤ
product s a v = (get_or s a (pos 0) +ℤ pos 2147483648) *ℤ pos v

abbrev pub four_products : List ℤ → ℕ → ℕ → ℕ → ℕ → ℕ → ℤ
four_products s a p q r t = product s a p +ℤ product s (a + 1) q +ℤ product s (a + 2) r +ℤ product s (a + 3) t
