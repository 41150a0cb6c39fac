-- The window of a line.
--   window_of s i len   the part of s from place i to i + len, i + len not included; the empty part where i + len passes
--                      the end of s
use Rattle.std.specs.Prelude.{ℕ, ◌+◌, cond, List, [], leb, length, take, drop}

unfoldable pub window_of : {A : Type 0} → List A → ℕ → ℕ → List A
window_of s i len = cond (leb (i + len) (length s)) (take len (drop i s)) []
