-- The weights of a kernel in the order in which they are applied, over any element.
--   directed backward w   the weights w in the caller's order, or, where backward is true, from the last to the first
use Rattle.std.specs.Prelude.{Bool, cond, List, reverse}

abbrev pub directed : {A : Type 0} → Bool → List A → List A
directed backward w = cond backward (reverse w) w
