-- `rows` meets its contract: every row holds by computing.
use mathlib.Core.Path.{refl}
use lib.Ieee.{lt, add, sub}
use Rattle.symmetry_spec.specs.Class.{some_differs, exceeds}
use Rattle.symmetry_spec.proofs.rows.Goals as goal

pub returns : goal.returns
unfolding some_differs exceeds lt add sub
returns c =
    record {
      symmetric = refl;
      anti = refl;
      neither = refl;
      anti_middle = refl;
      empty = refl;
      even = refl;
      even_anti = refl;
      single = refl;
      zeros = refl;
      extreme = refl;
      extreme-one = refl;
      least_greatest = refl;
      below-epsilon = refl;
      at-epsilon = refl;
      above_epsilon = refl;
      near_one = refl;
      rounded = refl;
      anti_float = refl;
      anti_near = refl;
      even-float = refl;
      not_a-number = refl;
      infinite = refl;
    }
