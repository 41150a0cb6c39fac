-- The borders that the entry points read from two slices, a code and a constant for each axis.
--   code_at codes a            the code of axis a; 255, which names no border, where it is missing
--   mode_at codes constants a  the mode of axis a; a missing constant is 0
--   modes_of codes constants   the three modes that the grid calls take
--   unknown_borders codes ns   whether the code of some axis of the shape names no border; those past the axis count
--                             are neither read nor judged
use Rattle.std.specs.Prelude.{ℕ, Bool, List, [], ◌∷◌, ℤ, pos, length, get_or}
use Rattle.numbers.specs.Lists.{tabulate, any_of}
use Rattle.border.specs.declared.BorderMode.{BorderMode}
use Rattle.codes.specs.Codes.{mode_of, unknown_border}

abbrev pub code_at : List ℕ → ℕ → ℕ
code_at codes a = get_or codes a 255

abbrev pub mode_at : List ℕ → List ℤ → ℕ → BorderMode
mode_at codes constants a = mode_of (code_at codes a) (get_or constants a (pos 0))

abbrev pub modes_of : List ℕ → List ℤ → List BorderMode
modes_of codes constants = mode_at codes constants 0 ∷ mode_at codes constants 1 ∷ mode_at codes constants 2 ∷ []

abbrev pub unknown_borders : List ℕ → List ℕ → Bool
unknown_borders codes ns = any_of unknown_border (tabulate (code_at codes) 0 (length ns))
