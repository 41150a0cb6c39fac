-- A signed number by its sign and size, as the code takes an origin.
--   origin_of s   the signed number that a sign and a size stand for
use Rattle.std.specs.Prelude.{ℤ, pos, negsuc}
use Rattle.window.specs.declared.origin.Shift.{Shift}
use Rattle.window.specs.declared.origin.Shift.TheVariants.{On, Back}

abbrev pub origin_of : Shift → ℤ
origin_of (On k) = pos k
origin_of (Back k) = negsuc k
