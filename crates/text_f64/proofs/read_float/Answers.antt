-- `read_float` meets its contract: nan, or what `pattern` says of the digits.
use mathlib.Core.Path.{ap}
use Rattle.std.specs.Prelude.{Some}
use Rattle.numbers.proofs.Tests.{condition_is}
use Rattle.text_f64.proofs.Patterns.{quiet_nan}
use Rattle.text_f64.proofs.read_float.Goals as goal

pub returns-then-is_nan : goal.returns-then-is_nan
returns-then-is_nan c = rw (condition_is c.is_nan.ensures c.if-is_nan.true) (ap Some quiet_nan)
