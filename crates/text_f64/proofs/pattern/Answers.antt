-- `pattern` meets its contract: a NaN's pattern is a NaN, and of any other the machine makes the float.
use mathlib.Core.Path.{sym, ap, ◌∙◌}
use Rattle.std.specs.Prelude.{Some}
use Rattle.numbers.proofs.Tests.{condition_is}
use Rattle.text_f64.proofs.Patterns.{quiet_nan, nan_pattern}
use Rattle.text_f64.proofs.pattern.Goals as goal

pub returns-then-nan_bits : goal.returns-then-nan_bits
returns-then-nan_bits c =
    rw c.in_ok-n.was (ap Some (quiet_nan ∙ sym (nan_pattern c.in_ok-n.n (condition_is c.nan_bits.ensures c.if-nan_bits.true))))
