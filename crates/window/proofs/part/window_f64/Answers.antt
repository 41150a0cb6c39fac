-- `window_f64` meets its contract: a line shorter than len, or a place past the last window, leaves the empty part; else
-- the part is the window.
use mathlib.Core.Path.{sym}
use native.Mathlib.Omega.{arith}
use Rattle.numbers.proofs.Window.{window-part, window_out}
use Rattle.window.proofs.part.window_f64.Goals as goal
use Rattle.window.proofs.part.window_f64.Goals.{then-count-len-via-then-count-len, then-count-len-via-else-count-len+then-count-len-2}

pub returns-then-count-len : goal.returns-then-count-len
returns-then-count-len c = elim c.then-count-len.branch [
  | then-count-len-via-then-count-len w ↦ sym (window_out c.args.line.now _ _ (omega arith))
  | then-count-len-via-else-count-len+then-count-len-2 w ↦ sym (window_out c.args.line.now _ _ (omega arith))
]

pub returns : goal.returns
returns c = window-part c.args.line.now _ _ (omega arith)
