-- `window` meets its contract: a line shorter than len, or a place past the last window, leaves the empty part; else
-- the part is the window.
use mathlib.Core.Path.{sym}
use native.Mathlib.Omega.{arith}
use Rattle.numbers.proofs.Window.{window-part, window_out}
use Rattle.window.proofs.part.window.Goals as goal
use Rattle.window.proofs.part.window.Goals.{then-n-len-via-then-n-len, then-n-len-via-else-n-len+then-n-len-2}

pub returns-then-n-len : goal.returns-then-n-len
returns-then-n-len c = elim c.then-n-len.branch [
  | then-n-len-via-then-n-len w ↦ sym (window_out c.args.line.now _ _ (omega arith))
  | then-n-len-via-else-n-len+then-n-len-2 w ↦ sym (window_out c.args.line.now _ _ (omega arith))
]

pub returns : goal.returns
returns c = window-part c.args.line.now _ _ (omega arith)
