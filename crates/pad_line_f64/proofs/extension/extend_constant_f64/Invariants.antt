-- `pad_line_f64::extension::extend_constant_f64` meets its contract: the two rims are filled with the constant, which belongs there.
use Prim.Native.Nat.{◌+◌, ◌-◌, ◌≤◌}
use lib.Ieee.{nan}
use Rattle.border.specs.Border.{constant}
use Rattle.pad_line.proofs.Rims.{Filled}
use Rattle.pad_line_f64.proofs.extension.extend_constant_f64.Given as goal

abbrev pub invariant-loop-i : goal.invariant-loop-i
invariant-loop-i l = Filled nan (constant l.c) l.left l.n l.initial.line l.line l.i

abbrev pub invariant-loop-j : goal.invariant-loop-j
invariant-loop-j l = Filled nan (constant l.c) l.left l.n l.initial.line l.line l.j
