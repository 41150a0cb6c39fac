-- `pad_line::extension::extend_constant` meets its contract: the two rims are filled with the constant, which belongs there.
use lib.IntN.{pos}
use Rattle.border.specs.Border.{constant}
use Rattle.pad_line.proofs.Rims.{Filled}
use Rattle.pad_line.proofs.extension.extend_constant.Given as goal

abbrev pub invariant-loop-i : goal.invariant-loop-i
invariant-loop-i l = Filled (pos 0) (constant l.c) l.left l.n l.initial.line l.line l.i

abbrev pub invariant-loop-j : goal.invariant-loop-j
invariant-loop-j l = Filled (pos 0) (constant l.c) l.left l.n l.initial.line l.line l.j
