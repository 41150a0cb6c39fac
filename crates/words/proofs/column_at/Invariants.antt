-- `column_at` meets its contract: the invariant is `Counting`.
use Rattle.words.proofs.Column.{Counting}
use Rattle.words.proofs.column_at.Given as goal

abbrev pub invariant-loop-i : goal.invariant-loop-i
invariant-loop-i l = Counting l.end l.other l.table l.place l.left l.start l.i
