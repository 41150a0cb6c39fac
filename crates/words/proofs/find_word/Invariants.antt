-- `find_word` meets its contract: the invariant is `Looking`.
use Rattle.words.proofs.Column.{Looking}
use Rattle.words.proofs.find_word.Given as goal

abbrev pub invariant-loop-i : goal.invariant-loop-i
invariant-loop-i l = Looking l.table l.token l.place l.start l.i
