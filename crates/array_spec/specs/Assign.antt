-- A grid copied.
--   copied from to              what copying leaves: from where the lengths agree, else what was there
use Rattle.std.specs.Prelude.{cond, List, eqb, length}

abbrev pub copied : {A : Type 0} → List A → List A → List A
copied from to = cond (eqb (length from) (length to)) from to
