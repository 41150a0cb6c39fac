-- What a one-axis call promises, in the words of a list of calls: its promise is one step of a run.
--   CallStep le     a call that promises the number and the levels of the order le gets the number that the run gives
--                   it, and
--                   what the next call reads is what `after` says: the output where the number is 0, else the levels as
--                   before
--   CallsAreSteps   the same of minimum and of maximum calls
use Rattle.std.specs.Prelude.{ℕ, ◌≡◌, Bool, cond, List, eqb, ℤ}
use Rattle.std.specs.Int.Signed.{le_z}
use Rattle.numbers.specs.Order.{at_least}
use Rattle.numbers.specs.Refusal.{Answers}
use Rattle.min_max_spec.specs.Call.{Call, call_judged, number_of}
use Rattle.min_max_spec.specs.Run.{answer_of, after}

pub record CallStep (le : ℤ → ℤ → Bool) : Type 0 where
  pub number : (cells : List ℤ) (c : Call) (r : ℕ) (left : List ℤ)
      → Answers (call_judged cells c) (answer_of le cells c) c.out r left → r ≡ number_of cells c
  pub levels : (cells : List ℤ) (c : Call) (r : ℕ) (left : List ℤ)
      → Answers (call_judged cells c) (answer_of le cells c) c.out r left → cond (eqb r 0) left cells
      ≡ after le cells c

pub record CallsAreSteps : Type 0 where
  pub minimum : CallStep le_z
  pub maximum : CallStep at_least
