-- What a call answers, as the number of the papers.
--   refusal_number r   the number of a refusal
--   answer_number a    0, accepted, or the number of the refusal
use Rattle.std.specs.Prelude.{ℕ, Result, Ok, Err}
use Rattle.numbers.specs.declared.Refusal.{Refusal}
use Rattle.numbers.specs.declared.Refusal.TheVariants.{Shape, Length, Level, SingleCell, Kernel, Weight, Origin, Axis}
use Rattle.numbers.specs.declared.Refusal.TheVariants.{Constant, Pads, Reach, Sum, Mark, Count, Step, Unknown}

abbrev pub refusal_number : Refusal → ℕ
refusal_number Shape = 1
refusal_number Length = 2
refusal_number Level = 3
refusal_number SingleCell = 4
refusal_number Kernel = 5
refusal_number Weight = 6
refusal_number Origin = 7
refusal_number Axis = 8
refusal_number Constant = 9
refusal_number Pads = 10
refusal_number Reach = 11
refusal_number Sum = 12
refusal_number Mark = 13
refusal_number Count = 14
refusal_number Step = 15
refusal_number Unknown = 100

abbrev pub answer_number : Result Unit Refusal → ℕ
answer_number (Ok _) = 0
answer_number (Err r) = refusal_number r
