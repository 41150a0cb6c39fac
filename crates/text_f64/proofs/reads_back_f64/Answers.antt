-- `reads_back_f64` meets its contract by the law of that name.
use Rattle.text_f64.proofs.Returned.{float_back}
use Rattle.text_f64.proofs.reads_back_f64.Goals as goal

pub returns : goal.returns
returns c = record { float_back = float_back }
