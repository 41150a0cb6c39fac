-- `reads_back` meets its contract by the law of that name.
use Rattle.text_spec.proofs.Returned.{signed_back}
use Rattle.text_spec.proofs.reads_back.Goals as goal

pub returns : goal.returns
returns c = record { signed_back = signed_back }
