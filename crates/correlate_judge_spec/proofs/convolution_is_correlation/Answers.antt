-- `convolution_is_correlation` meets its contract: a law for each kind of call.
use Rattle.correlate_judge_spec.proofs.Convolution.{whole_convolves, float_convolves, kernel_convolves}
use Rattle.correlate_judge_spec.proofs.convolution_is_correlation.Goals as goal

pub returns : goal.returns
returns c = record { whole = whole_convolves; float = float_convolves; kernel = kernel_convolves }
