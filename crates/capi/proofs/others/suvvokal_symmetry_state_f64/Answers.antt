-- `capi::others::suvvokal_symmetry_state_f64` meets its contract: the code of the library's class.
use mathlib.Core.Path.{ap, ◌∙◌}
use Rattle.codes.specs.Codes.{code_of}
use Rattle.capi.proofs.others.suvvokal_symmetry_state_f64.Goals as goal

pub returns : goal.returns
returns c = c.code_of.ensures ∙ ap code_of c.symmetry_state_f64.ensures
