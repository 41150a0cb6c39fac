-- `rows` meets its contract: every row holds by computing.
use mathlib.Core.Path.{refl, sym}
use Rattle.pad_copy_axis.proofs.rows.Goals as goal

pub returns : goal.returns
returns c = record {
  nearest_before = record { first = refl; on = refl; back = refl };
  mirror_before = record { first = refl; on = refl; back = refl };
  reflect_before = record { first = refl; on = refl; back = refl };
  wrap_before = record { first = refl; on = refl; back = refl };
  nearest_after = record { first = refl; on = refl; back = refl };
  mirror_after = record { first = refl; on = refl; back = refl };
  reflect_after = record { first = refl; on = refl; back = refl };
  wrap_after = record { first = refl; on = refl; back = refl };
  first_only = λ from up down s. sym s.first;
  on_only = λ from up down s. sym s.on;
  back_only = λ from up down s. sym s.back;
}
