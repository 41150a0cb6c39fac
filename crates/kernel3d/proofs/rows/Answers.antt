-- `rows` meets its contract: every row holds by computing.
use mathlib.Core.Path.{refl}
use Rattle.kernel3d.proofs.rows.Goals as goal

pub returns : goal.returns
returns c =
    record {
      star = refl;
      ball = refl;
      full = refl;
      star_faces = refl;
      star_count = refl;
      ball_count = refl;
      full_count =
          refl;
    }
