-- Four terms of a float sum, each operation rounded.
--   four_more x s a p q r t    x, plus the cells of s at places a to a + 3 times p, q, r and t, added one after the
--                             other
use Rattle.std.specs.Prelude.{ℕ, ◌+◌, List, Float, get_or}
use Rattle.correlate_spec.specs.Weighed.{float_ops}

abbrev term : List Float → ℕ → Float → Float
term s a w = float_ops.product (get_or s a float_ops.past) w

abbrev pub four_more : Float → List Float → ℕ → Float → Float → Float → Float → Float
four_more x s a p q r t =
    float_ops.sum (float_ops.sum (float_ops.sum (float_ops.sum x (term s a p)) (term s (a + 1) q)) (term s (a + 2) r))
    (term s (a + 3) t)
